use Rattle.std.proofs.Common.{rules, Err, ◌≡◌, ℕ, ◌+◌, List, length, get_or, sym, ap, ◌∙◌, subst, arith}
use Rattle.keys.specs.Registers.{keys_in, slots_of, room, Entered, LeftOut}
use Rattle.keys.proofs.Numbering.{front_trans}
use Rattle.reader.specs.Written.{Reading, KeyAt, mentions, places}
use Rattle.book.specs.KeyLists.{numbers_in, Numbers}
use Rattle.book.proofs.AllNumbered.{entered_front, entered_below, next_number, no_number, all_met, SoFar}
use Rattle.book.proofs.numbering.enter_keys.Goals as goal

pub push-requires-clause-named : goal.push-requires-clause-named
push-requires-clause-named g c =
    omega (arith, entered_below g.K.Key.same g.met.K.Key.reflexive c.in_ok-number.ensures.result, c.used-in-loop-place.ensures)

pub push-requires-clause-grown : goal.push-requires-clause-grown
push-requires-clause-grown g c =
    omega (arith, (entered_front g.K.Key.same c.in_ok-number.ensures.result).1, c.used-in-loop-place.ensures, c.loop-place.invariant.3)

pub returns-in_err-number-clause-numbers : goal.returns-in_err-number-clause-numbers
returns-in_err-number-clause-numbers g c = λ w read o.
    let same = g.K.Key.same in
    let s = c.args.register.now in
    let ks = keys_in c.loop-place.register in
    let f = c.in_err-number.field-0.0 in
    let p = get_or c.places-place-items.result.now c.loop-place.place-index 0 in
    let all : c.places-place-items.result.now ≡ places (mentions w) = c.places-place-items.ensures ∙ o.heads in
    let handed : c.from_residual.result ≡ Err f = search rules in
    subst (Numbers same (room (slots_of s)) (keys_in s) w (keys_in c.enter.new.self)) (sym handed)
    (no_number same g.met.K.Key.reflexive (slots_of s) (keys_in s) ks (keys_in c.enter.new.self) (mentions w) (numbers_in c.loop-place.numbers)
    c.loop-place.place-index p c.key_at.result (omega (arith, c.loop-place-test.true, ap length all))
    (ap (λ (ps : List ℕ). get_or ps c.loop-place.place-index 0) all)
    (subst (λ (r : Reading g.row.K.Denot). KeyAt r p c.key_at.result) read c.key_at.ensures)
    f (c.loop-place.invariant.4 w read o)
    (subst (λ (n : ℕ). LeftOut same ks c.key_at.result n p (keys_in c.enter.new.self) f) c.loop-place.invariant.0 c.in_err-number.ensures.result))

pub loop-place-preserved : goal.loop-place-preserved
loop-place-preserved g c =
    let same = g.K.Key.same in
    let e = c.in_ok-number.ensures.result in
    let s = c.args.register.now in
    let ks = keys_in c.loop-place.register in
    let p = get_or c.places-place-items.result.now c.loop-place.place-index 0 in (
      c.in_ok-number.ensures.slots ∙ c.loop-place.invariant.0,
      front_trans c.loop-place.invariant.1 (entered_front g.K.Key.same e).0,
      c.push.ensures.count ∙ ap (λ (n : ℕ). n + 1) c.loop-place.invariant.2,
      c.push.ensures.names ∙ c.used-in-loop-place.ensures,
      λ w read o.
          let all : c.places-place-items.result.now ≡ places (mentions w) = c.places-place-items.ensures ∙ o.heads in
          subst (λ (ns : List ℕ). SoFar same (room (slots_of s)) (keys_in s) (mentions w) (keys_in c.enter.new.self) ns (c.loop-place.place-index + 1))
          (sym c.push.ensures.numbers)
          (next_number same g.met.K.Key.reflexive (slots_of s) (keys_in s) ks (keys_in c.enter.new.self) (mentions w) (numbers_in c.loop-place.numbers)
          c.loop-place.place-index p c.key_at.result (omega (arith, c.loop-place-test.true, ap length all))
          (ap (λ (ps : List ℕ). get_or ps c.loop-place.place-index 0) all)
          (subst (λ (r : Reading g.row.K.Denot). KeyAt r p c.key_at.result) read c.key_at.ensures)
          c.in_ok-number.number (c.loop-place.invariant.4 w read o)
          (subst (λ (n : ℕ). Entered same ks c.key_at.result n (keys_in c.enter.new.self) c.in_ok-number.number) c.loop-place.invariant.0 e)),
    )

pub returns-clause-numbers : goal.returns-clause-numbers
returns-clause-numbers g c = λ w read o.
    let all : c.places-place-items.result.now ≡ places (mentions w) = c.places-place-items.ensures ∙ o.heads in
    all_met g.K.Key.same _ _ _ w _ c.loop-place.place-index (c.loop-place.invariant.4 w read o) (omega (arith, c.loop-place-test.false, ap length all))
