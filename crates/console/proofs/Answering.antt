-- The bytes that are kept of a line decide its answer.
use Rattle.std.proofs.Common.{◌≡◌, ℕ, ◌<◌, ◌≤◌, Bool, true, false, cond, ◌&&◌, eqb, ltb, leb, List, [], ◌∷◌, length, take, sym, refl, ap, ◌∙◌, subst, arith, length-take, take_all}
use mathlib.Core.Option.{Option, none, some}
use native.Mathlib.Decide.{dec_le}
use Rattle.reader.specs.Limits.{rule_bytes}
use Rattle.reader.specs.Readings.{refused}
use Rattle.reader.specs.Text.{oversize}
use Rattle.reader.specs.TextTotal.{text_reading}
use Rattle.reader.specs.Written.{Refusal, unread}
use Rattle.reader.proofs.TextAnswer.{one_answer}
use Rattle.law.specs.Calls.{Call, Answer, Tally, Takes, handed, of_sealed, unless_refused}
use Rattle.law.specs.Limits.{most_suppositions, largest_budget, tree_bytes}
use Rattle.law.specs.Defined.{Defined, refuses, answers, refusal, refusal_of, unless, or_else, entering, standing, next, zeros}
use Rattle.law.specs.Standing.{enter_read}
use Rattle.console.specs.Console.{names, call_of, shown, Answered, made, not_taken, other}
use Rattle.console.specs.Limits.{line_bytes, budget, room}
use Rattle.console.specs.Orders.{Ordered, add, suppose, ask, ask_again, marked, ordered}

-- a rule that is too long
abbrev too_long : Refusal
too_long = record { number = 1; place = rule_bytes }

long_unread : (rule : List ℕ) → rule_bytes < length rule → text_reading rule ≡ unread too_long
long_unread rule long = sym (one_answer rule (unread too_long) (refused (oversize long)))

-- the first refusal, or else this one
abbrev pick : Option Refusal → Refusal → Refusal
pick (some g) f = g
pick none f = f

picked : (o : Option Refusal) (f : Refusal) → or_else o (some f) ≡ some (pick o f)
picked (some g) f = refl
picked none f = refl

module _ (slots : ℕ) (t : Tally) where
  long_entering : (rule : List ℕ) → rule_bytes < length rule → entering names slots t rule ≡ some too_long
  long_entering rule long = ap (λ r. refusal_of (enter_read names slots (standing names slots t) r)) (long_unread rule long)

  -- two orders whose calls are refused alike, and taken by the same states
  record Matched (o o' : Ordered) : Type 0 where
    first : Call
    second : Call
    fault : Refusal
    first_is : call_of o ≡ some first
    second_is : call_of o' ≡ some second
    first_refused : refusal names slots t first ≡ some fault
    second_refused : refusal names slots t second ≡ some fault
    sealed_alike : of_sealed first ≡ of_sealed second

  module _ (o o' : Ordered) (m : Matched o o') where
    refused_alike : (c : Call) (a : Answer) (b : List ℕ) → c ≡ m.first → Takes t c → Defined names slots t c a b
        → Answered slots t o' (shown a b) (next names slots t c)
    refused_alike c a b is takes (refuses {f} e) =
        let here : refusal names slots t c ≡ some m.fault = ap (refusal names slots t) is ∙ m.first_refused in
        let same : f ≡ m.fault = cc in
        let there : refusal names slots t m.second ≡ some f = m.second_refused ∙ ap (λ (x : Refusal). some x) (sym same) in
        let stays : next names slots t c ≡ t = ap (unless_refused t c) e in
        let stays' : next names slots t m.second ≡ t = ap (unless_refused t m.second) there in
        subst (λ (u : Tally). Answered slots t o' (shown (Answer.refused f) (handed c)) u) (stays' ∙ sym stays)
        (made {b = handed m.second} m.second_is (takes ∙ ap of_sealed is ∙ m.sealed_alike) (refuses there))
    refused_alike c a b is takes (answers e s) =
        let here : refusal names slots t c ≡ some m.fault = ap (refusal names slots t) is ∙ m.first_refused in
        let z : ◌≡◌ {A = ℕ} 0 1 = cc in absurd (omega arith)

    matched : {p : List ℕ} {t' : Tally} → Answered slots t o p t' → Answered slots t o' p t'
    matched (made {c} {a} {b} e takes d) = let is : c ≡ m.first = cc (e, m.first_is) in refused_alike c a b is takes d
    matched (not_taken {c} e n) =
        let is : c ≡ m.first = cc (e, m.first_is) in
        not_taken m.second_is (λ k. n (k ∙ sym m.sealed_alike ∙ sym (ap of_sealed is)))
    matched (other e) = let z : ◌≡◌ {A = ℕ} 0 1 = cc (e, m.first_is) in absurd (omega arith)

  -- Alike o o': the same order, or orders that are refused alike
  data Alike : Ordered → Ordered → Type 0 where
    same : {o : Ordered} → Alike o o
    long : {o o' : Ordered} → Matched o o' → Alike o o'

  alike_cond : (b : Bool) {x x' y y' : Ordered} → Alike x x' → Alike y y' → Alike (cond b x y) (cond b x' y')
  alike_cond true p q = p
  alike_cond false p q = q

  alike_answered : {p : List ℕ} {t' : Tally} (o o' : Ordered) → Alike o o' → Answered slots t o p t' → Answered slots t o' p t'
  alike_answered o o' same a = a
  alike_answered o o' (long m) a = matched o o' m a

  module _ (xs ys : List ℕ) (l : rule_bytes < length xs) (l' : rule_bytes < length ys) where
    long_add : Alike (add xs) (add ys)
    long_add = long (record {
      first = Call.add xs;
      second = Call.add ys;
      fault = too_long;
      first_is = refl;
      second_is = refl;
      first_refused = long_entering xs l;
      second_refused = long_entering ys l';
      sealed_alike = refl;
    })

    long_suppose : Alike (suppose xs) (suppose ys)
    long_suppose =
        let early = unless (ltb (length t.supposed) most_suppositions) 30 in
        long (record {
          first = Call.suppose xs;
          second = Call.suppose ys;
          fault = pick early too_long;
          first_is = refl;
          second_is = refl;
          first_refused = ap (or_else early) (long_entering xs l) ∙ picked early too_long;
          second_refused = ap (or_else early) (long_entering ys l') ∙ picked early too_long;
          sealed_alike = refl;
        })

    abbrev early_ask : Option Refusal
    early_ask = unless (leb 1 budget && leb budget largest_budget) 32

    abbrev early_room : Option Refusal
    early_room = unless (leb (length (zeros room)) tree_bytes) 33

    ask_refused : (rule : List ℕ) → rule_bytes < length rule
        → or_else early_ask (or_else early_room (entering names slots t rule)) ≡ some (pick early_ask (pick early_room too_long))
    ask_refused rule too_many =
        ap (λ (e : Option Refusal). or_else early_ask (or_else early_room e)) (long_entering rule too_many)
        ∙ ap (or_else early_ask) (picked early_room too_long) ∙ picked early_ask (pick early_room too_long)

    long_ask : Alike (ask xs) (ask ys)
    long_ask =
        long (record {
          first = Call.ask xs budget (zeros room) false;
          second = Call.ask ys budget (zeros room) false;
          fault = pick early_ask (pick early_room too_long);
          first_is = refl;
          second_is = refl;
          first_refused = ask_refused xs l;
          second_refused = ask_refused ys l';
          sealed_alike = refl;
        })

    long_again : Alike (ask_again xs) (ask_again ys)
    long_again =
        long (record {
          first = Call.ask xs budget (zeros room) true;
          second = Call.ask ys budget (zeros room) true;
          fault = pick early_ask (pick early_room too_long);
          first_is = refl;
          second_is = refl;
          first_refused = ask_refused xs l;
          second_refused = ask_refused ys l';
          sealed_alike = refl;
        })

    -- two tails of a line that are both too long, after the same mark and byte
    alike_marked : (m b : ℕ) → Alike (marked m (b ∷ xs)) (marked m (b ∷ ys))
    alike_marked m b =
        alike_cond (eqb m 33) same
        (alike_cond (eqb m 60) same
        (alike_cond (eqb m 43) (alike_cond (eqb b 32) long_add same)
        (alike_cond (eqb m 62) (alike_cond (eqb b 32) long_suppose same)
        (alike_cond (eqb m 63) (alike_cond (eqb b 32) long_ask same)
        (alike_cond (eqb m 42) (alike_cond (eqb b 32) long_again same) same)))))

  -- the bytes that are kept order what the whole line does
  alike_kept : (whole : List ℕ) → Alike (ordered (take line_bytes whole)) (ordered whole)
  alike_kept whole = go whole (dec_le (length whole) line_bytes)
    where
      go : (w : List ℕ) → Dec (length w ≤ line_bytes) → Alike (ordered (take line_bytes w)) (ordered w)
      go w (yes short) = subst (λ (x : List ℕ). Alike (ordered x) (ordered w)) (sym (take_all line_bytes w short)) same
      go [] (no long_line) = absurd (long_line (omega arith))
      go (m ∷ []) (no long_line) = absurd (long_line (omega arith))
      go (m ∷ b ∷ rule) (no long_line) = alike_marked (take 1025 rule) rule (simp length-take (omega arith)) (omega arith) m b

  pub kept_answered : {p : List ℕ} {t' : Tally} (held whole : List ℕ) → held ≡ take line_bytes whole
      → Answered slots t (ordered held) p t' → Answered slots t (ordered whole) p t'
  kept_answered {p} {t'} held whole kept a =
      alike_answered (ordered (take line_bytes whole)) (ordered whole) (alike_kept whole)
      (subst (λ (x : List ℕ). Answered slots t (ordered x) p t') kept a)
