-- The rule is read, its keys get their numbers, and its records stand behind the others; or one of these steps refuses.
use Rattle.std.proofs.Common.{◌≡◌, true, false, take, is_err, sym, ap, ◌∙◌}
use Rattle.keys.specs.Registers.{keys_in}
use Rattle.std.proofs.lemmas.Result.{err_from_is_err_and}
use Rattle.service.proofs.TakingIn.{read_as, unread_in, left_out_in, stored_in, full_in}
use Rattle.service.proofs.state.Draft.take_in.Goals as goal
use Rattle.service.proofs.state.Draft.take_in.Goals.{then-is_err, else-is_err}

pub returns-in_err-outline : goal.returns-in_err-outline
returns-in_err-outline g c =
    let p = err_from_is_err_and c.from_residual.result c.from_residual.ensures.1 in
    rw (p.1, p.2)
    (unread_in (record { same = g.K.Key.same; reading = g.K.Written.reading }) c.args.rule.now c.args.self.now
    c.in_err-outline.field-0.0 c.in_err-outline.ensures)

pub returns-in_err-numbers : goal.returns-in_err-numbers
returns-in_err-numbers g c =
    let r = read_as (g.K.Written.reading c.args.rule.now) c.in_ok-outline.outline c.in_ok-outline.ensures in
    let n = c.in_err-numbers.ensures in
    let p = err_from_is_err_and c.from_residual-in_err-numbers.result c.from_residual-in_err-numbers.ensures.1 in
    rw (p.1, p.2)
    (left_out_in (record { same = g.K.Key.same; reading = g.K.Written.reading }) c.args.rule.now c.args.self.now
    r.rule r.is c.number_keys.new.register c.in_err-numbers.field-0.0 (n.numbers r.rule r.is r.outlined) n.keys
    n.slots)

pub returns-in_err-entered : goal.returns-in_err-entered
returns-in_err-entered g c =
    let r = read_as (g.K.Written.reading c.args.rule.now) c.in_ok-outline.outline c.in_ok-outline.ensures in
    let n = c.in_ok-numbers.ensures in
    let p = err_from_is_err_and c.from_residual-in_err-entered.result c.from_residual-in_err-entered.ensures.1 in
    rw (p.1, p.2)
    (elim c.if-is_err.branch [
      | then-is_err w ↦ rw w.self-is
          (full_in (record { same = g.K.Key.same; reading = g.K.Written.reading }) c.args.rule.now c.args.self.now r.rule r.is c.in_ok-outline.outline
          r.outlined c.number_keys.new.register c.in_ok-numbers.numbers (n.numbers r.rule r.is r.outlined) n.slots c.enter-entered.new.self
          w.truncate.new.self c.in_err-entered.field-0.0 c.enter-entered.result c.in_err-entered.was c.enter-entered.ensures.entered
          c.enter-entered.ensures.refused
          (w.truncate.ensures.keys ∙ ap (λ k. take k (keys_in c.number_keys.new.register)) c.used-used.ensures) w.truncate.ensures.slots)
      | else-is_err w ↦
          let absent : true ≡ false = ap is_err (sym c.in_err-entered.was) ∙ sym c.is_err.ensures.value ∙ w.if-is_err.false in cc
    ])

pub returns : goal.returns
returns g c =
    let r = read_as (g.K.Written.reading c.args.rule.now) c.in_ok-outline.outline c.in_ok-outline.ensures in
    let n = c.in_ok-numbers.ensures in
    elim c.if-is_err.branch [
      | then-is_err w ↦
          let absent : false ≡ true = ap is_err (sym c.in_ok-entered.was) ∙ sym c.is_err.ensures.value ∙ w.if-is_err.true in cc
      | else-is_err w ↦ rw w.self-is
          (stored_in (record { same = g.K.Key.same; reading = g.K.Written.reading }) c.args.rule.now c.args.self.now r.rule r.is
          c.in_ok-outline.outline r.outlined c.number_keys.new.register c.in_ok-numbers.numbers (n.numbers r.rule r.is r.outlined) n.slots
          c.enter-entered.new.self c.in_ok-entered.field-0 c.enter-entered.result c.in_ok-entered.was n.keys c.enter-entered.ensures.entered)
    ]
