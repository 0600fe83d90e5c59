-- There is no room for one more; or the rule is taken in and put in force with a mark before it; or it is refused.
use Rattle.std.proofs.Common.{sym, arith}
use Rattle.std.proofs.lemmas.Bool.{eqb-false, eqb-true}
use Rattle.std.proofs.lemmas.Result.{err_from_is_err_and}
use Rattle.service.proofs.Supposing.{does_suppose, does_suppose_refused, does_suppose_full}
use Rattle.service.proofs.state.Sealed.suppose.Goals as goal

pub returns-then-is_full : goal.returns-then-is_full
returns-then-is_full g c =
    rw c.into.ensures
    (does_suppose_full (record { same = g.K.Key.same; reading = g.K.Written.reading }) c.args.self.now c.args.rule.now
    (λ few. omega (arith, few, eqb-true _ _ (sym c.if-is_full.ensures.value))))

pub returns-in_err-number : goal.returns-in_err-number
returns-in_err-number g c =
    let s = c.args.self.now in
    let p = err_from_is_err_and c.from_residual.result c.from_residual.ensures.1 in
    rw (p.1, p.2)
    (does_suppose_refused (record { same = g.K.Key.same; reading = g.K.Written.reading }) c.args.rule.now s.draft c.take_in.new.self
    s.marks _ (omega (arith, eqb-false _ _ (sym c.if-is_full.ensures.value), c.is_full.ensures.fits)) c.in_err-number.ensures)

pub returns : goal.returns
returns g c =
    let s = c.args.self.now in
    does_suppose (record { same = g.K.Key.same; reading = g.K.Written.reading }) c.args.rule.now s.draft c.take_in.new.self
    s.marks c.in_ok-number.number c.put_in_force.new.self c.mark-mark.result c.push.new.self
    (omega (arith, eqb-false _ _ (sym c.if-is_full.ensures.value), c.is_full.ensures.fits)) c.mark-mark.ensures.records
    c.mark-mark.ensures.names c.in_ok-number.ensures c.put_in_force.ensures c.push.ensures.items
