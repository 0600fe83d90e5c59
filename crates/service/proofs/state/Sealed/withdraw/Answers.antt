-- The last mark tells how far back to cut; where there is none, nothing is supposed.
use Rattle.std.proofs.lemmas.Result.{err_from_is_err_and}
use Rattle.service.proofs.Supposing.{does_withdraw, does_withdraw_none}
use Rattle.service.proofs.state.Sealed.withdraw.Goals as goal

pub returns-in_err-last : goal.returns-in_err-last
returns-in_err-last g c =
    let s = c.args.self.now in
    let p = err_from_is_err_and c.from_residual.result c.from_residual.ensures.1 in
    rw (p.1, p.2)
    (does_withdraw_none (record { same = g.K.Key.same; reading = g.K.Written.reading }) s.draft s.marks c.pop.new.self c.pop.result
    c.in_err-last.field-0.0 c.pop.ensures.items c.pop.ensures.variant c.in_err-last.ensures.ok_part c.in_err-last.ensures.value)

pub returns : goal.returns
returns g c =
    let s = c.args.self.now in
    does_withdraw (record { same = g.K.Key.same; reading = g.K.Written.reading }) g.met.K.Key.reflexive s.draft c.give_back.new.self
    s.marks c.in_ok-last.last c.pop.new.self c.pop.result c.pop.ensures.items c.in_ok-last.ensures.ok_part c.give_back.ensures
