-- The tree's length is looked at, and the tree is checked.
use Rattle.std.proofs.Common.{of_calls}
use Rattle.std.proofs.lemmas.Result.{err_from_is_err_and}
use Rattle.prover.specs.Settings.{allowed}
use Rattle.service.proofs.Asking.{checks, does_check_bytes}
use Rattle.service.proofs.state.Sealed.check.Goals as goal

pub returns-in_err-check_size : goal.returns-in_err-check_size
returns-in_err-check_size g c =
    let p = err_from_is_err_and c.from_residual.result c.from_residual.ensures.1 in
    rw (p.1, p.2, c.in_err-check_size.ensures.fault)
    (does_check_bytes (record { same = g.K.Key.same; reading = g.K.Written.reading }) c.args.goal.now c.args.tree.now (allowed c.args.restart)
    c.args.self.now c.in_err-check_size.ensures.long)

pub returns : goal.returns
returns g c =
    checks (record { same = g.K.Key.same; reading = g.K.Written.reading }) c.args.goal.now c.args.tree.now c.args.restart c.args.self.now
    c.with_goal.new.self _ c.in_ok-check_size.ensures.fits (λ b n v a. search of_calls) c.with_goal.result c.with_goal.ensures.questioned
