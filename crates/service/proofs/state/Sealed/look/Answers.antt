-- The chart is questioned, or the goal is refused.
use Rattle.std.proofs.Common.{of_calls}
use Rattle.std.proofs.lemmas.Result.{err_from_is_err_and}
use Rattle.service.proofs.LookingAt.{does_look, does_look_refused}
use Rattle.service.proofs.state.Sealed.look.Goals as goal

pub returns-in_err-with_goal : goal.returns-in_err-with_goal
returns-in_err-with_goal g c =
    let p = err_from_is_err_and c.from_residual.result c.from_residual.ensures.1 in
    rw (p.1, p.2)
    (does_look_refused (record { same = g.K.Key.same; reading = g.K.Written.reading }) c.args.goal.now (g.C.Chart.value c.args.chart.now)
    c.args.release c.args.self.now c.with_goal.new.self _ c.in_err-with_goal.ensures.questioned)

pub returns : goal.returns
returns g c =
    let (b, n, answer, held) = c.in_ok-with_goal.ensures.questioned in
    rw c.ok_or.ensures.value
    (does_look (record { same = g.K.Key.same; reading = g.K.Written.reading }) c.args.goal.now (g.C.Chart.value c.args.chart.now)
    c.args.release c.args.self.now c.with_goal.new.self b.now n held c.in_ok-with_goal.field-0 (search of_calls))
