-- The budget and the buffer are looked at, and the goal is searched for.
use Rattle.std.proofs.Common.{of_calls, rules, tests, ap}
use Rattle.std.proofs.lemmas.Result.{err_from_is_err_and}
use Rattle.prover.specs.Settings.{allowed}
use Rattle.service.proofs.Asking.{asks, does_ask_budget, does_ask_bytes}
use Rattle.service.proofs.state.Sealed.ask.Goals as goal

pub returns-then-not-contains : goal.returns-then-not-contains
returns-then-not-contains g c =
    does_ask_budget (record { same = g.K.Key.same; reading = g.K.Written.reading }) c.args.goal.now (allowed c.args.restart) c.args.budget
    c.args.tree.now c.args.self.now (search (rules, tests))

pub returns-in_err-check_size : goal.returns-in_err-check_size
returns-in_err-check_size g c =
    let p = err_from_is_err_and c.from_residual.result c.from_residual.ensures.1 in
    rw (p.1, p.2, c.in_err-check_size.ensures.fault)
    (does_ask_bytes (record { same = g.K.Key.same; reading = g.K.Written.reading }) c.args.goal.now (allowed c.args.restart) c.args.budget
    c.args.tree.now c.args.self.now (search (rules, tests)) (search (rules, tests)) c.in_err-check_size.ensures.long)

pub returns : goal.returns
returns g c =
    asks (record { same = g.K.Key.same; reading = g.K.Written.reading }) c.args.goal.now c.args.restart c.args.budget c.args.tree.now _
    c.args.self.now c.with_goal.new.self _ (search (rules, tests)) (search (rules, tests)) c.in_ok-check_size.ensures.fits
    (λ b n o a. search of_calls) (λ e. ap (λ q. q.2.now) e) c.with_goal.result c.with_goal.ensures.questioned c.with_goal.ensures.unasked
    _ (search rules)
