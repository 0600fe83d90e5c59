-- The rule is taken in and put in force, or it is refused.
use Rattle.std.proofs.lemmas.Result.{err_from_is_err_and}
use Rattle.service.proofs.Doing.{does_add, does_add_refused}
use Rattle.service.proofs.state.Draft.add.Goals as goal

pub returns-in_err-number : goal.returns-in_err-number
returns-in_err-number g c =
    let p = err_from_is_err_and c.from_residual.result c.from_residual.ensures.1 in
    rw (p.1, p.2)
    (does_add_refused (record { same = g.K.Key.same; reading = g.K.Written.reading }) c.args.rule.now c.args.self.now c.take_in.new.self _
    c.in_err-number.ensures)

pub returns : goal.returns
returns g c =
    does_add (record { same = g.K.Key.same; reading = g.K.Written.reading }) c.args.rule.now c.args.self.now c.take_in.new.self
    c.in_ok-number.number c.put_in_force.new.self c.in_ok-number.ensures c.put_in_force.ensures
