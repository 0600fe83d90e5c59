-- The goal is refused; or it is taken in, asked about and given back.
use Rattle.std.proofs.lemmas.Result.{err_from_is_err_and}
use Rattle.service.proofs.Goals.{goal_refused, goal_held}
use Rattle.service.proofs.state.Sealed.with_goal.Goals as goal

pub returns-in_err-number-clause-questioned : goal.returns-in_err-number-clause-questioned
returns-in_err-number-clause-questioned g c =
    let s = c.args.self.now in
    let p = err_from_is_err_and c.from_residual.result c.from_residual.ensures.1 in
    rw (p.1, p.2)
    (goal_refused (record { same = g.K.Key.same; reading = g.K.Written.reading }) c.args.goal.now s.draft c.take_in.new.self s.marks _
    c.in_err-number.ensures)

pub returns-clause-questioned : goal.returns-clause-questioned
returns-clause-questioned g c =
    let s = c.args.self.now in (
      _,
      _,
      c.question-answer.ensures,
      goal_held (record { same = g.K.Key.same; reading = g.K.Written.reading }) c.args.goal.now s.draft c.take_in.new.self s.marks
          g.met.K.Key.reflexive c.give_back.new.self c.in_ok-number.number c.mark-mark.result c.in_ok-number.ensures
          c.mark-mark.ensures.records c.mark-mark.ensures.names c.give_back.ensures,
    )
