use Rattle.std.proofs.Common.{ap}
use Rattle.law.specs.Calls.{refused}
use Rattle.service.specs.Faults.{refusal}
use Rattle.console.specs.Answers.{line_of}
use Rattle.console.proofs.sealed.ask.Goals as goal
use Rattle.console.proofs.Ordering.{handed_on}

pub returns-in_err-outcome-clause-answers : goal.returns-in_err-outcome-clause-answers
returns-in_err-outcome-clause-answers c = (
  refused (refusal c.in_err-outcome.field-0.0),
  c.ask.new.tree,
  c.in_err-outcome.ensures,
  ap (line_of c.args.printed.now) (handed_on c.from_residual.result c.from_residual.ensures.1),
)
