use Rattle.std.proofs.Common.{[], ap, refl}
use Rattle.law.specs.Calls.{Call, refused, done}
use Rattle.service.specs.Faults.{refusal}
use Rattle.service.specs.declared.state.State.TheVariants.{Open}
use Rattle.console.specs.Answers.{change_line}
use Rattle.console.specs.Orders.{add}
use Rattle.console.proofs.drafts.add.Goals as goal
use Rattle.console.proofs.Ordering.{made_prints, handed_on}

pub returns-in_err-add : goal.returns-in_err-add
returns-in_err-add c =
    made_prints (add c.args.rule.now) (Call.add c.args.rule.now) (refused (refusal c.in_err-add.field-0.0)) [] _
    (Open c.args.draft.now) (Open c.add.new.self) refl c.in_err-add.ensures (ap change_line (handed_on c.from_residual.result c.from_residual.ensures.1))

pub returns : goal.returns
returns c =
    made_prints (add c.args.rule.now) (Call.add c.args.rule.now) done [] _
    (Open c.args.draft.now) (Open c.add.new.self) refl c.in_ok-add.ensures refl
