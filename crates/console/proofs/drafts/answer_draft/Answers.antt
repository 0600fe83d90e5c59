use Rattle.std.proofs.Common.{ap, ◌∙◌}
use Rattle.service.specs.declared.state.State.TheVariants.{Open}
use Rattle.console.specs.Answers.{change_line}
use Rattle.console.specs.Orders.{order_read, ordered}
use Rattle.console.specs.Texts.{text}
use Rattle.console.proofs.drafts.answer_draft.Goals as goal
use Rattle.console.proofs.Ordering.{answered}

pub returns : goal.returns
returns c whole kept =
    answered (order_read c.read_order.result) (text c.args.line.now) whole (Open c.args.draft.now) (Open c.obey_draft.new.draft)
    _ _ (c.read_order.ensures ∙ ap ordered c.as_bytes.ensures) kept c.done.ensures c.in_ok-obey_draft.ensures
