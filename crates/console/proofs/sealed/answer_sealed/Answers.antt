use Rattle.std.proofs.Common.{ap, ◌∙◌, refl}
use Rattle.service.specs.declared.state.State.TheVariants.{Shut}
use Rattle.console.specs.Orders.{order_read, ordered}
use Rattle.console.specs.Texts.{text}
use Rattle.console.proofs.sealed.answer_sealed.Goals as goal
use Rattle.console.proofs.Ordering.{answered}

pub returns-in-Err : goal.returns-in-Err
returns-in-Err c whole kept =
    answered (order_read c.read_order.result) (text c.args.line.now) whole (Shut c.args.sealed.now) (Shut c.obey_sealed.new.sealed)
    _ _ (c.read_order.ensures ∙ ap ordered c.as_bytes.ensures) kept c.bad.ensures c.in-Err.ensures.answers

pub returns-in_default : goal.returns-in_default
returns-in_default c whole kept =
    answered (order_read c.read_order.result) (text c.args.line.now) whole (Shut c.args.sealed.now) (Shut c.obey_sealed.new.sealed)
    (text c.obey_sealed.new.printed) _ (c.read_order.ensures ∙ ap ordered c.as_bytes.ensures) kept refl c.in_default.ensures.answers
