use Rattle.std.proofs.Common.{true, ap, refl, sym, subst}
use Rattle.service.specs.declared.state.State.TheVariants.{Open}
use Rattle.console.specs.Console.{call_of}
use Rattle.console.specs.Orders.{order_read}
use Rattle.console.proofs.drafts.obey_draft.Goals as goal
use Rattle.console.proofs.Ordering.{Elsewhere, other_prints, draft_not_taken, not_of_draft}

pub returns-in_default : goal.returns-in_default
returns-in_default c =
    other_prints (order_read c.args.order) _ (Open c.args.draft.now) (ap (λ o. call_of (order_read o)) c.in_default.is) refl

pub returns-in_default-order : goal.returns-in_default-order
returns-in_default-order c =
    draft_not_taken (order_read c.args.order) _ c.args.draft.now
    (subst (λ o. Elsewhere true (order_read o)) (sym c.in-Some.is) (not_of_draft c.in-Some.order c.in_default-order.not-Add c.in_default-order.not-Seal))
    refl
