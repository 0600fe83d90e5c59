use Rattle.std.proofs.Common.{[], refl}
use Rattle.law.specs.Calls.{Call, done}
use Rattle.service.specs.declared.state.State.TheVariants.{Open, Shut}
use Rattle.console.specs.Orders.{seal}
use Rattle.console.specs.Texts.{text}
use Rattle.console.proofs.drafts.seal_draft.Goals as goal
use Rattle.console.proofs.Ordering.{made_prints}

pub returns : goal.returns
returns c =
    made_prints seal Call.seal done [] (text c.ok.new.line) (Open c.args.draft) (Shut c.seal.result) refl c.seal.ensures c.ok.ensures
