-- The theorem is the lemma `examples_yielded`.
use Rattle.logic.proofs.Examples.{examples_yielded}
use Rattle.logic.proofs.examples_stand.Goals as goal

pub returns : goal.returns
returns c = examples_yielded
