-- The theorem is the lemma `example_runs`.
use Rattle.law.proofs.Example.{example_runs}
use Rattle.law.proofs.example_stands.Goals as goal

pub returns : goal.returns
returns c = example_runs
