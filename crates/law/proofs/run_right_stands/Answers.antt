-- The theorem is the lemma `run_right`.
use Rattle.law.proofs.Runs.{run_right}
use Rattle.law.proofs.run_right_stands.Goals as goal

pub returns : goal.returns
returns g c = run_right _
