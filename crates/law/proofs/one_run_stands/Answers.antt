-- The theorem is the lemma `one_run_each`.
use Rattle.law.proofs.OneRun.{one_run_each}
use Rattle.law.proofs.one_run_stands.Goals as goal

pub returns : goal.returns
returns g c = one_run_each _
