-- The theorem is the lemma `records_kept`.
use Rattle.law.proofs.RecordsKept.{records_kept}
use Rattle.law.proofs.records_kept_stands.Goals as goal

pub returns : goal.returns
returns c = records_kept
