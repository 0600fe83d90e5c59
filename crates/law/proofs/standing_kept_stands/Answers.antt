-- The theorem is the lemma `standing_kept`.
use Rattle.law.proofs.Kept.{standing_kept}
use Rattle.law.proofs.standing_kept_stands.Goals as goal

pub returns : goal.returns
returns g c = standing_kept _
