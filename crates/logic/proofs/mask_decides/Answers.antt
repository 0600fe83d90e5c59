-- The theorem is the lemma `tracks_kept`.
use Rattle.logic.proofs.Begun.{tracks_kept}
use Rattle.logic.proofs.mask_decides.Goals as goal

pub returns : goal.returns
returns c = tracks_kept
