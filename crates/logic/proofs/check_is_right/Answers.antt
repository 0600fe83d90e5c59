-- The lemmas on bytes that are accepted and on bytes that are rejected.
use Rattle.logic.proofs.Check.{check_right}
use Rattle.logic.proofs.Rejection.{rejects_right}
use Rattle.logic.proofs.check_is_right.Goals as goal

pub returns : goal.returns
returns c = record { answers = check_right; rejects = rejects_right }
