-- The lemmas on the end of a search, its outcome and its count.
use Rattle.logic.proofs.Ends.{ends, counted}
use Rattle.logic.proofs.Deterministic.{deterministic}
use Rattle.logic.proofs.Finishes.{finishes}
use Rattle.logic.proofs.search_ends.Goals as goal

pub returns : goal.returns
returns c = record { ends = ends; once = deterministic; counted = counted; finishes = finishes }
