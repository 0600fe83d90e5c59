-- The lemmas on a search that fails and on one that succeeds.
use Rattle.logic.proofs.Failure.{failure_right}
use Rattle.logic.proofs.Success.{success_right}
use Rattle.logic.proofs.SearchRight.{search_right, restart_search_right}
use Rattle.logic.proofs.search_is_right.Goals as goal

pub returns : goal.returns
returns c = record { failure = failure_right; success = success_right; charts = search_right; restart_charts = restart_search_right }
