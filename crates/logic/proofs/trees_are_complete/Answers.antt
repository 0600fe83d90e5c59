-- The lemmas of completeness, without restart and with it.
use Rattle.logic.proofs.Complete.{decided, complete}
use Rattle.logic.proofs.RestartComplete.{restart_decided, restart_complete}
use Rattle.logic.proofs.trees_are_complete.Goals as goal

pub returns : goal.returns
returns c = record { decided = decided; refuted = complete; restart_decided = restart_decided; restart_refuted = restart_complete }
