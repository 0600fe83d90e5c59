-- What the search answers is right: with the theorems on its trees and on the trees themselves.
use Rattle.logic.specs.Rules.{head_of, supposing}
use Rattle.logic.specs.Search.{Setting, Query}
use Rattle.logic.specs.Theorems.{SearchRight, RestartSearchRight}
use Rattle.std.proofs.Common.{true, false, []}
use Rattle.logic.proofs.Sound.{goal_sound, restart_sound}
use Rattle.logic.proofs.Success.{success_right}
use Rattle.logic.proofs.Failure.{failure_right}
use Rattle.logic.proofs.Complete.{complete}
use Rattle.logic.proofs.RestartComplete.{restart_complete}

pub search_right : SearchRight
search_right book wf S q budget k l =
    let s : Setting = record { book = book; restart = false; goal = head_of book q; budget = budget } in
    let asked : Query = record { in_force = supposing book S q; name = head_of book q } in
    (λ t a. goal_sound book wf S q (success_right s [] asked 0 k t a).0, λ a. complete book wf S q l (failure_right s asked 0 k a))

pub restart_search_right : RestartSearchRight
restart_search_right book wf S q budget k l =
    let s : Setting = record { book = book; restart = true; goal = head_of book q; budget = budget } in
    let asked : Query = record { in_force = supposing book S q; name = head_of book q } in
    (λ t a. restart_sound book wf S q (success_right s [] asked 0 k t a).0, λ a. restart_complete book wf S q l (failure_right s asked 0 k a))
