-- Each clause is a lemma of `Sound`.
use Rattle.logic.proofs.Sound.{sound, goal_sound, restart_sound}
use Rattle.logic.proofs.trees_are_sound.Goals as goal

pub returns : goal.returns
returns c = record { name = sound; goal = goal_sound; restart = restart_sound }
