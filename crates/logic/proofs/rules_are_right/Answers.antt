-- Each clause is a lemma of `Store`.
use Rattle.logic.proofs.Store.{rules_right, restart_rules_right, rules_sound}
use Rattle.logic.proofs.rules_are_right.Goals as goal

pub returns : goal.returns
returns c = record { search = rules_right; restart_search = restart_rules_right; trees = rules_sound }
