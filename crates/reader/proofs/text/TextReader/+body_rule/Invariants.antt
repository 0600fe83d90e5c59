use Rattle.std.proofs.Common.{suc, ◌+◌, ◌-◌, ◌*◌}
use Rattle.reader.specs.Limits.{deepest, most_bodies}
use Rattle.reader.proofs.TextLemmas.{Looping}
use Rattle.reader.proofs.text.TextReader.+body_rule.Given as goal

-- the depths that are left fall from a body to the rule in it, and stay from a rule to its bodies
abbrev pub decreases-body : goal.decreases-body
decreases-body l = 2 * l.rest

abbrev pub decreases-rule : goal.decreases-rule
decreases-rule l = 2 * l.rest + 1

abbrev pub invariant-rule-loop-self : goal.invariant-rule-loop-self
invariant-rule-loop-self l = Looping (suc (deepest - l.rest)) l.initial.self l.self l.bodies l.link

abbrev pub decreases-rule-loop-self : goal.decreases-rule-loop-self
decreases-rule-loop-self l = most_bodies - l.bodies
