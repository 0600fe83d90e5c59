use denote.Text.{Utf8}
use denote.Shadow.{shadow}
use Rattle.compare.proofs.rules.RuleDisplay.+fmt.Given as goal

abbrev pub invariant-loop-body : goal.invariant-loop-body
invariant-loop-body g l = shadow (Utf8 l.between)
