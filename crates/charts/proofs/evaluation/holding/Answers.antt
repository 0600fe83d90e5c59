use Rattle.std.proofs.Common.{rules}
use Rattle.charts.proofs.MaskLaws.{meets_within}
use Rattle.charts.proofs.evaluation.holding.Goals as goal

pub returns-clause-holds : goal.returns-clause-holds
returns-clause-holds c = λ w h. meets_within _ _ _ _ (let answer = c.bits_where.ensures.answers w h in search rules)
