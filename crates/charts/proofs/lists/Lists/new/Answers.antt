use Rattle.std.proofs.Common.{arith}
use Rattle.charts.specs.Filling.Refused.{misfit}
use Rattle.charts.proofs.lists.Lists.new.Goals as goal

pub returns-then-size-lt1-clause-refused : goal.returns-then-size-lt1-clause-refused
returns-then-size-lt1-clause-refused c = misfit (λ fits. omega arith)
