use Rattle.std.proofs.Common.{not-suc-le-zero}
use Rattle.charts.specs.BitLaws.{bit_zero}
use Rattle.charts.proofs.bits.bits_where.Goals as goal

pub loop-k-init : goal.loop-k-init
loop-k-init g c = record { answers = λ j h. absurd (not-suc-le-zero h); beyond = λ j _. bit_zero j }
