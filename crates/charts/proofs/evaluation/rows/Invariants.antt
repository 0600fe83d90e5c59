use Rattle.std.proofs.Common.{◌≡◌, ℕ, ◌<◌, slice_index}
use Rattle.charts.specs.Bits.{bit}
use Rattle.charts.proofs.evaluation.rows.Given as goal

-- the words of the releases below `release` are right
abbrev pub invariant-loop-release : goal.invariant-loop-release
invariant-loop-release g l = (w : ℕ) → w < l.release → (v : ℕ) → bit (slice_index l.word-items w) v ≡ (g.C.Chart.value l.chart).follows w v
