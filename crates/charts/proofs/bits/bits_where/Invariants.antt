use Rattle.std.proofs.Common.{◌≡◌, ℕ, ◌<◌, ◌≤◌, false}
use Rattle.charts.specs.Bits.{bit}
use Rattle.charts.proofs.bits.bits_where.Given as goal

-- the bits below k are answers, and the others are not set yet
abbrev pub invariant-loop-k : goal.invariant-loop-k
invariant-loop-k g l = record {
  answers : (j : ℕ) → j < l.k → goal.F-post g l.test j (bit l.word j);
  beyond : (j : ℕ) → l.k ≤ j → bit l.word j ≡ false;
}
