use Rattle.std.proofs.Common.{◌≡◌, ℕ, ◌<◌, ◌≤◌, length, get_or}
use Rattle.book.specs.Books.{records_of}
use Rattle.book.specs.Limits.{most_records}
use Rattle.charts.proofs.Evaluating.{RightAt}
use Rattle.charts.proofs.evaluation.evaluate.Given as goal

-- the masks below r are right, and the others are still empty
abbrev pub invariant-loop-r : goal.invariant-loop-r
invariant-loop-r g l = record {
  whole : length l.masks ≡ most_records;
  right : (k : ℕ) → k < l.r → RightAt (g.C.Chart.value l.chart) (records_of l.book) k (get_or l.masks k 0);
  empty : (k : ℕ) → l.r ≤ k → get_or l.masks k 0 ≡ 0;
}
