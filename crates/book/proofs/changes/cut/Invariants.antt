use Rattle.std.proofs.Common.{◌≡◌, ℕ, ◌%◌, ◌^◌, ◌<◌, ◌≤◌, length}
use Rattle.book.specs.Records.{set_at}
use Rattle.book.proofs.changes.cut.Given as goal

abbrev pub invariant-loop-set : goal.invariant-loop-set
invariant-loop-set l =
    (length l.sets ≡ 64)
    × ((y : ℕ) → y < l.set-index → set_at l.sets y ≡ set_at l.initial.sets y % 2 ^ l.count)
    × ((y : ℕ) → l.set-index ≤ y → set_at l.sets y ≡ set_at l.initial.sets y)
