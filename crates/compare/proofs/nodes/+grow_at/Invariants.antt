use Rattle.std.proofs.Common.{length, ◌≤◌}
use Rattle.std.specs.Slice.Iter.{chunk_by_rest}
use Rattle.compare.proofs.nodes.+grow_at.Given as goal

abbrev pub decreases-grow_at : goal.decreases-grow_at
decreases-grow_at l = length l.nodes.now

abbrev pub invariant-loop-group : goal.invariant-loop-group
invariant-loop-group l =
    (goal.iterator-loop-group).can_next l.group-iterator
    × (goal.iterator-loop-group).is_finite l.group-iterator
    × (length (chunk_by_rest l.group-iterator) ≤ length l.nodes)
