use Rattle.std.proofs.Common.{ℕ, ◌≤◌, map, length}
use Rattle.law.specs.Calls.{at_start}
use Rattle.service.specs.Represents.{Represents}
use Rattle.service.specs.Replaying.{Replaying}
use Rattle.service.proofs.replaying.replay.Given as goal

-- the bytes handed out are within the trees, and the calls so far are replayed from the state with which the loop began
abbrev pub invariant-loop-i : goal.invariant-loop-i
invariant-loop-i g l =
    (l.byte ≤ length l.trees)
    × ((slots : ℕ) → Represents (record { same = g.K.Key.same; reading = g.K.Written.reading }) slots at_start l.initial.state
    → Replaying (record { same = g.K.Key.same; reading = g.K.Written.reading }) (map g.C.Chart.value l.charts) slots l.initial.trees
    l.initial.answers l.calls l.i l.byte l.answers l.trees l.state)
