-- What holds at one release of a chart: all the rules of a set, and a goal.
use Rattle.std.specs.Prelude.{◌≡◌, ℕ, ◌<◌, ◌≤◌, false, length, Some, None, Decides, Option}
use Rattle.logic.specs.Rules.{Book, rule_of}
use Rattle.logic.specs.Charts.{Chart, Holds, SetHolds}
use Rattle.charts.specs.declared.judging.Holding.{Holding}

-- at the release w: whether each record of the set S holds, and whether record q does; no where q is not in use;
-- nothing where w is no release of the chart
abbrev pub HoldAt : Chart → Book → ℕ → ℕ → ℕ → Option Holding → Type 0
HoldAt m book S q w None = m.size ≤ w
HoldAt m book S q w (Some h) =
    (w < m.size) × Decides h.rules (SetHolds book m w S)
    × (q < length book → Decides h.goal (Holds m w (rule_of book q))) × (length book ≤ q → h.goal ≡ false)
