-- The limit of a chart.
use Rattle.std.specs.Prelude.{ℕ}

-- at most so many releases
abbrev pub most_releases : ℕ
most_releases = 64
