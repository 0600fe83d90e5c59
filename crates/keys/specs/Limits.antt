-- The limit of a register.
use Rattle.std.specs.Prelude.{ℕ}

-- at most so many keys have a number
abbrev pub most_names : ℕ
most_names = 64
