-- The limits of a rule as written.
use Rattle.std.specs.Prelude.{ℕ}

-- the most bytes of a rule
abbrev pub rule_bytes : ℕ
rule_bytes = 1024

-- the most bytes of a name
abbrev pub name_bytes : ℕ
name_bytes = 16

-- the deepest rule: a whole rule has depth 1, its bodies depth 2, and so on
abbrev pub deepest : ℕ
deepest = 16

-- the most bodies of a rule
abbrev pub most_bodies : ℕ
most_bodies = 8

-- the most heads: between two of them stands another byte
abbrev pub most_heads : ℕ
most_heads = 512
