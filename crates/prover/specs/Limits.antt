-- The limit of a search.
use Rattle.std.specs.Prelude.{ℕ}

-- a search may count so many queries at the most
abbrev pub most_queries : ℕ
most_queries = 1000000
