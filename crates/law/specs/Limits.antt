-- The limits of the service.
use Rattle.std.specs.Prelude.{ℕ}

-- so many suppositions may stand
abbrev pub most_suppositions : ℕ
most_suppositions = 32

-- the largest budget of a question
abbrev pub largest_budget : ℕ
largest_budget = 1_000_000

-- so many bytes a tree or its buffer may have
abbrev pub tree_bytes : ℕ
tree_bytes = 16_384
