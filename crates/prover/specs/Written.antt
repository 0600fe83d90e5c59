-- What a buffer holds of a text whose length is kept though the buffer may be too short.
use Rattle.std.specs.Prelude.{◌≡◌, ℕ, ◌+◌, List, ◌++◌, length, take}

-- the text of length n was kept in out; then t was written behind it, and out' keeps what fits of both
pub record Wrote (out : List ℕ) (n : ℕ) (t : List ℕ) (out' : List ℕ) (n' : ℕ) : Type 0 where
  pub longer : n' ≡ n + length t
  pub holds : take n' out' ≡ take (length out) (take n out ++ t)
