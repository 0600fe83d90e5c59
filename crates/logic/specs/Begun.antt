-- The barred test by one mask: sets only grow on the way down, so a query can only repeat one that was begun
-- since the set last grew.
use Rattle.std.specs.Prelude.{◌≡◌, ℕ, zero, ◌^◌, ◌↔◌, List, [], ◌∷◌, ◌≢◌, bit_or}
use Rattle.logic.specs.Sets.{Has, Within}
use Rattle.logic.specs.Search.{Query, On}

-- Tracks way S names: each set on the way is within S, and `names` is the set of the names begun with S itself
pub record Tracks (way : List Query) (S names : ℕ) : Type 0 where
  pub grown : (q : Query) → On q way → Within q.in_force S
  pub begun : (x : ℕ) → On (record { in_force = S; name = x }) way ↔ Has names x

-- At the start no name is begun; a query adds its name; a larger set starts with none; the same set keeps them.
pub record TracksKept : Type 0 where
  pub start : (S : ℕ) → Tracks [] S zero
  pub begin : (way : List Query) (S names x : ℕ) → Tracks way S names → Tracks (record { in_force = S; name = x } ∷ way) S (bit_or names (2 ^ x))
  pub larger : (way : List Query) (S names B : ℕ) → Tracks way S names → (bit_or S B ≢ S) → Tracks way (bit_or S B) zero
  pub same : (way : List Query) (S names B : ℕ) → Tracks way S names → bit_or S B ≡ S → Tracks way (bit_or S B) names
