-- Feature codes: which are the same, and which one stands at a place.
use Rattle.std.specs.Prelude.{ℕ, ◌+◌, ◌*◌, ◌≤◌, Bool, ◌&&◌, List, length, ◌==◌, slice_index}
use Rattle.std.specs.List.{All}
use Rattle.reader.specs.declared.feature_code.FeatureCode.{FeatureCode}
use Rattle.reader.specs.Codes.{Reads}
use Rattle.reader.specs.Tree.{Rule, places}

-- the same class and the same feature
abbrev pub same_code : FeatureCode → FeatureCode → Bool
same_code x y = x.class == y.class && x.feature == y.feature

-- the feature code whose first byte stands at p: two bytes of class, high byte first, and one byte of feature
abbrev pub code_at : List ℕ → ℕ → FeatureCode
code_at bs p = record { class = 256 * slice_index bs p + slice_index bs (p + 1); feature = slice_index bs (p + 2) }

-- the feature code of zeros
abbrev pub no_code : FeatureCode
no_code = record { class = 0; feature = 0 }

-- a whole feature code stands at p
abbrev pub Whole : List ℕ → ℕ → Type 0
Whole bs p = p + 3 ≤ length bs

-- a whole feature code stands at the place of each head
abbrev pub HeadsWhole : Type 0
HeadsWhole = (bs : List ℕ) (t : Rule) → Reads bs t → All (Whole bs) (places t)
