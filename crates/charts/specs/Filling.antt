-- When a make can be filled, and why it is refused.
use Rattle.std.specs.Prelude.{◌≡◌, ℕ, ◌<◌, ◌≤◌, Bool, true, false, List, length}
use Rattle.keys.specs.Limits.{most_names}
use Rattle.logic.specs.Charts.{Chart}
use Rattle.charts.specs.Limits.{most_releases}
use Rattle.charts.specs.Laws.{ReflexiveAt, TransitiveAt, PersistentAt, Reflexive, Transitive}
use Rattle.charts.specs.Makes.{charted}

-- a chart of one release, which carries nothing
abbrev pub Fresh : Chart → Type 0
Fresh m = (m.size ≡ 1) × ((w x : ℕ) → m.carries w x ≡ false)

-- a line can be made of n releases and these first releases
abbrev pub LineFits : ℕ → List ℕ → Type 0
LineFits n first = (1 ≤ n) × (n ≤ most_releases) × (length first ≡ most_names)

-- the lists of a map are of one length, 1 to 64
abbrev pub MapFits : List ℕ → List ℕ → Type 0
MapFits followers names = (1 ≤ length followers) × (length followers ≤ most_releases) × (length names ≡ length followers)

-- the chart that two lists of words describe
abbrev pub listed : List ℕ → List ℕ → Chart
listed followers names = charted (length followers) followers names

-- w is the lowest number below n at which P fails
pub record Lowest (P : ℕ → Type 0) (n w : ℕ) : Type 0 where
  pub inside : w < n
  pub below : (k : ℕ) → k < w → P k
  pub breaks : P w → ⊥

-- a test answers yes at each number below n
pub record AllYes (Answers : ℕ → Bool → Type 0) (n : ℕ) : Type 0 where
  pub yes : (k : ℕ) → k < n → Answers k true

-- k is the lowest number below n at which a test answers no
pub record LowestNo (Answers : ℕ → Bool → Type 0) (n k : ℕ) : Type 0 where
  pub inside : k < n
  pub below : (j : ℕ) → j < k → Answers j true
  pub no : Answers k false

-- a map is refused two lists, with a number and a place: the lists do not fit; or the first of the laws that fails does so at the place,
-- and at no lower release
pub data Refused (followers names : List ℕ) : ℕ → ℕ → Type 0 where
  misfit : (MapFits followers names → ⊥) → Refused followers names 41 0
  irreflexive : {w : ℕ} → MapFits followers names
      → Lowest (ReflexiveAt (listed followers names)) (length followers) w → Refused followers names 42 w
  intransitive : {w : ℕ} → MapFits followers names → Reflexive (listed followers names)
      → Lowest (TransitiveAt (listed followers names)) (length followers) w → Refused followers names 43 w
  forgetful : {w : ℕ} → MapFits followers names → Reflexive (listed followers names) → Transitive (listed followers names)
      → Lowest (PersistentAt (listed followers names)) (length followers) w → Refused followers names 44 w
