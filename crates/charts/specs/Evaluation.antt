-- What the masks of an evaluation say: sets of releases, as words.
use Rattle.std.specs.Prelude.{◌≡◌, ℕ, ◌<◌, ◌≤◌, true, false, List, length, Decides, slice_index}
use Rattle.std.specs.List.{All}
use Rattle.logic.specs.Rules.{Book, rule_of}
use Rattle.logic.specs.Charts.{Chart, Holds}
use Rattle.charts.specs.Bits.{bit}

-- word w of `words` is the set of the followers of the release w
abbrev pub Rows : Chart → List ℕ → Type 0
Rows m words = (w : ℕ) → w < m.size → (v : ℕ) → bit (slice_index words w) v ≡ m.follows w v

-- each release of `followers` that is in `met` is in `carriers`
abbrev pub Meets : ℕ → ℕ → ℕ → Type 0
Meets followers met carriers = (v : ℕ) → bit followers v ≡ true → bit met v ≡ true → bit carriers v ≡ true

-- the release v is in the set of each of these records
abbrev pub AllSet : List ℕ → List ℕ → ℕ → Type 0
AllSet masks bs v = All (λ b. bit (slice_index masks b) v ≡ true) bs

-- word r of `masks` is the set of the releases at which record r holds; it is empty where there is no such record
pub record Evaluated (m : Chart) (book : Book) (masks : List ℕ) : Type 0 where
  pub holds : (r w : ℕ) → r < length book → w < m.size → Decides (bit (slice_index masks r) w) (Holds m w (rule_of book r))
  pub beyond : (r w : ℕ) → r < length book → m.size ≤ w → bit (slice_index masks r) w ≡ false
  pub unused : (r : ℕ) → length book ≤ r → slice_index masks r ≡ 0
