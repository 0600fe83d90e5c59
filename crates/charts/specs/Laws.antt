-- The laws of a chart that code answers from.
use Rattle.std.specs.Prelude.{◌≡◌, ℕ, ◌<◌, ◌≤◌, true}
use Rattle.keys.specs.Limits.{most_names}
use Rattle.logic.specs.Charts.{Chart}
use Rattle.charts.specs.Limits.{most_releases}

-- there is a release and at most 64 of them, and outside the range nothing follows, is followed, carries or is carried
pub record Ranged (m : Chart) : Type 0 where
  pub some : 1 ≤ m.size
  pub few : m.size ≤ most_releases
  pub followed_in : (w v : ℕ) → m.follows w v ≡ true → w < m.size
  pub follower_in : (w v : ℕ) → m.follows w v ≡ true → v < m.size
  pub carrier_in : (w x : ℕ) → m.carries w x ≡ true → w < m.size
  pub carried_in : (w x : ℕ) → m.carries w x ≡ true → x < most_names

-- the release w follows itself
abbrev pub ReflexiveAt : Chart → ℕ → Type 0
ReflexiveAt m w = m.follows w w ≡ true

-- what follows a follower of w follows w
abbrev pub TransitiveAt : Chart → ℕ → Type 0
TransitiveAt m w = (v u : ℕ) → m.follows w v ≡ true → m.follows v u ≡ true → m.follows w u ≡ true

-- what w carries each follower of w carries
abbrev pub PersistentAt : Chart → ℕ → Type 0
PersistentAt m w = (v x : ℕ) → m.follows w v ≡ true → m.carries w x ≡ true → m.carries v x ≡ true

-- the laws at every release
abbrev pub Reflexive : Chart → Type 0
Reflexive m = (w : ℕ) → w < m.size → ReflexiveAt m w

abbrev pub Transitive : Chart → Type 0
Transitive m = (w : ℕ) → w < m.size → TransitiveAt m w

abbrev pub Persistent : Chart → Type 0
Persistent m = (w : ℕ) → w < m.size → PersistentAt m w

-- the three laws at once
pub record ThreeLaws (m : Chart) : Type 0 where
  pub reflexive : Reflexive m
  pub transitive : Transitive m
  pub persistent : Persistent m
