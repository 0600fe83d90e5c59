-- Keys get numbers in the order in which they appear, and keep them.
use Rattle.std.specs.Prelude.{◌≡◌, ◌<◌, Bool, true, List, ◌++◌, length}
use Rattle.keys.specs.Numbering.{number, appear}

-- xs stands first in ys
pub record Front {A : Type 0} (xs ys : List A) : Type 0 where
  pub others : List A
  pub split : ys ≡ xs ++ others

pub record Kept {K : Type 0} (same : K → K → Bool) : Type 0 where
  -- a key that appears changes nothing before it
  pub appended : (ks : List K) (k : K) → Front ks (appear same ks k)
  -- a key that has a number keeps it, whatever comes behind
  pub kept : (ks others : List K) (k : K) → number same ks k < length ks → number same (ks ++ others) k ≡ number same ks k
  -- a key that appears has a number then: that of the first key that is the same, or the next
  pub has : (ks : List K) (k : K) → same k k ≡ true
      → (number same (appear same ks k) k < length (appear same ks k)) × (number same (appear same ks k) k ≡ number same ks k)

abbrev pub NumbersKept : Type 0 → Type 0
NumbersKept K = (same : K → K → Bool) → Kept same
