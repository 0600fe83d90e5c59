-- The numbers of keys: 0, 1, 2 and so on, in the order in which they first appear.
use Rattle.std.specs.Prelude.{ℕ, suc, Bool, cond, List, [], ◌∷◌}

module _ {K : Type 0} (same : K → K → Bool) where
  -- the number of a key: how many keys stand before the first that is the same
  abbrev pub number : List K → K → ℕ
  number [] k = 0
  number (x ∷ xs) k = cond (same x k) 0 (suc (number xs k))

  -- a key appears: it comes behind the others, unless one of them is the same
  abbrev pub appear : List K → K → List K
  appear [] k = k ∷ []
  appear (x ∷ xs) k = cond (same x k) (x ∷ xs) (x ∷ appear xs k)
