-- The numbers of a rule's keys as a list.
use Rattle.std.proofs.Common.{◌≡◌, ℕ, ◌+◌, ◌<◌, ◌≤◌, ◌≢◌, List, [], ◌∷◌, ◌++◌, length, get_or, take, set, ap, ◌∙◌, arith, length-take, get_or-set_other, get_or-set_same, below_more}
use Rattle.std.proofs.lemmas.List.{length-map, map-set, take_more_set}
use Rattle.keys.specs.declared.numbers.KeyNumber.{KeyNumber}
use Rattle.book.specs.Indices.{indices}

module _ (at : List KeyNumber) (n : ℕ) (whole : n ≤ length at) where
  pub many_are : length (take n (indices at)) ≡ n
  many_are = omega (arith, length-take n (indices at), length-map at (λ (k : KeyNumber). k.index))

module _ (at : List KeyNumber) (n : ℕ) (within : n < length at) (k : KeyNumber) where
  set_is : indices (set at n k) ≡ set (indices at) n k.index
  set_is = map-set (λ (x : KeyNumber). x.index) at n k

  within_indices : n < length (indices at)
  within_indices = omega (arith, length-map at (λ (x : KeyNumber). x.index))

  pub one_more : take (n + 1) (indices (set at n k)) ≡ take n (indices at) ++ k.index ∷ []
  one_more = ap (take (n + 1)) set_is ∙ take_more_set (indices at) n k.index within_indices

  -- each is below the number of names, which only grows
  pub named_more : (names names' : ℕ) → names ≤ names' → k.index < names' → ((i : ℕ) → i < n → get_or (indices at) i 0 < names)
      → (i : ℕ) → i < n + 1 → get_or (indices (set at n k)) i 0 < names'
  named_more names names' grows below before =
      below_more (λ (i : ℕ). get_or (indices (set at n k)) i 0 < names') n
      (λ i h.
      let ne : i ≢ n = omega arith in
      let same : get_or (indices (set at n k)) i 0 ≡ get_or (indices at) i 0 = ap (λ (l : List ℕ). get_or l i 0) set_is ∙ get_or-set_other (indices at) n i k.index 0 ne in
      omega (arith, same, before i h))
      (let same : get_or (indices (set at n k)) n 0 ≡ k.index = ap (λ (l : List ℕ). get_or l n 0) set_is ∙ get_or-set_same (indices at) n k.index 0 within_indices in omega (arith, same))
