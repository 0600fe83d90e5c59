-- The records that wait, as a list.
use Rattle.std.proofs.Common.{◌≡◌, ℕ, zero, suc, ◌-◌, ◌≤◌, List, [], ◌∷◌, length, take, drop, sym, ap, ◌∙◌, arith, length-drop}
use Rattle.std.proofs.lemmas.List.{length-map, take-map, drop-map, take_all}
use Rattle.logic.specs.Sets.{AllBelow}
use Rattle.book.specs.Numbers.{record_indices}
use Rattle.book.specs.Entries.{others}
use Rattle.book.specs.declared.number.RecordNumber.{RecordNumber}

length_indices : (rs : List RecordNumber) → length (record_indices rs) ≡ length rs
length_indices rs = length-map rs (λ (r : RecordNumber). r.index)

-- ---- the last of those that wait, where so many go on waiting

module _ (rs : List RecordNumber) (count left : ℕ) (left_is : left ≡ length rs - count) where
  others_are : others (record_indices rs) count ≡ left
  others_are = ap (λ (n : ℕ). n - count) (length_indices rs) ∙ sym left_is

  pub others_left : (rs' : List RecordNumber) → rs' ≡ take left rs → record_indices rs' ≡ take (others (record_indices rs) count) (record_indices rs)
  others_left rs' e =
      ap record_indices e ∙ sym (take-map (λ (r : RecordNumber). r.index) left rs) ∙ ap (λ (n : ℕ). take n (record_indices rs)) (sym others_are)

  pub last_taken : (n : ℕ) → length (take (length rs - left) (drop left rs)) ≤ n → take n (record_indices (take (length rs - left) (drop left rs))) ≡ drop (others (record_indices rs) count) (record_indices rs)
  last_taken n past =
      take_all n _ (omega (arith, length_indices (take (length rs - left) (drop left rs))))
      ∙ ap record_indices (take_all (length rs - left) (drop left rs) (omega (arith, length-drop left rs)))
      ∙ sym (drop-map (λ (r : RecordNumber). r.index) left rs) ∙ ap (λ (n : ℕ). drop n (record_indices rs)) (sym others_are)

-- ---- all below a count

pub below_take : (n k : ℕ) (bs : List ℕ) → AllBelow n bs → AllBelow n (take k bs)
below_take n zero bs h = tt
below_take n (suc k) [] h = tt
below_take n (suc k) (b ∷ bs) h = (h.0, below_take n k bs h.1)

pub below_drop : (n k : ℕ) (bs : List ℕ) → AllBelow n bs → AllBelow n (drop k bs)
below_drop n zero bs h = h
below_drop n (suc k) [] h = tt
below_drop n (suc k) (b ∷ bs) h = below_drop n k bs h.1

pub below_longer : (n m : ℕ) (bs : List ℕ) → n ≤ m → AllBelow n bs → AllBelow m bs
below_longer n m [] l h = tt
below_longer n m (b ∷ bs) l h = (omega (arith, h.0), below_longer n m bs l h.1)
