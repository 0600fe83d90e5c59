-- The keys that have a number as the front of the slots.
use Rattle.std.proofs.Common.{◌≡◌, ℕ, ◌+◌, ◌<◌, ◌≤◌, min, Bool, true, false, cond, List, [], ◌∷◌, ◌++◌, length, take, set, Option, Some, None, nat_lt, position, sym, refl, ap, ◌∙◌, subst, arith, length-take}
use Rattle.std.proofs.lemmas.List.{take_more_set, length_push}
use Rattle.std.proofs.lemmas.Bool.{ltb-true, ltb-false}
use Rattle.std.specs.List.{position_or_len}
use Rattle.keys.specs.Numbering.{number}
use Rattle.keys.specs.Registers.{room, First, Entered, LeftOut}
use Rattle.keys.specs.declared.numbers.KeyNumber.{KeyNumber}
use Rattle.keys.specs.declared.numbers.RegisterFault.{RegisterFault}
use Rattle.keys.proofs.Numbering.{appear_old, appear_new, number_most, number_position}

module _ {K : Type 0} where
  -- the number of slots with a numbered key is that of a key number
  pub few_in : (slots : List K) (used : ℕ) → used ≤ 64 → length (take used slots) ≤ 64
  few_in slots used few = omega (arith, length-take used slots)

module _ {K : Type 0} (same : K → K → Bool) (ks : List K) (k : K) where
  first_found : (n : ℕ) (found : Bool) → number same ks k ≡ n → nat_lt n (length ks) ≡ found → First same ks k (cond found (Some n) None)
  first_found n true is within = (sym is, ltb-true _ _ within)
  first_found n false is past = omega (arith, is, number_most same ks k, ltb-false _ _ past)

  -- the first key that is the same stands at its number
  pub first_at_position : (r : Option ℕ) → r ≡ position (λ x. same x k) ks → First same ks k r
  first_at_position r is = subst (First same ks k) (sym is) (first_found (position_or_len (λ x. same x k) ks) _ (number_position same ks k) refl)

module _ {K : Type 0} (same : K → K → Bool) (slots : List K) (used : ℕ) (k : K) (few : used ≤ 64) where
  abbrev ks : List K
  ks = take used slots

  size : length ks ≡ min used (length slots)
  size = length-take used slots

  -- a key that has its number
  pub enters_old : (n : KeyNumber) → n.index ≡ number same ks k → n.index < length ks → Entered same ks k (length slots) ks n
  enters_old n is below = record {
    number_is = is;
    keys_are = sym (appear_old same ks k (omega (arith, is)));
    in_room = omega (arith, size);
  }

  -- a key that has none, with a slot left
  pub enters_new : (n : KeyNumber) → n.index ≡ used → number same ks k ≡ length ks → used < 64 → used < length slots
      → Entered same ks k (length slots) (take (used + 1) (set slots used k)) n
  enters_new n is absent below within =
      let keys : take (used + 1) (set slots used k) ≡ ks ++ k ∷ [] = take_more_set slots used k within in record {
        number_is = omega (arith, is, absent, size);
        keys_are = keys ∙ sym (appear_new same ks k absent);
        in_room = omega (arith, ap length keys, length_push ks k, size);
      }

  -- and with none left
  pub enters_full : (f : RegisterFault) (p : ℕ) → f.place ≡ p → number same ks k ≡ length ks → room (length slots) ≤ used
      → LeftOut same ks k (length slots) p ks f
  enters_full f p is absent full = record {
    place_is = is;
    keys_are = refl;
    no_room = omega (arith, ap length (appear_new same ks k absent), length_push ks k, size);
  }
