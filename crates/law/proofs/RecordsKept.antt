-- One more rule puts its records behind the others.
use Rattle.std.proofs.Common.{◌≡◌, ℕ, ◌+◌, ◌-◌, ◌%◌, ◌^◌, ◌<◌, ◌≤◌, List, [], ◌∷◌, ◌++◌, length, sym, refl, ap, ◌∙◌, ap₂, mod-eq_of_lt, arith, length-append, pow-add}
use native.Mathlib.Nat.{mul-mod_left}
use lib.Bits.{bit_or, or_comm, or_mod, or_zero_r}
use Rattle.std.proofs.lemmas.List.{length_push}
use Rattle.logic.specs.Sets.{mask, AllBelow}
use Rattle.logic.specs.Rules.{Rule, Rules, rule, more, Book}
use Rattle.logic.specs.Store.{stores, numbers, number_of, store}
use Rattle.logic.proofs.Sets.{or_assoc, mask_lt}
use Rattle.keys.specs.Kept.{Front}
use Rattle.keys.proofs.Numbering.{front_self, front_trans}
use Rattle.law.specs.Standing.{behind}
use Rattle.law.specs.Kept.{RecordsKept}

pub stored_behind : (book : Book) (rules : Rules) (r : Rule) → stores book (behind rules r) ≡ store (stores book rules) r
unfolding store
stored_behind book Rules.none r = refl
stored_behind book (more x xs) r = stored_behind (store book x) xs r

numbered_behind : (book : Book) (rules : Rules) (r : Rule)
    → numbers book (behind rules r) ≡ numbers book rules ++ number_of (stores book rules) r ∷ []
unfolding store
numbered_behind book Rules.none r = refl
numbered_behind book (more x xs) r = ap (λ (l : List ℕ). number_of book x ∷ l) (numbered_behind (store book x) xs r)

-- what stands first is no longer
pub front_length : {A : Type 0} {xs ys : List A} → Front xs ys → length xs ≤ length ys
front_length {A} {xs} {ys} f = omega (arith, ap length f.split, length-append xs f.others)

mutual
  unfolding store

  pub store_front : (r : Rule) (book : Book) → Front book (store book r)
  store_front (rule h bs) book =
      front_trans (stores_front bs book) (record { others = record { head = h; bodies = numbers book bs } ∷ []; split = refl })

  stores_front : (rs : Rules) (book : Book) → Front book (stores book rs)
  stores_front Rules.none book = front_self book
  stores_front (more r rs) book = front_trans (store_front r book) (stores_front rs (store book r))

mask_push : (bs : List ℕ) (b : ℕ) → mask (bs ++ b ∷ []) ≡ bit_or (mask bs) (2 ^ b)
mask_push [] b = or_comm (2 ^ b) 0
mask_push (c ∷ bs) b = ap (bit_or (2 ^ c)) (mask_push bs b) ∙ sym (or_assoc (2 ^ c) (mask bs) (2 ^ b))

-- the number of a rule is that of a record in use then, and of none before
pub number_within : (r : Rule) (book : Book) → (length book ≤ number_of book r) × (number_of book r < length (store book r))
unfolding store
number_within (rule h bs) book = (front_length (stores_front bs book), omega (arith, length_push (stores book bs) (record { head = h; bodies = numbers book bs })))

numbers_within : (rs : Rules) (book : Book) → AllBelow (length (stores book rs)) (numbers book rs)
unfolding store
numbers_within Rules.none book = tt
numbers_within (more r rs) book = (
  omega (arith, (number_within r book).1, front_length (stores_front rs (store book r))),
  numbers_within rs (store book r),
)

-- the set of the rules' records holds records in use
pub force_below : (rules : Rules) → mask (numbers [] rules) < 2 ^ length (stores [] rules)
force_below rules = mask_lt (length (stores [] rules)) (numbers [] rules) (numbers_within rules [])

power_mod : (k n : ℕ) → n ≤ k → 2 ^ k % 2 ^ n ≡ 0
power_mod k n l =
    let split : k ≡ (k - n) + n = omega arith in
    ap (λ (m : ℕ). 2 ^ m % 2 ^ n) split ∙ ap (λ (m : ℕ). m % 2 ^ n) (pow-add 2 (k - n) n) ∙ mul-mod_left (2 ^ (k - n)) (2 ^ n)

-- one more rule adds no record to the set that was in use before
pub force_kept : (rules : Rules) (r : Rule)
    → mask (numbers [] (behind rules r)) % 2 ^ length (stores [] rules) ≡ mask (numbers [] rules)
force_kept rules r =
    let n = length (stores [] rules) in
    let k = number_of (stores [] rules) r in
    let S = mask (numbers [] rules) in
    ap (λ (m : ℕ). m % 2 ^ n) (ap mask (numbered_behind [] rules r) ∙ mask_push (numbers [] rules) k) ∙ or_mod S (2 ^ k) n
    ∙ ap₂ bit_or (mod-eq_of_lt (force_below rules)) (power_mod k n (number_within r (stores [] rules)).0) ∙ or_zero_r S

pub records_kept : RecordsKept
records_kept = record {
  stored = stored_behind [];
  front = λ book r. store_front r book;
  numbers_are = numbered_behind [];
  forced = λ rules r. ap mask (numbered_behind [] rules r) ∙ mask_push (numbers [] rules) (number_of (stores [] rules) r);
}
