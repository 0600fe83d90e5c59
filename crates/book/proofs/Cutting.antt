-- A book cut back keeps what is kept of a book.
use Rattle.std.proofs.Common.{◌≡◌, ℕ, zero, suc, ◌+◌, ◌%◌, ◌^◌, ◌<◌, ◌≤◌, min, max, List, [], ◌∷◌, map, take, sym, ap, ◌∙◌, subst, inl, inr, mod-eq_of_lt, arith}
use native.Mathlib.Nat.{pow-le-pow_right}
use Rattle.std.proofs.lemmas.List.{take_all}
use Rattle.std.specs.List.{fold, reduce}
use Rattle.std.specs.Option.{unwrap_or}
use Rattle.std.proofs.lemmas.Bool.{cases_lt}
use Rattle.logic.specs.Rules as rules
use Rattle.logic.specs.Rules.{head_of}
use Rattle.book.specs.Books.{records_of, needed, HeadsBelow}
use Rattle.book.specs.Records.{stored, set_at, record_of}
use Rattle.book.specs.declared.book.Book.{Book}
use Rattle.book.specs.declared.record.Record.{Record}
use Rattle.book.proofs.Kept.{Earlier, earlier_cut, Named, Lists, lists_cut}
use Rattle.book.proofs.Adding.{lists_of, length_records}
use Rattle.book.proofs.Stored.{length_stored, stored_cut, head_cut}

-- ---- the names that the heads need

abbrev pub each_needs : List Record → List ℕ
each_needs rs = map (λ (r : Record). r.head.index + 1) rs

most_needed : (n : ℕ) (rs : List Record) → fold max n (each_needs rs) ≡ max n (needed (map record_of rs))
most_needed n [] = omega arith
most_needed n (r ∷ rs) = omega (arith, most_needed (max n (r.head.index + 1)) rs)

pub all_needed : (rs : List Record) → unwrap_or (reduce max (each_needs rs)) 0 ≡ needed (map record_of rs)
all_needed [] = omega arith
all_needed (r ∷ rs) = omega (arith, most_needed (r.head.index + 1) rs)

-- each head is below that number
pub below_needed : (book : rules.Book) → HeadsBelow (needed book) book
unfolding head_of
below_needed [] r l = absurd (omega arith)
below_needed (x ∷ book) zero l = omega arith
below_needed (x ∷ book) (suc r) l = omega (arith, below_needed book r (omega arith))

-- and it is the least such
pub needed_least : (n : ℕ) (book : rules.Book) → HeadsBelow n book → needed book ≤ n
unfolding head_of
needed_least n [] h = omega arith
needed_least n (x ∷ book) h = omega (arith, h 0 (omega arith), needed_least n book (λ r l. h (suc r) (omega arith)))

module _ (b : Book) (m : ℕ) (le : m ≤ b.count) where
  cut_is : stored m b.records ≡ take m (records_of b)
  cut_is = stored_cut m b.count b.records le

  pub cut_earlier : Earlier (stored m b.records)
  cut_earlier = subst Earlier (sym cut_is) (earlier_cut m (records_of b) b.earlier)

  cut_heads : HeadsBelow b.names (stored m b.records)
  cut_heads r l =
      let k : r < m = omega (arith, length_stored m b.records (omega (arith, b.whole, b.few))) in
      omega (arith, b.named r (omega arith), ap (λ (book : rules.Book). head_of book r) cut_is, head_cut m (records_of b) r k)

  pub cut_few : needed (stored m b.records) ≤ b.names
  cut_few = needed_least b.names (stored m b.records) cut_heads

  pub cut_named : (n : ℕ) → needed (stored m b.records) ≤ n → Named n m (stored m b.records)
  cut_named n h r l =
      omega (arith, below_needed (stored m b.records) r (omega (arith, length_stored m b.records (omega (arith, b.whole, b.few)))))

  pub cut_lists : (sets : ℕ → ℕ) → ((x : ℕ) → sets x ≡ set_at b.heads x % 2 ^ m) → Lists sets m (stored m b.records)
  cut_lists sets cut =
      subst (Lists sets m) (sym cut_is) (lists_cut (set_at b.heads) sets m b.count (records_of b) le cut (lists_of b))

-- the first n of the records, or all where there are fewer
pub cut_to : (b : Book) (n m : ℕ) → m ≡ min b.count n → stored m b.records ≡ take n (records_of b)
cut_to b n m e = elim (cases_lt n b.count) [
  | inl l ↦ let f : m ≡ n = omega arith in ap (λ (k : ℕ). stored k b.records) f ∙ stored_cut n b.count b.records (omega arith)
  | inr g ↦
      let f : m ≡ b.count = omega arith in
      ap (λ (k : ℕ). stored k b.records) f ∙ sym (take_all n (records_of b) (omega (arith, length_records b)))
]

-- the members below n of a set below 2 ^ c
pub under_to : (S c n m : ℕ) → S < 2 ^ c → m ≡ min c n → S % 2 ^ m ≡ S % 2 ^ n
under_to S c n m h e = elim (cases_lt n c) [
  | inl l ↦ let f : m ≡ n = omega arith in ap (λ (k : ℕ). S % 2 ^ k) f
  | inr g ↦
      let f : m ≡ c = omega arith in
      let p : 2 ^ c ≤ 2 ^ n = pow-le-pow_right (omega arith) {i = c} {j = n} g in
      ap (λ (k : ℕ). S % 2 ^ k) f ∙ mod-eq_of_lt h ∙ sym (mod-eq_of_lt (omega arith))
]
