-- What is kept of every book: bodies come earlier, and the sets by head list exactly the records in use.
use Rattle.std.proofs.Common.{◌≡◌, ℕ, zero, suc, ◌+◌, ◌-◌, ◌/◌, ◌%◌, ◌^◌, ◌<◌, ◌≤◌, ◌⊎◌, List, [], ◌∷◌, ◌++◌, length, get_or, take, sym, ap, ◌∙◌, subst, inl, inr, arith, length-take}
use lib.Bits.{bit_or}
use Rattle.std.proofs.lemmas.Nat.{field_of, mod-pow-add, mod-mul-add, pow_pos, mod_below}
use Rattle.std.proofs.lemmas.Bool.{cases_eq, cases_lt}
use Rattle.std.proofs.lemmas.List.{length_push}
use Rattle.logic.specs.Sets.{Has, AllBelow}
use Rattle.logic.proofs.Sets.{has_left, has_right, has_split, has_self, has_only, has_zero, has_below}
use Rattle.logic.specs.Rules as rules
use Rattle.logic.specs.Rules.{head_of, bodies_of}
use Rattle.book.specs.Sets.{bit}
use Rattle.book.proofs.Stored.{head_before, head_last, bodies_before, bodies_last, head_cut, bodies_cut, bodies_past}

-- ---- the members of a set below a number

mod_two : (n d : ℕ) → n % 2 ^ (d + 1) % 2 ≡ n % 2
mod_two n d = ap (λ (k : ℕ). k % 2) (mod-pow-add n d 1) ∙ mod-mul-add (n / 2 % 2 ^ d) 2 (n % 2) (omega arith)

bit_under : (S m r : ℕ) → r < m → bit (S % 2 ^ m) r ≡ bit S r
bit_under S m r h =
    let e : m ≡ (m - r - 1 + 1) + r = omega arith in
    ap (λ (k : ℕ). S % 2 ^ k / 2 ^ r % 2) e ∙ ap (λ (k : ℕ). k % 2) (field_of S (m - r - 1 + 1) r) ∙ mod_two (S / 2 ^ r) (m - r - 1)

pub has_under : (S m r : ℕ) → Has (S % 2 ^ m) r → Has S r × (r < m)
unfolding Has
has_under S m r h =
    let l : r < m = has_below m (S % 2 ^ m) r (mod_below S (2 ^ m) (pow_pos m)) h in
    ((sym (bit_under S m r l) ∙ h), l)

pub under_has : (S m r : ℕ) → Has S r → r < m → Has (S % 2 ^ m) r
unfolding Has
under_has S m r h l = (bit_under S m r l ∙ h)

-- ---- bodies come earlier

abbrev pub Earlier : rules.Book → Type 0
Earlier book = (r i : ℕ) → i < length (bodies_of book r) → get_or (bodies_of book r) i 0 < r

pub all_below : (n : ℕ) (bs : List ℕ) → ((i : ℕ) → i < length bs → get_or bs i 0 < n) → AllBelow n bs
all_below n [] h = tt
all_below n (b ∷ bs) h = (h 0 (omega arith), all_below n bs (λ i l. h (suc i) (omega arith)))

pub each_below : (n : ℕ) (bs : List ℕ) → AllBelow n bs → (i : ℕ) → i < length bs → get_or bs i 0 < n
each_below n [] h i l = absurd (omega arith)
each_below n (b ∷ bs) h zero l = h.0
each_below n (b ∷ bs) h (suc i) l = each_below n bs h.1 i (omega arith)

earlier_at : (book : rules.Book) (r : ℕ) (bs : List ℕ) → bodies_of book r ≡ bs → ((i : ℕ) → i < length bs → get_or bs i 0 < r)
    → (i : ℕ) → i < length (bodies_of book r) → get_or (bodies_of book r) i 0 < r
earlier_at book r bs e h i l = subst (λ (xs : List ℕ). get_or xs i 0 < r) (sym e) (h i (subst (λ (xs : List ℕ). i < length xs) e l))

pub earlier_empty : Earlier []
earlier_empty r = earlier_at [] r [] (bodies_past [] r (omega arith)) (λ i l. absurd (omega arith))

pub earlier_push : (book : rules.Book) (x : rules.Record) → Earlier book → AllBelow (length book) x.bodies → Earlier (book ++ x ∷ [])
earlier_push book x old below r = elim (cases_lt r (length book)) [
  | inl l ↦ earlier_at (book ++ x ∷ []) r (bodies_of book r) (bodies_before book x r l) (old r)
  | inr g ↦ elim (cases_eq (length book) r) [
    | inl e ↦ earlier_at (book ++ x ∷ []) r x.bodies (bodies_last book x r e)
        (subst (λ (n : ℕ). (i : ℕ) → i < length x.bodies → get_or x.bodies i 0 < n) e (each_below (length book) x.bodies below))
    | inr ne ↦ earlier_at (book ++ x ∷ []) r [] (bodies_past (book ++ x ∷ []) r (simp length_push (omega arith))) (λ i l. absurd (omega arith))
  ]
]

pub earlier_cut : (n : ℕ) (book : rules.Book) → Earlier book → Earlier (take n book)
earlier_cut n book old r = elim (cases_lt r n) [
  | inl l ↦ earlier_at (take n book) r (bodies_of book r) (bodies_cut n book r l) (old r)
  | inr g ↦ earlier_at (take n book) r [] (bodies_past (take n book) r (simp length-take (omega arith))) (λ i l. absurd (omega arith))
]

-- ---- heads are names in use, for the first c records

abbrev pub Named : ℕ → ℕ → rules.Book → Type 0
Named n c book = (r : ℕ) → r < c → head_of book r < n

pub named_push : (n c : ℕ) (book : rules.Book) (x : rules.Record) → length book ≡ c → Named n c book → x.head < n → Named n (c + 1) (book ++ x ∷ [])
named_push n c book x len old h r l = elim (cases_lt r c) [
  | inl k ↦ omega (arith, old r k, head_before book x r (omega arith))
  | inr g ↦ omega (arith, head_last book x r (omega arith))
]

-- ---- the sets by head, for the first c records

abbrev pub Used : (ℕ → ℕ) → ℕ → Type 0
Used sets c = (x r : ℕ) → Has (sets x) r → r < c

abbrev pub Headed : (ℕ → ℕ) → rules.Book → Type 0
Headed sets book = (x r : ℕ) → Has (sets x) r → head_of book r ≡ x

abbrev pub AllListed : (ℕ → ℕ) → ℕ → rules.Book → Type 0
AllListed sets c book = (r : ℕ) → r < c → bit (sets (head_of book r)) r ≡ 1

pub record Lists (sets : ℕ → ℕ) (c : ℕ) (book : rules.Book) : Type 0 where
  pub used : Used sets c
  pub headed : Headed sets book
  pub all : AllListed sets c book

module _ (sets new : ℕ → ℕ) (c : ℕ) (book : rules.Book) (x : rules.Record) (len : length book ≡ c) (old : Lists sets c book)
    (same : new x.head ≡ bit_or (sets x.head) (2 ^ c)) (other : (y : ℕ) → (y ≡ x.head → ⊥) → new y ≡ sets y) where
  -- a member of the new sets is an old one, or the new record under its head
  from_new : (y r : ℕ) → Has (new y) r → Has (sets y) r ⊎ ((y ≡ x.head) × (r ≡ c))
  from_new y r h = elim (cases_eq y x.head) [
    | inl e ↦
        let g : Has (bit_or (sets x.head) (2 ^ c)) r = subst (λ (n : ℕ). Has n r) (ap new e ∙ same) h in
        elim (has_split (sets x.head) (2 ^ c) r g) [
          | inl k ↦ inl (subst (λ (n : ℕ). Has (sets n) r) (sym e) k)
          | inr k ↦ inr (e, sym (has_only c r k))
        ]
    | inr ne ↦ inl (subst (λ (n : ℕ). Has n r) (other y ne) h)
  ]

  to_new : (y r : ℕ) → Has (sets y) r → Has (new y) r
  to_new y r h = elim (cases_eq y x.head) [
    | inl e ↦ subst (λ (n : ℕ). Has n r) (sym (ap new e ∙ same)) (has_left (sets x.head) (2 ^ c) r (subst (λ (n : ℕ). Has (sets n) r) e h))
    | inr ne ↦ subst (λ (n : ℕ). Has n r) (sym (other y ne)) h
  ]

  pub lists_push : Lists new (c + 1) (book ++ x ∷ [])
  unfolding Has
  lists_push = record { used = used; headed = headed; all = all }
    where
      used : Used new (c + 1)
      used y r h = elim (from_new y r h) [
        | inl k ↦ omega (arith, old.used y r k)
        | inr p ↦ omega (arith, p.1)
      ]

      headed : Headed new (book ++ x ∷ [])
      headed y r h = elim (from_new y r h) [
        | inl k ↦ head_before book x r (omega (arith, old.used y r k)) ∙ old.headed y r k
        | inr p ↦ head_last book x r (len ∙ sym p.1) ∙ sym p.0
      ]

      all : AllListed new (c + 1) (book ++ x ∷ [])
      all r l = elim (cases_lt r c) [
        | inl k ↦
            let e : head_of (book ++ x ∷ []) r ≡ head_of book r = head_before book x r (omega arith) in
            ap (λ (y : ℕ). bit (new y) r) e ∙ (to_new (head_of book r) r ((old.all r k)))
        | inr g ↦
            let e : r ≡ c = omega arith in
            let f : head_of (book ++ x ∷ []) r ≡ x.head = head_last book x r (len ∙ sym e) in
            ap (λ (y : ℕ). bit (new y) r) f
            ∙ (subst (λ (n : ℕ). Has n r) (sym same) (has_right (sets x.head) (2 ^ c) r (subst (λ (k : ℕ). Has (2 ^ c) k) (sym e) (has_self c))))
      ]

-- a book cut back to m records
pub lists_cut : (sets new : ℕ → ℕ) (m c : ℕ) (book : rules.Book) → m ≤ c → ((y : ℕ) → new y ≡ sets y % 2 ^ m)
    → Lists sets c book → Lists new m (take m book)
unfolding Has
lists_cut sets new m c book le cut old = record { used = λ y r h. (there y r h).1; headed = headed; all = all }
  where
    there : (y r : ℕ) → Has (new y) r → Has (sets y) r × (r < m)
    there y r h = has_under (sets y) m r (subst (λ (n : ℕ). Has n r) (cut y) h)

    headed : Headed new (take m book)
    headed y r h = let t = there y r h in head_cut m book r t.1 ∙ old.headed y r t.0

    all : AllListed new m (take m book)
    all r l =
        ap (λ (y : ℕ). bit (new y) r) (head_cut m book r l) ∙ ap (λ (n : ℕ). bit n r) (cut (head_of book r))
        ∙ (under_has (sets (head_of book r)) m r ((old.all r (omega arith))) l)

pub lists_none : (sets : ℕ → ℕ) → ((y : ℕ) → sets y ≡ 0) → Lists sets 0 []
lists_none sets none = record {
  used = λ y r h. absurd (never y r h);
  headed = λ y r h. absurd (never y r h);
  all = λ r l. absurd (omega arith);
}
  where
    never : (y r : ℕ) → Has (sets y) r → ⊥
    never y r h = has_zero r (subst (λ (n : ℕ). Has n r) (none y) h)
