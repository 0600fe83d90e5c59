-- The members of sets of records.
use Rattle.std.proofs.Common.{◌≡◌, ℕ, zero, suc, ◌-◌, ◌/◌, ◌%◌, ◌^◌, ◌<◌, ◌≤◌, min, eqb, ◌↔◌, Decides, sym, refl, ap, ◌∙◌, subst, inl, inr, pow-suc, div-one, one-add, arith}
use lib.Bits.{bit_and, and_step, and_shr, and_self, and_mask}
use lib.Count.{count_trailing_zeros, under}
use Rattle.std.proofs.lemmas.Nat.{shr-shr}
use Rattle.std.proofs.lemmas.Bool.{cases_eq, eqb-true, eq-eqb}
use Rattle.logic.specs.Sets.{Has}
use Rattle.logic.proofs.Sets.{has_zero}
use Rattle.book.specs.Sets.{Least}

-- ---- what two sets share

and_bit : (S V r : ℕ) → bit_and S V / 2 ^ r % 2 ≡ min (S / 2 ^ r % 2) (V / 2 ^ r % 2)
and_bit S V r = rw (and_shr S V r, and_step (S / 2 ^ r) (V / 2 ^ r)) (omega arith)

pub has_both : (S V r : ℕ) → Has (bit_and S V) r ↔ (Has S r × Has V r)
unfolding Has
has_both S V r = (λ h. (omega (arith, and_bit S V r), omega (arith, and_bit S V r)), λ h. omega (arith, and_bit S V r, h.0, h.1))

-- ---- the lowest bit, and the others

has_first : (S : ℕ) → Has S zero ↔ (S % 2 ≡ 1)
unfolding Has
has_first S = (λ h. omega (arith, div-one S), λ h. omega (arith, div-one S))

has_later : (S k : ℕ) → S / 2 ^ suc k % 2 ≡ S / 2 / 2 ^ k % 2
has_later S k = ap (λ (n : ℕ). n % 2) (sym (shr-shr S 1 k ∙ ap (λ (n : ℕ). S / 2 ^ n) (one-add k)))

-- ---- the least member

-- the least member of an even mask, from the least of its half
least_even : (S m : ℕ) → S % 2 ≡ 0 → Least (S / 2) m → Least S (suc m)
unfolding Has
least_even S m e half = record { member = has_later S m ∙ half.member; lowest = lowest }
  where
    lowest : (k : ℕ) → Has S k → suc m ≤ k
    lowest zero h = absurd (omega (arith, div-one S))
    lowest (suc k) h = let l : m ≤ k = half.lowest k (sym (has_later S k) ∙ h) in omega arith

least_odd : (S : ℕ) → S % 2 ≡ 1 → Least S zero
unfolding Has
least_odd S e = record { member = omega (arith, div-one S); lowest = λ k h. omega arith }

-- the zeros below the lowest set bit
pub trailing_least : (w S : ℕ) → 0 < S → S < 2 ^ w → Least S (count_trailing_zeros w S) × (count_trailing_zeros w S < w)
unfolding count_trailing_zeros
trailing_least zero S p l = absurd (omega arith)
trailing_least (suc w) S p l = go (S % 2) (count_trailing_zeros w (S / 2)) refl (λ some lower. trailing_least w (S / 2) some lower)
  where
    go : (d m : ℕ) → S % 2 ≡ d → (0 < S / 2 → S / 2 < 2 ^ w → Least (S / 2) m × (m < w)) → Least S (under d m) × (under d m < suc w)
    go zero m e half =
        let lower : S / 2 < 2 ^ w = omega (arith, pow-suc 2 w) in
        let some : 0 < S / 2 = omega arith in
        (least_even S m e (half some lower).0, omega (arith, (half some lower).1))
    go (suc d) m e half = (least_odd S (omega arith), omega arith)

-- ---- all members but the least

-- `S & (S - 1)` clears the lowest bit
cleared_low : (S : ℕ) → bit_and S (S - 1) % 2 ≡ 0
cleared_low S = omega (arith, and_step S (S - 1))

cleared_even : (S : ℕ) → S % 2 ≡ 0 → bit_and S (S - 1) / 2 ≡ bit_and (S / 2) (S / 2 - 1)
cleared_even S e = and_shr S (S - 1) 1 ∙ ap (bit_and (S / 2)) (let h : (S - 1) / 2 ≡ S / 2 - 1 = omega arith in h)

cleared_odd : (S : ℕ) → S % 2 ≡ 1 → bit_and S (S - 1) / 2 ≡ S / 2
cleared_odd S e = and_shr S (S - 1) 1 ∙ ap (bit_and (S / 2)) (let h : (S - 1) / 2 ≡ S / 2 = omega arith in h) ∙ and_self (S / 2)

pub has_cleared : (S m k : ℕ) → Least S m → Has (bit_and S (S - 1)) k ↔ (Has S k × (m < k))
unfolding Has
has_cleared S m zero l = (λ h. absurd (no_low h), λ h. absurd (omega (arith, h.1)))
  where
    no_low : Has (bit_and S (S - 1)) zero → ⊥
    no_low h = let e : bit_and S (S - 1) % 2 ≡ 1 = (has_first _).0 h in omega (arith, cleared_low S)
has_cleared S zero (suc k) l = (λ h. (there.0 h, omega arith), λ h. there.1 h.0)
  where
    bits : bit_and S (S - 1) / 2 ^ suc k % 2 ≡ S / 2 ^ suc k % 2
    bits = has_later _ k ∙ ap (λ (n : ℕ). n / 2 ^ k % 2) (cleared_odd S ((has_first S).0 l.member)) ∙ sym (has_later S k)

    there : Has (bit_and S (S - 1)) (suc k) ↔ Has S (suc k)
    there = (λ h. sym bits ∙ h, λ h. bits ∙ h)
has_cleared S (suc m) (suc k) l = up (has_cleared (S / 2) m k lower)
  where
    even : S % 2 ≡ 0
    even = elim (cases_eq (S % 2) 1) [
      | inl e ↦ let z : suc m ≤ zero = l.lowest zero ((has_first S).1 e) in absurd (omega arith)
      | inr ne ↦ omega arith
    ]

    lower : Least (S / 2) m
    lower = record {
      member = sym (has_later S m) ∙ l.member;
      lowest = λ j h. let z : suc m ≤ suc j = l.lowest (suc j) (has_later S j ∙ h) in omega arith;
    }

    up : Has (bit_and (S / 2) (S / 2 - 1)) k ↔ (Has (S / 2) k × (m < k)) → Has (bit_and S (S - 1)) (suc k) ↔ (Has S (suc k) × (suc m < suc k))
    up half =
        let e : bit_and S (S - 1) / 2 ^ suc k % 2 ≡ bit_and (S / 2) (S / 2 - 1) / 2 ^ k % 2 =
        has_later _ k ∙ ap (λ (n : ℕ). n / 2 ^ k % 2) (cleared_even S even) in (
          λ h. let b = half.0 (sym e ∙ h) in (has_later S k ∙ b.0, omega (arith, b.1)),
          λ h. e ∙ half.1 (sym (has_later S k) ∙ h.0, omega (arith, h.1)),
        )

-- a set with a member is not empty
pub least_some : (S m : ℕ) → Least S m → 0 < S
unfolding Has
least_some S m l = elim (cases_eq S 0) [
  | inl e ↦ absurd (has_zero m (subst (λ (n : ℕ). Has n m) e l.member))
  | inr ne ↦ omega arith
]

-- ---- the test of a bit

-- `S >> r & 1 == 1`
pub bit_decides : (S r : ℕ) → Decides (eqb (bit_and (S / 2 ^ r) 1) 1) (Has S r)
unfolding Has
bit_decides S r =
    let low : bit_and (S / 2 ^ r) 1 ≡ S / 2 ^ r % 2 = and_mask (S / 2 ^ r) 1 in
    (λ e. sym low ∙ eqb-true (bit_and (S / 2 ^ r) 1) 1 e, λ h. eq-eqb (bit_and (S / 2 ^ r) 1) 1 (low ∙ h))
