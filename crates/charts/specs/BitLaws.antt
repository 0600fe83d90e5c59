-- What setting, joining and meeting words does to their bits.
use Rattle.std.specs.Prelude.{◌≡◌, ℕ, ◌-◌, ◌*◌, ◌/◌, ◌%◌, ◌^◌, ◌<◌, ◌≤◌, min, max, Bool, true, false, ◌&&◌, ◌||◌, ◌==◌, nat_eq, nat_lt, refl}
use Rattle.std.specs.Int.{bit_at}
use Rattle.std.specs.Int.Bits.{bit_and, bit_or}
use Rattle.std.proofs.Common.{sym, ap, ◌∙◌, ⊎_elim, arith}
use Rattle.std.proofs.Math.Bool.{and-false, and-or_distrib_left, or_comm}
use Rattle.std.proofs.lemmas.Bool.{lt-ltb, le-ltb, eq-eqb, ne_eqb, eqb-true, and_parts, and_from, cases_eq, cases_lt}
use Rattle.std.proofs.lemmas.Bool.Decides.{nat_tests}
use Rattle.std.proofs.lemmas.Nat.{one_shl, and_le_l}
use Rattle.std.proofs.lemmas.Nat.Bits.{shr_and_one, ones_shr, bit_at-lt, bit_at-zero, bit_at_and, bit_at_or, bit_at-pow_same, bit_at-pow_other, bit_at_ones, bit_at_ones_above, same_from_bits_below}
use Rattle.charts.specs.Bits.{digit, bit}

-- ---- on single digits

max_or : (u v : ℕ) → u < 2 → v < 2 → (max u v == 1) ≡ (u == 1 || v == 1)
max_or u v h k = grind (arith, nat_tests)

min_and : (u v : ℕ) → u < 2 → v < 2 → (min u v == 1) ≡ (u == 1 && v == 1)
min_and u v h k = grind (arith, nat_tests)

same_digit : (u v : ℕ) → u < 2 → v < 2 → (u == 1) ≡ (v == 1) → u ≡ v
same_digit u v h k e = grind (arith, nat_tests)

-- ---- on the digits of a number

pub digit_or : (a b k : ℕ) → digit (bit_or a b) k ≡ (digit a k || digit b k)
unfolding digit
digit_or a b k = ap (λ (x : ℕ). nat_eq x 1) (bit_at_or a b k) ∙ max_or (bit_at a k) (bit_at b k) (bit_at-lt a k) (bit_at-lt b k)

pub digit_and : (a b k : ℕ) → digit (bit_and a b) k ≡ (digit a k && digit b k)
unfolding digit
digit_and a b k = ap (λ (x : ℕ). nat_eq x 1) (bit_at_and a b k) ∙ min_and (bit_at a k) (bit_at b k) (bit_at-lt a k) (bit_at-lt b k)

pub digit_zero : (k : ℕ) → digit 0 k ≡ false
unfolding digit
digit_zero k = ap (λ (x : ℕ). nat_eq x 1) (bit_at-zero k)

-- only digit k of 2 ^ k is 1
pub digit_pow : (k j : ℕ) → digit (2 ^ k) j ≡ (j == k)
unfolding digit
digit_pow k j =
    ⊎_elim
    (λ (e : j ≡ k). ap (digit (2 ^ k)) e ∙ ap (λ (x : ℕ). nat_eq x 1) (bit_at-pow_same k) ∙ sym (eq-eqb j k e))
    (λ ne. ap (λ (x : ℕ). nat_eq x 1) (bit_at-pow_other k j ne) ∙ sym (ne_eqb j k ne))
    (cases_eq j k)

-- the digit that a program reads, by a shift and a mask
pub digit_read : (m k : ℕ) → (bit_and (m / 2 ^ k) 1 == 1) ≡ digit m k
unfolding digit
digit_read m k = ap (λ (x : ℕ). nat_eq x 1) (shr_and_one m k)

-- the digits of 2 ^ n - 1 are 1 below n
pub digit_ones : (n k : ℕ) → digit (2 ^ n - 1) k ≡ nat_lt k n
unfolding digit
digit_ones n k =
    ⊎_elim
    (λ (h : k < n). ap (λ (x : ℕ). nat_eq x 1) (bit_at_ones n k h) ∙ sym (lt-ltb k n h))
    (λ h. ap (λ (x : ℕ). nat_eq x 1) (bit_at_ones_above n k h) ∙ sym (le-ltb k n h))
    (cases_lt k n)

-- numbers with equal digits are equal
pub digits_equal : (n a b : ℕ) → a < 2 ^ n → b < 2 ^ n → ((k : ℕ) → k < n → digit a k ≡ digit b k) → a ≡ b
unfolding digit
digits_equal n a b ha hb h = same_from_bits_below n a b ha hb (λ k less. same_digit (bit_at a k) (bit_at b k) (bit_at-lt a k) (bit_at-lt b k) (h k less))

-- ---- on the bits of a word

pub bit_of_or : (a b k : ℕ) → bit (bit_or a b) k ≡ (bit a k || bit b k)
bit_of_or a b k = ap (λ (x : Bool). nat_lt k 64 && x) (digit_or a b k) ∙ and-or_distrib_left (nat_lt k 64) (digit a k) (digit b k)

pub bit_of_and : (a b k : ℕ) → bit (bit_and a b) k ≡ (bit a k && bit b k)
bit_of_and a b k = ap (λ (x : Bool). nat_lt k 64 && x) (digit_and a b k) ∙ spread (nat_lt k 64) (digit a k) (digit b k)
  where
    spread : (l x y : Bool) → (l && (x && y)) ≡ ((l && x) && (l && y))
    spread true x y = refl
    spread false x y = refl

pub bit_zero : (k : ℕ) → bit 0 k ≡ false
bit_zero k = ap (λ (x : Bool). nat_lt k 64 && x) (digit_zero k) ∙ and-false (nat_lt k 64)

-- only bit k of 2 ^ k is set
pub bit_pow : (k j : ℕ) → k < 64 → bit (2 ^ k) j ≡ (j == k)
bit_pow k j h = ap (λ (x : Bool). nat_lt j 64 && x) (digit_pow k j) ∙ same (nat_lt j 64) (j == k) (λ e. lt-ltb j 64 (omega (arith, eqb-true j k e)))
  where
    same : (l x : Bool) → (x ≡ true → l ≡ true) → (l && x) ≡ x
    same true x f = refl
    same false true f = f refl
    same false false f = refl

-- what `m | (1 << k)` has set: bit k, and what m has
pub bit_set : (m k : ℕ) → k < 64 → (j : ℕ) → bit (bit_or m ((1 * 2 ^ k) % 2 ^ 64)) j ≡ (j == k || bit m j)
bit_set m k h j =
    ap (λ (x : ℕ). bit (bit_or m x) j) (one_shl k 64 h) ∙ bit_of_or m (2 ^ k) j
    ∙ ap (λ (x : Bool). bit m j || x) (bit_pow k j h) ∙ or_comm (bit m j) (j == k)

-- the bits of `u64::MAX >> (64 - n)` are the first n
pub bit_live : (n k : ℕ) → n ≤ 64 → bit ((2 ^ 64 - 1) / 2 ^ (64 - n)) k ≡ nat_lt k n
bit_live n k h =
    let rest : 64 - (64 - n) ≡ n = omega arith in
    ap (λ (x : ℕ). bit x k) (ones_shr 64 (64 - n) (omega arith) ∙ ap (λ (x : ℕ). 2 ^ x - 1) rest)
    ∙ ap (λ (x : Bool). nat_lt k 64 && x) (digit_ones n k) ∙ grind (arith, nat_tests)

and_true : (x y : Bool) → (x ≡ true → y ≡ true) → (x && y) ≡ x
and_true true y f = f refl
and_true false y f = refl

-- `a & b == a` says that b has every bit of a
pub bits_within : (a b : ℕ) → a < 2 ^ 64 → ((k : ℕ) → bit a k ≡ true → bit b k ≡ true) → bit_and a b ≡ a
bits_within a b h f =
    digits_equal 64 (bit_and a b) a (omega (arith, and_le_l a b)) h
    (λ k less. digit_and a b k ∙ and_true (digit a k) (digit b k) (λ e. (and_parts (nat_lt k 64) (digit b k) (f k (and_from (nat_lt k 64) (digit a k) (lt-ltb k 64 less) e))).1))

pub bits_of_part : (a b k : ℕ) → bit_and a b ≡ a → bit a k ≡ true → bit b k ≡ true
bits_of_part a b k e h = (and_parts (bit a k) (bit b k) (sym (bit_of_and a b k) ∙ ap (λ (x : ℕ). bit x k) e ∙ h)).1
