-- Sets of records as bit masks: what is in a union, in a mask of a list.
use Rattle.std.proofs.Common.{◌≡◌, ℕ, zero, ◌/◌, ◌%◌, ◌^◌, ◌<◌, ◌≤◌, ◌⊎◌, List, [], ◌∷◌, sym, ap, ◌∙◌, subst, inl, inr, ⊎_elim, arith}
use native.Mathlib.Decide.{ℕ_discrete}
use lib.Bits.{bit_or, or_comm, or_self, or_add_and, and_le_r, or_lt}
use Rattle.std.proofs.lemmas.Bool.{cases_lt, cases_eq}
use Rattle.std.proofs.lemmas.Nat.{pow_pos, pow_below}
use Rattle.std.proofs.lemmas.Nat.Bits.{bit_at_or, bit_at-zero, bit_at-pow_same, bit_at-pow_other, bit_at-lt, bit_at_above, same_from_bits}
use Rattle.logic.specs.Sets.{Has, Within, mask, AllBelow}

-- ---- unions

pub has_left : (S V r : ℕ) → Has S r → Has (bit_or S V) r
unfolding Has
has_left S V r h = omega (arith, bit_at_or S V r, bit_at-lt V r)

pub has_right : (S V r : ℕ) → Has V r → Has (bit_or S V) r
unfolding Has
has_right S V r h = omega (arith, bit_at_or S V r, bit_at-lt S r)

pub has_split : (S V r : ℕ) → Has (bit_or S V) r → Has S r ⊎ Has V r
unfolding Has
has_split S V r h = ⊎_elim (λ e. inl e) (λ no. inr (omega (arith, bit_at_or S V r, bit_at-lt S r))) (cases_eq (S / 2 ^ r % 2) 1)

unfoldable pub dec_has : (S r : ℕ) → Dec (Has S r)
unfolding Has ℕ_discrete
dec_has S r = ℕ_discrete (S / 2 ^ r % 2) 1

-- ---- single records

pub has_zero : (r : ℕ) → Has zero r → ⊥
unfolding Has
has_zero r h = omega (arith, bit_at-zero r)

pub has_self : (r : ℕ) → Has (2 ^ r) r
unfolding Has
has_self = bit_at-pow_same

pub has_only : (b r : ℕ) → Has (2 ^ b) r → b ≡ r
unfolding Has
has_only b r h = ⊎_elim (λ e. e) (λ no. absurd (omega (arith, bit_at-pow_other b r (λ e. no (sym e))))) (cases_eq b r)

-- a record in a set below 2 ^ m is below m
pub has_below : (m S r : ℕ) → S < 2 ^ m → Has S r → r < m
unfolding Has
has_below m S r b h = ⊎_elim (λ l. l) (λ l. absurd (omega (arith, bit_at_above S m r b l))) (cases_lt r m)

-- ---- inclusion

pub or_assoc : (a b c : ℕ) → bit_or (bit_or a b) c ≡ bit_or a (bit_or b c)
or_assoc a b c =
    same_from_bits (bit_or (bit_or a b) c) (bit_or a (bit_or b c))
    (λ i. omega (arith, bit_at_or (bit_or a b) c i, bit_at_or a b i, bit_at_or a (bit_or b c) i, bit_at_or b c i))

pub or_grows : (S V : ℕ) → S ≤ bit_or S V
or_grows S V = omega (arith, or_add_and S V, and_le_r S V)

pub within_self : (S : ℕ) → Within S S
within_self = or_self

pub within_join : (S V : ℕ) → Within S (bit_or S V)
within_join S V = sym (or_assoc S S V) ∙ ap (λ (n : ℕ). bit_or n V) (or_self S)

pub within_trans : (S V W : ℕ) → Within S V → Within V W → Within S W
within_trans S V W p q =
    ap (bit_or S) (sym q) ∙ sym (or_assoc S V W) ∙ ap (λ (n : ℕ). bit_or n W) p ∙ q

-- what is joined to the smaller set and to the larger
pub within_both : (S V B : ℕ) → Within S V → Within (bit_or S B) (bit_or V B)
within_both S V B p =
    or_assoc S B (bit_or V B)
    ∙ ap (bit_or S) (ap (bit_or B) (or_comm V B) ∙ within_join B V ∙ or_comm B V)
    ∙ sym (or_assoc S V B) ∙ ap (λ (n : ℕ). bit_or n B) p

pub has_within : (S V r : ℕ) → Within S V → Has S r → Has V r
has_within S V r p h = subst (λ (n : ℕ). Has n r) p (has_left S V r h)

-- ---- the set of a list

pub data Member (r : ℕ) : List ℕ → Type 0 where
  first : {bs : List ℕ} → Member r (r ∷ bs)
  later : {b : ℕ} {bs : List ℕ} → Member r bs → Member r (b ∷ bs)

pub member_has : {r : ℕ} {bs : List ℕ} → Member r bs → Has (mask bs) r
member_has {r} (first {bs = bs}) = has_left (2 ^ r) (mask bs) r (has_self r)
member_has {r} (later {b = b} {bs = bs} m) = has_right (2 ^ b) (mask bs) r (member_has m)

pub has_member : (r : ℕ) (bs : List ℕ) → Has (mask bs) r → Member r bs
has_member r [] h = absurd (has_zero r h)
has_member r (b ∷ bs) h =
    ⊎_elim (λ e. subst (λ (n : ℕ). Member n (b ∷ bs)) (has_only b r e) first) (λ t. later (has_member r bs t))
    (has_split (2 ^ b) (mask bs) r h)

pub mask_lt : (m : ℕ) (bs : List ℕ) → AllBelow m bs → mask bs < 2 ^ m
mask_lt m [] h = pow_pos m
mask_lt m (b ∷ bs) h = or_lt m (2 ^ b) (mask bs) (pow_below b m h.0) (mask_lt m bs h.1)

pub below_more : (m n : ℕ) → m ≤ n → (bs : List ℕ) → AllBelow m bs → AllBelow n bs
below_more m n l [] h = tt
below_more m n l (b ∷ bs) h = (omega arith, below_more m n l bs h.1)

pub member_below : {r : ℕ} {bs : List ℕ} (m : ℕ) → AllBelow m bs → Member r bs → r < m
member_below m h first = h.0
member_below m h (later k) = member_below m h.1 k
