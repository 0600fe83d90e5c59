-- One more body.
use Rattle.std.proofs.Common.{◌≡◌, ℕ, ◌+◌, ◌^◌, ◌<◌, List, [], ◌∷◌, ◌++◌, map, length, get_or, take, Decides, nat_lt, refl, set, sym, ap, ◌∙◌, arith, length-take}
use lib.Bits.{bit_or, or_zero_l, or_zero_r}
use lib.ListN.{length-map}
use Rattle.std.proofs.lemmas.List.{map-set, take_more_set, take_more, get_or-map, get_or-take}
use Rattle.std.proofs.lemmas.Bool.Decides.{Decides-and, Decides-ltb}
use Rattle.std.specs.List.{list_all}
use Rattle.logic.specs.Sets.{mask, AllBelow}
use Rattle.logic.proofs.Sets.{or_assoc}
use Rattle.book.specs.Numbers.{record_indices, listed}
use Rattle.book.specs.Records.{numbers}
use Rattle.book.specs.declared.bodies.Bodies.{Bodies}
use Rattle.book.specs.declared.number.RecordNumber.{RecordNumber}

pub mask_last : (bs : List ℕ) (n : ℕ) → mask (bs ++ n ∷ []) ≡ bit_or (mask bs) (2 ^ n)
mask_last [] n = or_zero_r (2 ^ n) ∙ sym (or_zero_l (2 ^ n))
mask_last (b ∷ bs) n = ap (bit_or (2 ^ b)) (mask_last bs n) ∙ sym (or_assoc (2 ^ b) (mask bs) (2 ^ n))

pub listed_more : (at : List RecordNumber) (n : ℕ) (r : RecordNumber) → n < length at → listed (n + 1) (set at n r) ≡ listed n at ++ r.index ∷ []
listed_more at n r h =
    let f : RecordNumber → ℕ = λ (k : RecordNumber). k.index in
    let l : n < length (map f at) = simp length-map (omega arith) in
    ap (take (n + 1)) (map-set f at n r) ∙ take_more_set (map f at) n (f r) l

pub numbers_length : (b : Bodies) → length (numbers b) ≡ b.len
numbers_length b = simp (length-take, length-map) (omega (arith, b.whole, b.few))

-- ---- all below a count

pub below_tested : (n : ℕ) (rs : List RecordNumber) → Decides (list_all (λ (r : RecordNumber). nat_lt r.index n) rs) (AllBelow n (record_indices rs))
below_tested n [] = (λ e. tt, λ h. refl)
below_tested n (r ∷ rs) = Decides-and _ _ (Decides-ltb r.index n) (below_tested n rs)

pub below_push : (n : ℕ) (bs : List ℕ) (b : ℕ) → AllBelow n bs → b < n → AllBelow n (bs ++ b ∷ [])
below_push n [] b h l = (l, tt)
below_push n (a ∷ bs) b h l = (h.0, below_push n bs b h.1 l)

pub listed_next : (at : List RecordNumber) (n : ℕ) (d : RecordNumber) → n < length at → listed (n + 1) at ≡ listed n at ++ (get_or at n d).index ∷ []
listed_next at n d h =
    let f : RecordNumber → ℕ = λ (k : RecordNumber). k.index in
    let l : n < length (map f at) = simp length-map (omega arith) in
    take_more (map f at) n 0 l ∙ ap (λ (k : ℕ). listed n at ++ k ∷ []) (get_or-map f at n d 0 h)

pub listed_at : (at : List RecordNumber) (m n : ℕ) (d : RecordNumber) → n < m → n < length at → get_or (listed m at) n 0 ≡ (get_or at n d).index
listed_at at m n d l h =
    let f : RecordNumber → ℕ = λ (k : RecordNumber). k.index in
    get_or-take m (map f at) n 0 l ∙ get_or-map f at n d 0 h
