-- What words say of the releases whose bits they have.
use Rattle.std.proofs.Common.{◌≡◌, ℕ, ◌-◌, ◌^◌, ◌<◌, ◌≤◌, Bool, true, false, List, [], ◌∷◌, get_or, Decides, sym, ◌∙◌, ⊎_elim, arith}
use lib.Bits.{bit_and}
use Rattle.std.specs.List.{fold}
use Rattle.std.proofs.lemmas.List.Elements.{All-nil, All-cons, All-head, All-tail}
use Rattle.std.proofs.lemmas.Bool.{and_from, and_parts, lt-ltb, cases_lt, false_from_ne_true}
use Rattle.book.specs.Numbers.{record_indices}
use Rattle.book.specs.declared.number.RecordNumber.{RecordNumber}
use Rattle.charts.specs.Bits.{bit}
use Rattle.charts.specs.Evaluation.{Meets, AllSet}
use Rattle.charts.specs.BitLaws.{digit_ones, bit_of_and}

-- a word that is right below n, of what holds below n only, is right
pub word_all : (f : ℕ → Bool) (word n : ℕ) → ((k : ℕ) → k < n → bit word k ≡ f k) → ((k : ℕ) → n ≤ k → bit word k ≡ false)
    → ((k : ℕ) → f k ≡ true → k < n) → (k : ℕ) → bit word k ≡ f k
word_all f word n right beyond below k =
    ⊎_elim (right k) (λ h. beyond k h ∙ sym (false_from_ne_true (f k) (λ e. omega (arith, below k e)))) (cases_lt k n)

-- the releases of `followers` and `met` lie within `carriers`
pub meets_within : (followers met carriers : ℕ) (r : Bool) → Decides r ((k : ℕ) → bit (bit_and followers met) k ≡ true → bit carriers k ≡ true)
    → Decides r (Meets followers met carriers)
meets_within followers met carriers r d = (
  (λ e v f m. d.0 e v (bit_of_and followers met v ∙ and_from (bit followers v) (bit met v) f m)),
  λ meets. d.1 (λ k h. let parts = and_parts (bit followers k) (bit met k) (sym (bit_of_and followers met k) ∙ h) in meets k parts.0 parts.1),
)

-- a word with every bit set
pub bit_all : (k : ℕ) → k < 64 → bit (2 ^ 64 - 1) k ≡ true
bit_all k h = and_from _ _ (lt-ltb k 64 h) (digit_ones 64 k ∙ lt-ltb k 64 h)

-- what the masks of bodies and a first word have in common
abbrev pub common : List ℕ → ℕ → List RecordNumber → ℕ
common masks first bodies = fold (λ met b. bit_and met (get_or masks b.index 0)) first bodies

pub common_has : (masks : List ℕ) (v first : ℕ) (bodies : List RecordNumber)
    → Decides (bit (common masks first bodies) v) ((bit first v ≡ true) × AllSet masks (record_indices bodies) v)
common_has masks v first [] = ((λ e. (e, All-nil (λ b. bit (get_or masks b 0) v ≡ true))), λ p. p.0)
common_has masks v first (b ∷ bs) =
    let P : ℕ → Type 0 = λ x. bit (get_or masks x 0) v ≡ true in
    let mask = get_or masks b.index 0 in
    let rest = common_has masks v (bit_and first mask) bs in
    let both = bit_of_and first mask v in (
      (λ e. let r = rest.0 e in let parts = and_parts (bit first v) (bit mask v) (sym both ∙ r.0) in
          (parts.0, All-cons P b.index (record_indices bs) parts.1 r.1)),
      λ p. rest.1 (both ∙ and_from (bit first v) (bit mask v) p.0 (All-head P b.index (record_indices bs) p.1), All-tail P b.index (record_indices bs) p.1),
    )
