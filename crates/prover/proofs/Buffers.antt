-- How writes to a buffer follow one another.
use Rattle.std.proofs.Common.{◌≡◌, ℕ, zero, suc, ◌≤◌, List, [], ◌∷◌, ◌++◌, length, take, sym, refl, ap, ◌∙◌, append_assoc, arith, length-append}
use Rattle.std.proofs.lemmas.List.{take_all, take-take}
use Rattle.prover.specs.Written.{Wrote}

-- cutting the front first changes nothing of what fits
pub take_front : (c : ℕ) (xs ys : List ℕ) → take c (take c xs ++ ys) ≡ take c (xs ++ ys)
take_front zero xs ys = refl
take_front (suc c) [] ys = refl
take_front (suc c) (x ∷ xs) ys = ap (λ l. x ∷ l) (take_front c xs ys)

-- one write after another
pub wrote_twice : (out : List ℕ) (n : ℕ) (t : List ℕ) (mid : List ℕ) (m : ℕ) (u : List ℕ) (out' : List ℕ) (n' : ℕ)
    → length mid ≡ length out → Wrote out n t mid m → Wrote mid m u out' n' → Wrote out n (t ++ u) out' n'
wrote_twice out n t mid m u out' n' same p q = record {
  longer = simp length-append (omega (arith, p.longer, q.longer));
  holds = q.holds ∙ ap (λ c. take c (take m mid ++ u)) same ∙ ap (λ l. take (length out) (l ++ u)) p.holds
      ∙ take_front (length out) (take n out ++ t) u ∙ ap (take (length out)) (append_assoc (take n out) t u);
}

-- the front of a text, and behind it what fits
front : (c n : ℕ) (xs t : List ℕ) → length xs ≡ c → take n (take c (take n xs ++ t)) ≡ take n xs
front c zero xs t e = refl
front zero (suc n) [] t e = refl
front zero (suc n) (x ∷ xs) t e = absurd (omega arith)
front (suc c) (suc n) [] t e = absurd (omega arith)
front (suc c) (suc n) (x ∷ xs) t e = ap (λ l. x ∷ l) (front c n xs t (omega arith))

-- what was there before a write is there after it
pub wrote_keeps : (out : List ℕ) (n : ℕ) (t : List ℕ) (out' : List ℕ) (n' : ℕ)
    → Wrote out n t out' n' → take n out' ≡ take n out
wrote_keeps out n t out' n' p =
    let h : n ≤ n' = omega (arith, p.longer) in
    sym (take-take n n' out' h) ∙ ap (take n) p.holds ∙ front (length out) n out t refl

-- a shorter front is kept too
pub kept_less : (m n : ℕ) (out out' : List ℕ) → m ≤ n → take n out' ≡ take n out → take m out' ≡ take m out
kept_less m n out out' h e = sym (take-take m n out' h) ∙ ap (take m) e ∙ take-take m n out h

-- a text from the start that fits is there as a whole
pub wrote_whole : (out t out' : List ℕ) (n : ℕ) → Wrote out 0 t out' n → length out' ≡ length out → n ≤ length out' → take n out' ≡ t
wrote_whole out t out' n p same h = p.holds ∙ take_all (length out) t (omega (arith, p.longer))
