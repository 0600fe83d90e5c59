-- Queries on a way down: cases, and a decision.
use Rattle.std.proofs.Common.{◌≡◌, ◌⊎◌, List, [], ◌∷◌, refl, ap, subst, inl, inr, ⊎_elim}
use native.Mathlib.Decide.{ℕ_discrete}
use Rattle.logic.specs.Search.{Query, On, here, there}

pub nothing_on : {q : Query} → On q [] → ⊥
nothing_on o = elim o [ ]

-- an entry of a way is its first, or is on the rest
pub on_cases : {p q : Query} {way : List Query} → On p (q ∷ way) → (p ≡ q) ⊎ On p way
on_cases here = inl refl
on_cases (there o) = inr o

pub query_same : (p q : Query) → p.in_force ≡ q.in_force → p.name ≡ q.name → p ≡ q
query_same p q e f = λ i. record { in_force = e i; name = f i }

same_query : (p q : Query) → Dec (p ≡ q)
unfolding ℕ_discrete
same_query p q = go (ℕ_discrete p.in_force q.in_force) (ℕ_discrete p.name q.name)
  where
    go : Dec (p.in_force ≡ q.in_force) → Dec (p.name ≡ q.name) → Dec (p ≡ q)
    go (yes e) (yes f) = yes (query_same p q e f)
    go (yes e) (no f) = no (λ k. f (ap (λ (u : Query). u.name) k))
    go (no e) f = no (λ k. e (ap (λ (u : Query). u.in_force) k))

unfoldable pub dec_on : (q : Query) (way : List Query) → Dec (On q way)
unfolding same_query
dec_on q [] = no nothing_on
dec_on q (p ∷ way) = go (same_query q p) (dec_on q way)
  where
    go : Dec (q ≡ p) → Dec (On q way) → Dec (On q (p ∷ way))
    go (yes e) d = yes (subst (λ (u : Query). On q (u ∷ way)) e here)
    go (no e) (yes o) = yes (there o)
    go (no e) (no o) = no (λ k. ⊎_elim e o (on_cases k))
