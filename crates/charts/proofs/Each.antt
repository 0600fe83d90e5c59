-- What `all` tells of the elements of a list, each with its place.
use Rattle.std.proofs.Common.{◌≡◌, ℕ, ◌<◌, Bool, true, false, List, Option, length, get_or, Decides, MatchBool, refl, ap, ◌∙◌, subst, zero-add, arith}
use Rattle.std.proofs.lemmas.Bool.{false≢true}
use Rattle.std.proofs.lemmas.Iterator.{YieldsList, cases_from_all}
use Rattle.std.proofs.lemmas.List.FromFn.{length-enumerate_from, get_or-enumerate_from}
use Rattle.std.specs.Fn.{Called, Mut}
use Rattle.std.specs.Iterator.{ChecksAll}
use Rattle.std.specs.List.{HoldsAt, AllWithin, enumerate_from}

module _ (P : ℕ → ℕ → Type 0) (xs : List ℕ) where
  place : (k : ℕ) → k < length xs → get_or (enumerate_from 0 xs) k (0, 0) ≡ (k, get_or xs k 0)
  place k h = get_or-enumerate_from 0 xs k (0, 0) h ∙ ap (λ (j : ℕ). (j, get_or xs k 0)) (zero-add k)

  told : (r : Bool) → MatchBool r (AllWithin (λ p. P p.0 p.1) (enumerate_from 0 xs) 0 (length (enumerate_from 0 xs)))
      ((k : ℕ) × (k < length (enumerate_from 0 xs)) × HoldsAt (λ p. P p.0 p.1 → ⊥) (enumerate_from 0 xs) k)
      → Decides r ((k : ℕ) → k < length xs → P k (get_or xs k 0))
  told true all = (
    (λ _ k h. subst (λ p. P p.0 p.1) (place k h) (all k (0, 0) (omega arith) (omega (arith, length-enumerate_from 0 xs)))),
    λ _. refl,
  )
  told false (k, h, fails) =
      let l : k < length xs = omega (arith, length-enumerate_from 0 xs) in (
        (λ e. absurd (false≢true e)),
        λ all. absurd (subst (λ p. P p.0 p.1 → ⊥) (place k l) (fails (0, 0)) (all k l)),
      )

  -- the test decides P at each element
  pub decided_each : {S A F : Type 0} {steps : S → Option A → S → Type 0} {v : A → ℕ × ℕ} {g : Mut F (A × Unit {0}) Bool} {s : S} (u : S) (f : F) (r : Bool)
      → ChecksAll steps g s f r u → YieldsList steps v s (enumerate_from 0 xs)
      → ((x : A) (b : Bool) (q : F) → Called g f (x, tt) b q → (q ≡ f) × Decides b (P (v x).0 (v x).1))
      → Decides r ((k : ℕ) → k < length xs → P k (get_or xs k 0))
  decided_each u f r ran road decides =
      told r (cases_from_all u f r (λ p. P p.0 p.1) (λ p. P p.0 p.1 → ⊥) ran road
      (λ x q k. let d = decides x true q k in (d.0, d.1.0 refl))
      (λ x q k p. false≢true ((decides x false q k).1.1 p)))
