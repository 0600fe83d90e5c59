-- Whether a rule holds at a release of a lawful chart can be decided.
use Rattle.std.proofs.Common.{ℕ, ◌<◌, ◌⊎◌, inl, inr, ⊎_elim}
use mathlib.Core.Logic.Dec.{and as both_decided}
use Rattle.logic.specs.Rules.{Rule, Rules, rule, none, more}
use Rattle.logic.specs.Charts.{Chart, Lawful, Follows, Carries, Holds, AllHold}
use Rattle.logic.proofs.Tests.{dec_T, found_or_all}

-- a decided statement can be decided at all numbers below n
dec_below : (P : ℕ → Type 0) → ((v : ℕ) → Dec (P v)) → (n : ℕ) → Dec ((v : ℕ) → v < n → P v)
dec_below P d n = ⊎_elim (λ i. no (λ k. i.2 (k i.0 i.1))) (λ all. yes all) (found_or_all n (λ v. ¬ P v) P (λ v. either (d v)))
  where
    either : {A : Type 0} → Dec A → (¬ A) ⊎ A
    either (yes a) = inr a
    either (no h) = inl h

dec_to : {A B : Type 0} → Dec A → Dec B → Dec (A → B)
dec_to (yes a) (yes b) = yes (λ x. b)
dec_to (yes a) (no b) = no (λ f. b (f a))
dec_to (no a) d = yes (λ x. absurd (a x))

-- only releases follow
bounded : {n : ℕ} {P Q : ℕ → Type 0} → ((v : ℕ) → P v → v < n) → Dec ((v : ℕ) → v < n → P v → Q v) → Dec ((v : ℕ) → P v → Q v)
bounded l (yes h) = yes (λ v p. h v (l v p) p)
bounded l (no h) = no (λ k. h (λ v m p. k v p))

module _ (chart : Chart) (lawful : Lawful chart) where
  mutual
    pub dec_holds : (r : Rule) (w : ℕ) → Dec (Holds chart w r)
    dec_holds (rule h bs) w =
        bounded {P = Follows chart w} {Q = λ v. AllHold chart v bs → Carries chart v h} (λ v f. (lawful.inside w v f).1)
        (dec_below (λ v. Follows chart w v → AllHold chart v bs → Carries chart v h)
        (λ v. dec_to (dec_T (chart.follows w v)) (dec_to (dec_all bs v) (dec_T (chart.carries v h)))) chart.size)

    pub dec_all : (rs : Rules) (w : ℕ) → Dec (AllHold chart w rs)
    dec_all none w = yes tt
    dec_all (more r rs) w = both_decided (dec_holds r w) (dec_all rs w)
