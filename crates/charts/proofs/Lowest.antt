-- What a test that decides a fact tells, where it is tried at the numbers below a size.
use Rattle.std.proofs.Common.{ℕ, ◌<◌, Bool, true, Decides, refl}
use Rattle.std.proofs.lemmas.Bool.{false≢true}
use Rattle.charts.specs.Filling.{AllYes, Lowest, LowestNo}

module _ {Answers : ℕ → Bool → Type 0} {n : ℕ} (P : ℕ → Type 0) (decides : (k : ℕ) (b : Bool) → Answers k b → Decides b (P k)) where
  pub all_from : AllYes Answers n → (k : ℕ) → k < n → P k
  all_from all k h = (decides k true (all.yes k h)).0 refl

  pub lowest_from : {k : ℕ} → LowestNo Answers n k → Lowest P n k
  lowest_from {k} l = record {
    inside = l.inside;
    below = λ j h. (decides j true (l.below j h)).0 refl;
    breaks = λ p. false≢true ((decides k _ l.no).1 p);
  }
