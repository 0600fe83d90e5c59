-- Every list of calls that the states take has one run.
use Rattle.std.specs.Prelude.{◌≡◌, ℕ, List, [], ◌∷◌}
use Rattle.reader.specs.Written.{Kind}
use Rattle.law.specs.Calls.{Call, Tally, Takes}
use Rattle.law.specs.Defined.{next}
use Rattle.law.specs.OneAnswer.{OfLawful}
use Rattle.law.specs.Runs.{Event, Run}

-- the states take the calls, one after the other
abbrev pub AllTaken : {K : Type 0} → Kind K → ℕ → Tally → List Call → Type 0
AllTaken kind slots t [] = Unit {0}
AllTaken kind slots t (c ∷ cs) = Takes t c × OfLawful c × AllTaken kind slots (next kind slots t c) cs

abbrev pub calls : List Event → List Call
calls [] = []
calls (e ∷ es) = e.call ∷ calls es

-- A list of calls has a run, and only one.
pub record OneRun (K : Type 0) : Type 0 where
  pub run : (kind : Kind K) (slots : ℕ) (t : Tally) (cs : List Call) → AllTaken kind slots t cs
      → (es : List Event) × (calls es ≡ cs) × Run kind slots t es
  pub one_run : (kind : Kind K) (slots : ℕ) (t : Tally) (es es' : List Event)
      → Run kind slots t es → Run kind slots t es' → calls es ≡ calls es' → es ≡ es'
