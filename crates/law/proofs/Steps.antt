-- A service whose every call does what is defined only ever makes runs.
use Rattle.std.proofs.Common.{ℕ, List}
use Rattle.reader.specs.Written.{Kind}
use Rattle.law.specs.Calls.{Tally, at_start}
use Rattle.law.specs.Defined.{next}
use Rattle.law.specs.Runs.{Event, Run, ended, step}
use Rattle.law.specs.OneRun.{calls}
use Rattle.law.specs.Steps.{tally_after, Steps, none, more, StepsRun}

module _ {K : Type 0} (kind : Kind K) (slots : ℕ) {S : Type 0} (Represents : Tally → S → Type 0) where
  from_steps : {s s' : S} {es : List Event} → Steps kind slots Represents s es s' → (t : Tally) → Represents t s
      → Run kind slots t es × Represents (tally_after kind slots t (calls es)) s'
  from_steps none t r = (ended, r)
  from_steps (more {e = e} does rest) t r =
      let (takes, defined, r') = does t r in
      let f = from_steps rest (next kind slots t e.call) r' in
      (step takes defined f.0, f.1)

  pub steps_run : StepsRun kind slots Represents
  steps_run s s' es r steps = from_steps steps at_start r
