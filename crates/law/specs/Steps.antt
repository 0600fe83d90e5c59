-- From the contracts of the calls to the law: a service whose every call does what is defined only ever makes runs.
use Rattle.std.specs.Prelude.{ℕ, List, [], ◌∷◌}
use Rattle.reader.specs.Written.{Kind}
use Rattle.law.specs.Calls.{Call, Tally, at_start}
use Rattle.law.specs.Defined.{next}
use Rattle.law.specs.Does.{Does}
use Rattle.law.specs.Runs.{Event, Run}
use Rattle.law.specs.OneRun.{calls}

-- the tally after a list of calls
abbrev pub tally_after : {K : Type 0} → Kind K → ℕ → Tally → List Call → Tally
tally_after kind slots t [] = t
tally_after kind slots t (c ∷ cs) = tally_after kind slots (next kind slots t c) cs

-- S is the service's state, and Represents says which tallies a state stands for
module _ {K : Type 0} (kind : Kind K) (slots : ℕ) {S : Type 0} (Represents : Tally → S → Type 0) where
  -- from one state to another by these events, each of which does what its contract says
  pub data Steps : S → List Event → S → Type 0 where
    none : {s : S} → Steps s [] s
    more : {s m s' : S} {e : Event} {es : List Event} → Does kind slots Represents e.call s e.answer e.buffer m
        → Steps m es s' → Steps s (e ∷ es) s'

  -- Whatever calls are made from the start, in whatever order, their answers are a run, so that the law holds of them.
  abbrev pub StepsRun : Type 0
  StepsRun = (s s' : S) (es : List Event) → Represents at_start s → Steps s es s'
      → Run kind slots at_start es × Represents (tally_after kind slots at_start (calls es)) s'
