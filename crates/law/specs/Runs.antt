-- Runs: lists of calls with what they answered.
use Rattle.std.specs.Prelude.{ℕ, List, [], ◌∷◌}
use Rattle.reader.specs.Written.{Kind}
use Rattle.law.specs.Calls.{Call, add, seal, reopen, suppose, withdraw, ask, check, look, Answer, done, refused, long, accepted, rejected, told, Tally, Takes, at_start}
use Rattle.law.specs.Defined.{Defined, next}
use Rattle.law.specs.Kept.{TallyRight}

-- a call, its answer, and the buffer after it
pub record Event : Type 0 where
  pub call : Call
  pub answer : Answer
  pub buffer : List ℕ

abbrev pub IsRefused : Answer → Type 0
IsRefused done = ⊥
IsRefused (refused f) = Unit {0}
IsRefused (Answer.yes k n) = ⊥
IsRefused (Answer.no k) = ⊥
IsRefused (Answer.spent k) = ⊥
IsRefused (long k n) = ⊥
IsRefused accepted = ⊥
IsRefused (rejected p) = ⊥
IsRefused (told a b) = ⊥

-- no reopen, and no suppose or withdraw but a refused one
abbrev pub Keeps : Call → Answer → Type 0
Keeps (add rule) a = Unit {0}
Keeps seal a = Unit {0}
Keeps reopen a = ⊥
Keeps (suppose rule) a = IsRefused a
Keeps withdraw a = IsRefused a
Keeps (ask goal budget buffer restart) a = Unit {0}
Keeps (check goal tree restart) a = Unit {0}
Keeps (look goal chart release) a = Unit {0}

abbrev pub AllKeep : List Event → Type 0
AllKeep [] = Unit {0}
AllKeep (e ∷ es) = Keeps e.call e.answer × AllKeep es

module _ {K : Type 0} (kind : Kind K) (slots : ℕ) where
  -- a run from a tally: each call is one that the state takes, and answers what is defined
  pub data Run : Tally → List Event → Type 0 where
    ended : {t : Tally} → Run t []
    step : {t : Tally} {e : Event} {es : List Event} → Takes t e.call → Defined kind slots t e.call e.answer e.buffer
        → Run (next kind slots t e.call) es → Run t (e ∷ es)

  -- Happens from run t e rest: in the run from the first tally, at tally t the event e happens, and rest follows
  pub data Happens : Tally → List Event → Tally → Event → List Event → Type 0 where
    first : {t : Tally} {e : Event} {rest : List Event} → Happens t (e ∷ rest) t e rest
    later : {from t : Tally} {d e : Event} {run rest : List Event}
        → Happens (next kind slots from d.call) run t e rest → Happens from (d ∷ run) t e rest

-- Wherever a run from the start comes, the tally holds rules that were entered, so many suppositions at most, and none in a draft.
abbrev pub RunRight : Type 0 → Type 0
RunRight K = (kind : Kind K) (slots : ℕ) (run : List Event) → Run kind slots at_start run → (t : Tally) (e : Event) (rest : List Event)
    → Happens kind slots at_start run t e rest → TallyRight kind slots t
