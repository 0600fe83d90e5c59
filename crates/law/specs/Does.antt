-- What the contract of every call says: it does what is defined, whatever tally the state stands for.
use Rattle.std.specs.Prelude.{ℕ, List}
use Rattle.reader.specs.Written.{Kind}
use Rattle.law.specs.Calls.{Call, Answer, Tally, Takes}
use Rattle.law.specs.Defined.{Defined, next}

-- S is the service's state, and Represents says which tallies a state stands for
module _ {K : Type 0} (kind : Kind K) (slots : ℕ) {S : Type 0} (Represents : Tally → S → Type 0) where
  -- for each tally that the state represents, the call is one that the state takes, it answers what is defined,
  -- and the state after it represents the next tally
  abbrev pub Does : Call → S → Answer → List ℕ → S → Type 0
  Does c s a b s' = (t : Tally) → Represents t s → Takes t c × Defined kind slots t c a b × Represents (next kind slots t c) s'
