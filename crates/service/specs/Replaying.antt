-- How far replaying is.
use Rattle.std.specs.Prelude.{◌≡◌, ℕ, ◌≤◌, List, [], length, take, drop, Some, None, Option as Maybe}
use Rattle.std.proofs.Math.Option.{Option, none, some}
use Rattle.logic.specs.Charts.{Chart}
use Rattle.reader.specs.Written.{Kind}
use Rattle.law.specs.Calls as law
use Rattle.law.specs.Calls.{Tally, Takes}
use Rattle.law.specs.Defined.{Defined, next}
use Rattle.law.specs.Runs.{Event}
use Rattle.service.specs.Calls.{room_of, look_at, call_of, answer_of}
use Rattle.service.specs.Represents.{SealedHolds, Represents, Does}
use Rattle.service.specs.Replays.{Replayed}
use Rattle.service.specs.declared.calls.Answer.{Answer}
use Rattle.service.specs.declared.calls.Call.{Call}
use Rattle.service.specs.declared.calls.Call.TheVariants.{Seal, Reopen}
use Rattle.service.specs.declared.state.Sealed.{Sealed}
use Rattle.service.specs.declared.state.State.{State}
use Rattle.service.specs.declared.state.State.TheVariants.{Open, Shut}

-- what a call came to at a tally: it was taken and answered as defined; or the state does not take it, or it is none
abbrev pub Came : {K : Type 0} → Kind K → ℕ → Tally → Option law.Call → List ℕ → Option law.Answer → List ℕ → State K → Type 0
Came kind slots t c bytes (some x) after s =
    (k : law.Call) × (c ≡ some k) × Takes t k × Defined kind slots t k x after × Represents kind slots (next kind slots t k) s
Came kind slots t c bytes none after s = ((k : law.Call) → c ≡ some k → Takes t k → ⊥) × (after ≡ bytes) × Represents kind slots t s

-- carrying out a call that is handed these bytes, as many at the most as it is to be handed
abbrev pub CarriesOut : {K : Type 0} → Kind K → List Chart → Call → List ℕ → State K → Answer → List ℕ → State K → Type 0
CarriesOut kind charts c bytes s a after s' =
    (slots : ℕ) (t : Tally) → length bytes ≤ room_of c → Represents kind slots t s → Came kind slots t (call_of charts c bytes) bytes (answer_of a) after s'

module _ {K : Type 0} (kind : Kind K) (charts : List Chart) (slots : ℕ) (trees₀ : List ℕ) (answers₀ : List Answer) (calls : List Call) where
  -- so many calls were replayed, so many bytes handed out to them, and the book stands for the tally that they led to
  pub record Replaying (call byte : ℕ) (answers : List Answer) (trees : List ℕ) (s : State K) : Type 0 where
    pub events : List Event
    pub tally : Tally
    pub replayed : Replayed kind charts slots trees₀ (take call calls) (take call answers) (take byte trees) events tally
    pub holds : Represents kind slots tally s
    pub answers_left : drop call answers ≡ drop call answers₀
    pub trees_left : drop byte trees ≡ drop byte trees₀
    pub as_long : length trees ≡ length trees₀
    pub as_many : length answers ≡ length answers₀

-- the call by which a state turns into the other
abbrev pub turning : {K : Type 0} → State K → Call
turning (Open d) = Seal
turning (Shut s) = Reopen

-- a state carries out a call; where that is the one by which it turns, nothing has changed
abbrev pub Carries : {K : Type 0} → Kind K → List Chart → Call → List ℕ → State K → Maybe Answer → List ℕ → State K → Type 0
Carries kind charts c bytes s (Some a) bytes' s' = CarriesOut kind charts c bytes s a bytes' s'
Carries kind charts c bytes s None bytes' s' = (c ≡ turning s) × (s' ≡ s) × (bytes' ≡ bytes)

-- a draft is sealed, and a sealed book is reopened
abbrev pub Turns : {K : Type 0} → Kind K → State K → State K → Type 0
Turns kind (Open d) s' = Does kind law.seal (Open d) law.done [] s'
Turns kind (Shut s) s' = Does kind law.reopen (Shut s) law.done [] s'

-- a sealed book is looked at in a chart, or the call is none
abbrev pub Looks : {K : Type 0} → Kind K → List ℕ → ℕ → Option Chart → Sealed K → Answer → Sealed K → Type 0
Looks kind goal release chart s a s' =
    (slots : ℕ) (t : Tally) → SealedHolds kind slots t s → Came kind slots t (look_at goal release chart) [] (answer_of a) [] (Shut s')
