-- What replaying a list of calls notes, and which run that is.
use Rattle.std.specs.Prelude.{◌≡◌, ℕ, min, List, [], ◌∷◌, ◌++◌, length, take, drop}
use Rattle.std.proofs.Math.Option.{none, some}
use Rattle.logic.specs.Charts.{Chart}
use Rattle.reader.specs.Written.{Kind}
use Rattle.law.specs.Calls as law
use Rattle.law.specs.Calls.{Tally, Takes, at_start}
use Rattle.law.specs.Defined.{Defined, next}
use Rattle.law.specs.Runs.{Event, Run}
use Rattle.service.specs.Calls.{room_of, call_of, answer_of}
use Rattle.service.specs.declared.calls.Answer.{Answer}
use Rattle.service.specs.declared.calls.Call.{Call}

-- the bytes for a call, where so many bytes of the trees are handed out already
abbrev pub part : List ℕ → Call → ℕ → List ℕ
part trees c n = take (room_of c) (drop n trees)

module _ {K : Type 0} (kind : Kind K) (charts : List Chart) (slots : ℕ) (trees : List ℕ) where
  -- Replayed cs ans bs es t: the calls got these answers, and the bytes handed out to them hold bs now;
  -- the calls that were taken are the events es, which lead to the tally t
  pub data Replayed : List Call → List Answer → List ℕ → List Event → Tally → Type 0 where
    none_yet : Replayed [] [] [] [] at_start
    -- the state takes the call k, and it is answered as defined
    taken : {cs : List Call} {ans : List Answer} {bs : List ℕ} {es : List Event} {t : Tally} {k : law.Call} {x : law.Answer} {after : List ℕ}
        (c : Call) (a : Answer) → Replayed cs ans bs es t → call_of charts c (part trees c (length bs)) ≡ some k → answer_of a ≡ some x
        → Takes t k → Defined kind slots t k x after
        → Replayed (cs ++ c ∷ []) (ans ++ a ∷ []) (bs ++ after) (es ++ record { call = k; answer = x; buffer = after } ∷ []) (next kind slots t k)
    -- the state does not take it, or it is none
    passed_over : {cs : List Call} {ans : List Answer} {bs : List ℕ} {es : List Event} {t : Tally}
        (c : Call) (a : Answer) → Replayed cs ans bs es t → answer_of a ≡ none
        → ((k : law.Call) → call_of charts c (part trees c (length bs)) ≡ some k → Takes t k → ⊥)
        → Replayed (cs ++ c ∷ []) (ans ++ a ∷ []) (bs ++ part trees c (length bs)) es t

  -- The calls are carried out in order, as many as there are answers to note, and what is noted of those that were taken is a run
  -- from the start; the other answers and the bytes that were not handed out stay.
  pub record Replays (calls : List Call) (answers answers' : List Answer) (trees' : List ℕ) : Type 0 where
    pub handed_out : List ℕ
    pub events : List Event
    pub tally : Tally
    pub replayed : Replayed (take (min (length calls) (length answers)) calls) (take (min (length calls) (length answers)) answers') handed_out events tally
    pub is_run : Run kind slots at_start events
    pub others : drop (min (length calls) (length answers)) answers' ≡ drop (min (length calls) (length answers)) answers
    pub trees_are : trees' ≡ handed_out ++ drop (length handed_out) trees
