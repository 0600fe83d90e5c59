-- The calls, what they may answer, and the tally of the rules in force.
use Rattle.std.specs.Prelude.{◌≡◌, ℕ, ◌-◌, Bool, true, false, List, [], ◌∷◌, ◌++◌, length, take}
use Rattle.std.proofs.Math.Option.{Option, none, some}
use Rattle.logic.specs.Charts.{Chart}
use Rattle.reader.specs.Written.{Refusal}

-- Rules, goals and trees are bytes. A question may allow restart.
pub data Call : Type 0 where
  add : (rule : List ℕ) → Call
  seal : Call
  reopen : Call
  suppose : (rule : List ℕ) → Call
  withdraw : Call
  ask : (goal : List ℕ) (budget : ℕ) (buffer : List ℕ) (restart : Bool) → Call
  check : (goal tree : List ℕ) (restart : Bool) → Call
  look : (goal : List ℕ) (chart : Chart) (release : ℕ) → Call

-- Counts are of queries, lengths of the bytes of a tree.
pub data Answer : Type 0 where
  done : Answer
  refused : Refusal → Answer
  yes : (count length : ℕ) → Answer
  no : (count : ℕ) → Answer
  spent : (count : ℕ) → Answer
  long : (count length : ℕ) → Answer
  accepted : Answer
  rejected : (place : ℕ) → Answer
  told : (rules_hold goal_holds : Bool) → Answer

-- the buffer that a call is handed; only ask is handed one
abbrev pub handed : Call → List ℕ
handed (add rule) = []
handed seal = []
handed reopen = []
handed (suppose rule) = []
handed withdraw = []
handed (ask goal budget buffer restart) = buffer
handed (check goal tree restart) = []
handed (look goal chart release) = []

-- the rules added and the rules supposed, as written and in order, and whether the book is sealed
pub record Tally : Type 0 where
  pub added : List (List ℕ)
  pub supposed : List (List ℕ)
  pub sealed : Bool

abbrev pub at_start : Tally
at_start = record { added = []; supposed = []; sealed = false }

-- the rules in force: those added, then the suppositions
abbrev pub in_force : Tally → List (List ℕ)
in_force t = t.added ++ t.supposed

-- a draft takes add and seal, a sealed book takes the others
abbrev pub of_sealed : Call → Bool
of_sealed (add rule) = false
of_sealed seal = false
of_sealed reopen = true
of_sealed (suppose rule) = true
of_sealed withdraw = true
of_sealed (ask goal budget buffer restart) = true
of_sealed (check goal tree restart) = true
of_sealed (look goal chart release) = true

abbrev pub Takes : Tally → Call → Type 0
Takes t c = t.sealed ≡ of_sealed c

-- the tally after a call that is not refused
abbrev pub taken : Tally → Call → Tally
taken t (add rule) = record { added = t.added ++ rule ∷ []; supposed = t.supposed; sealed = t.sealed }
taken t seal = record { added = t.added; supposed = t.supposed; sealed = true }
taken t reopen = record { added = t.added; supposed = []; sealed = false }
taken t (suppose rule) = record { added = t.added; supposed = t.supposed ++ rule ∷ []; sealed = t.sealed }
taken t withdraw = record { added = t.added; supposed = take (length t.supposed - 1) t.supposed; sealed = t.sealed }
taken t (ask goal budget buffer restart) = t
taken t (check goal tree restart) = t
taken t (look goal chart release) = t

-- a refused call leaves the tally
abbrev pub unless_refused : Tally → Call → Option Refusal → Tally
unless_refused t c (some f) = t
unless_refused t c none = taken t c
