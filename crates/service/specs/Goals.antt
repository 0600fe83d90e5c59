-- A question about a goal, which is taken in for it and given back.
use Rattle.std.specs.Prelude.{◌≡◌, ℕ, List, [], length, Ok, Err, Result}
use Rattle.std.specs.Borrow.{Bor}
use Rattle.logic.specs.Rules.{Rule}
use Rattle.logic.specs.Sets.{mask}
use Rattle.logic.specs.Store.{stores, numbers, number_of, book_of}
use Rattle.reader.specs.Written.{Kind}
use Rattle.book.specs.Books.{Shows}
use Rattle.book.specs.declared.book.Book.{Book}
use Rattle.book.specs.declared.number.RecordNumber.{RecordNumber}
use Rattle.law.specs.Calls.{Tally}
use Rattle.law.specs.Defined.{standing}
use Rattle.law.specs.Standing.{Standing, Entry, entered, enter}
use Rattle.service.specs.Faults.{refusal}
use Rattle.service.specs.Represents.{SealedHolds}
use Rattle.service.specs.declared.fault.Fault.{Fault}
use Rattle.service.specs.declared.state.Sealed.{Sealed}

module _ {K : Type 0} (kind : Kind K) (w : List ℕ) where
  -- the book holds the goal behind what stands, under this number
  pub record GoalIn (slots : ℕ) (s : Standing K) (b : Book) (n : RecordNumber) : Type 0 where
    pub keys : List K
    pub goal : Rule
    pub is : enter kind slots s w ≡ entered keys goal
    pub number_is : n.index ≡ number_of (stores [] s.rules) goal
    pub book_is : Shows b (book_of s.rules goal) (length keys) (mask (numbers [] s.rules))

  -- whatever stands, the goal is refused, and nothing has changed
  abbrev pub GoalRefused : Sealed K → Fault → Sealed K → Type 0
  GoalRefused s e s' =
      (slots : ℕ) (t : Tally) → SealedHolds kind slots t s
      → (enter kind slots (standing kind slots t) w ≡ Entry.refused (refusal e)) × SealedHolds kind slots t s'

  -- whatever stands, the book held the goal behind it, and afterwards all is as before
  abbrev pub GoalHeld : Sealed K → Book → RecordNumber → Sealed K → Type 0
  GoalHeld s b n s' =
      (slots : ℕ) (t : Tally) → SealedHolds kind slots t s
      → GoalIn slots (standing kind slots t) b n × SealedHolds kind slots t s'

  -- the goal is refused; or the question got this answer from a book that held the goal
  abbrev pub Questioned : {R : Type 0} → (Bor Book → RecordNumber → R → Type 0) → Sealed K → Result R Fault → Sealed K → Type 0
  Questioned Answers s (Ok r) s' = (b : Bor Book) × (n : RecordNumber) × Answers b n r × GoalHeld s b.now n s'
  Questioned Answers s (Err e) s' = GoalRefused s e s'
