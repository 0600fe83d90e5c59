-- A goal whose record stands in a book, as it is searched for and checked.
use Rattle.std.specs.Prelude.{◌≡◌, ℕ, ◌<◌, ◌≤◌, List, [], ◌∷◌, length}
use Rattle.logic.specs.Rules.{head_of, supposing, Book as Records}
use Rattle.keys.specs.declared.numbers.KeyNumber.{KeyNumber}
use Rattle.book.specs.Books.{records_of, in_force_of}
use Rattle.book.specs.declared.book.Book.{Book}
use Rattle.book.specs.declared.number.RecordNumber.{RecordNumber}
use Rattle.prover.specs.Limits.{most_queries}
use Rattle.prover.specs.Read.{Judged}
use Rattle.prover.specs.Settings.{allowed, query_of}
use Rattle.prover.specs.Settled.{Settled}
use Rattle.prover.specs.declared.outcome.Outcome.{Outcome}
use Rattle.prover.specs.declared.task.Restart.{Restart}
use Rattle.prover.specs.declared.verdict.Verdict.{Verdict}

-- a set and a name are those of the query of a goal's record
pub record OfGoal (records : Records) (force q S x : ℕ) : Type 0 where
  pub set : S ≡ supposing records force q
  pub name : x ≡ head_of records q

-- the set and the name are those of the goal with this number
abbrev pub OfRecord : Book → RecordNumber → ℕ → ℕ → Type 0
OfRecord b n S x = n.index < length (records_of b) → OfGoal (records_of b) (in_force_of b) n.index S x

-- the search for the goal came to this, and leaves the buffer so
pub record GoalSearched (b : Book) (n : RecordNumber) (restart : Restart) (budget : ℕ) (before : List ℕ) (o : Outcome) (after : List ℕ) : Type 0 where
  pub name : KeyNumber
  pub set : ℕ
  pub bounded : budget ≤ most_queries
  pub of : OfRecord b n set name.index
  pub settled : Settled b (record { goal = name; restart = restart; budget = budget; bounded = bounded }) set after o
  pub as_long : length after ≡ length before

-- the bytes are judged so as a tree of the goal
pub record GoalChecked (b : Book) (n : RecordNumber) (restart : Restart) (bytes : List ℕ) (v : Verdict) : Type 0 where
  pub name : ℕ
  pub set : ℕ
  pub of : OfRecord b n set name
  pub judged : Judged (records_of b) (allowed restart) name (query_of set name ∷ []) 0 bytes v
