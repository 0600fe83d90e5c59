-- What entering a rule into a book gives.
use Rattle.std.specs.Prelude.{◌≡◌, ℕ, ◌-◌, ◌<◌, ◌≤◌, max, List, [], ◌∷◌, ◌++◌, length, take, drop, Some, None, Ok, Err, Option, Result, slice_index}
use Rattle.logic.specs.Rules.{Rule}
use Rattle.logic.specs.Store.{store, number_of}
use Rattle.reader.specs.declared.outline.End.{End}
use Rattle.keys.specs.Kept.{Front}
use Rattle.book.specs.Limits.{most_records, most_bodies}
use Rattle.book.specs.Records.{numbers}
use Rattle.book.specs.Books.{records_of, names_of, in_force_of, Shows}
use Rattle.book.specs.Entering.{LaidOut}
use Rattle.book.specs.declared.bodies.Bodies.{Bodies}
use Rattle.book.specs.declared.number.RecordNumber.{RecordNumber}
use Rattle.book.specs.declared.book.Book.{Book}
use Rattle.book.specs.declared.fault.BookFault.{BookFault}
use Rattle.book.specs.declared.fault.BookFault.TheVariants.{TooManyRecords}

-- so many of those that wait go on waiting when the last are taken as bodies
abbrev pub others : List ℕ → ℕ → ℕ
others ws count = length ws - count

-- the last of those that wait are taken as bodies, if there are so many, and not too many
abbrev pub Taken : List ℕ → ℕ → List ℕ → Option Bodies → Type 0
Taken ws count ws' (Some b) = (count ≤ length ws) × (numbers b ≡ drop (others ws count) ws) × (ws' ≡ take (others ws count) ws)
Taken ws count ws' None = count ≤ length ws → count ≤ most_bodies → ⊥

-- a rule has ended: its record stands behind the others, with the last of those that waited as bodies
pub record RuleEnds (ns ws : List ℕ) (e : End) (b : Book) (ws' : List ℕ) (b' : Book) (n : ℕ) : Type 0 where
  pub headed : e.mention < length ns
  pub bodied : e.bodies ≤ length ws
  pub number_is : n ≡ length (records_of b)
  pub waiting_are : ws' ≡ take (others ws e.bodies) ws
  pub book_is : Shows b' (records_of b ++ record { head = slice_index ns e.mention; bodies = drop (others ws e.bodies) ws } ∷ []) (names_of b) (in_force_of b)

-- or it has no head, or too few wait, and nothing has changed
abbrev pub EndsRule : (ns ws : List ℕ) (e : End) (b : Book) (ws' : List ℕ) (b' : Book) → Option RecordNumber → Type 0
EndsRule ns ws e b ws' b' (Some n) = RuleEnds ns ws e b ws' b' n.index
EndsRule ns ws e b ws' b' None = (e.mention < length ns → e.bodies ≤ length ws → ⊥) × (b' ≡ b)

-- a book with more records behind its own, and else the same
pub record Longer (b b' : Book) : Type 0 where
  pub records : Front (records_of b) (records_of b')
  pub names : names_of b' ≡ names_of b
  pub in_force : in_force_of b' ≡ in_force_of b

-- where the numbers and ends are those of a rule, its records stand in the book, and this is its number
abbrev pub Stored : (ns : List ℕ) (es : List End) (b b' : Book) → Option RecordNumber → Type 0
Stored ns es b b' (Some n) = (r : Rule) → LaidOut r ns es → (records_of b' ≡ store (records_of b) r) × (n.index ≡ number_of (records_of b) r)
Stored ns es b b' None = (r : Rule) → LaidOut r ns es → ⊥

-- the rule's records stand behind the others, and this is its own number
pub record RuleEntered (b : Book) (names : ℕ) (r : Rule) (b' : Book) (n : RecordNumber) : Type 0 where
  pub room : length (store (records_of b) r) ≤ most_records
  pub number_is : n.index ≡ number_of (records_of b) r
  pub book_is : Shows b' (store (records_of b) r) (max (names_of b) names) (in_force_of b)

-- what entering a rule gives, where so many names are then in use
abbrev pub EntersRule : (b : Book) (names : ℕ) (r : Rule) (b' : Book) → Result RecordNumber BookFault → Type 0
EntersRule b names r b' (Ok n) = RuleEntered b names r b' n
EntersRule b names r b' (Err f) = most_records < length (store (records_of b) r)

-- a refusal is of too many records, and the book stays as it is
abbrev pub Refuses : (b b' : Book) → Result RecordNumber BookFault → Type 0
Refuses b b' (Ok n) = Unit {0}
Refuses b b' (Err f) = (f ≡ TooManyRecords) × Shows b' (records_of b) (names_of b) (in_force_of b)
