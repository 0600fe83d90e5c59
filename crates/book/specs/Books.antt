-- What a book stands for, and what its changes make of it.
use Rattle.std.specs.Prelude.{◌≡◌, ℕ, suc, ◌%◌, ◌^◌, ◌<◌, ◌≤◌, min, max, List, [], ◌∷◌, ◌++◌, length, take, Some, None, Option, bit_or}
use Rattle.logic.specs.Sets.{AllBelow}
use Rattle.logic.specs.Rules as rules
use Rattle.book.specs.Limits.{most_records}
use Rattle.book.specs.Records.{stored}
use Rattle.book.specs.declared.number.RecordNumber.{RecordNumber}
use Rattle.book.specs.declared.book.Book.{Book}

-- the records in use
abbrev pub records_of : Book → rules.Book
records_of b = stored b.count b.records

-- how many names are in use
abbrev pub names_of : Book → ℕ
names_of b = b.names

-- the set of the records in force
abbrev pub in_force_of : Book → ℕ
in_force_of b = b.in_force.bits

-- the book has these records, so many names are in use, and this set is in force
pub record Shows (b : Book) (book : rules.Book) (n S : ℕ) : Type 0 where
  pub records : records_of b ≡ book
  pub names : names_of b ≡ n
  pub in_force : in_force_of b ≡ S

-- each head is a name in use
abbrev pub HeadsBelow : ℕ → rules.Book → Type 0
HeadsBelow n book = (r : ℕ) → r < length book → rules.head_of book r < n

-- the record is in use
abbrev pub InUse : Book → ℕ → Type 0
InUse b r = r < length (records_of b)

-- so many names the heads need
abbrev pub needed : rules.Book → ℕ
needed [] = 0
needed (r ∷ rs) = max (suc r.head) (needed rs)

-- a record with this head and these bodies may stand next
pub record MayStand (b : Book) (head : ℕ) (bodies : List ℕ) : Type 0 where
  pub room : length (records_of b) < most_records
  pub named : head < names_of b
  pub earlier : AllBelow (length (records_of b)) bodies

-- the record stands behind the others, with the next number; or it may not, and nothing has changed
abbrev pub Pushed : Book → ℕ → List ℕ → Book → Option RecordNumber → Type 0
Pushed b head bodies b' (Some r) =
    MayStand b head bodies × (r.index ≡ length (records_of b))
    × Shows b' (records_of b ++ record { head = head; bodies = bodies } ∷ []) (names_of b) (in_force_of b)
Pushed b head bodies b' None = (MayStand b head bodies → ⊥) × (b' ≡ b)

-- a record in use is put in force; another changes nothing
pub record PutInForce (b : Book) (r : ℕ) (b' : Book) : Type 0 where
  pub standing : InUse b r → Shows b' (records_of b) (names_of b) (bit_or (in_force_of b) (2 ^ r))
  pub absent : length (records_of b) ≤ r → b' ≡ b

-- cut back to the first so many records and names, but to no fewer names than the heads that are left need
abbrev pub CutBack : Book → ℕ → ℕ → Book → Type 0
CutBack b records names b' =
    Shows b' (take records (records_of b)) (max (needed (take records (records_of b))) (min names (names_of b))) (in_force_of b % 2 ^ records)
