-- Rules, and the book of records that stores them.
use Rattle.std.specs.Prelude.{ℕ, zero, suc, ◌<◌, List, [], ◌∷◌, length, bit_or, slice_index_or}
use Rattle.logic.specs.Sets.{mask, AllBelow}

-- a rule has a head and bodies, which are rules again: the head holds if each body does
mutual
  pub data Rule : Type 0 where
    rule : ℕ → Rules → Rule

  pub data Rules : Type 0 where
    none : Rules
    more : Rule → Rules → Rules

-- a rule as it is stored: its head, and the numbers of the records of its bodies
pub record Record : Type 0 where
  pub head : ℕ
  pub bodies : List ℕ

abbrev pub Book : Type 0
Book = List Record

-- what stands past the end of a book
abbrev pub blank : Record
blank = record { head = zero; bodies = [] }

unfoldable pub head_of : Book → ℕ → ℕ
head_of book r = (slice_index_or book r blank).head

unfoldable pub bodies_of : Book → ℕ → List ℕ
bodies_of book r = (slice_index_or book r blank).bodies

-- the bodies of a record come before it
abbrev pub WellFormed : Book → Type 0
WellFormed book = (r : ℕ) → r < length book → AllBelow r (bodies_of book r)

-- the set S with the bodies of record b put in force
unfoldable pub supposing : Book → ℕ → ℕ → ℕ
supposing book S b = bit_or S (mask (bodies_of book b))

-- the rules that a list of records stands for, each given by f
abbrev pub each : (ℕ → Rule) → List ℕ → Rules
each f [] = none
each f (b ∷ bs) = more (f b) (each f bs)

-- the rule that record r stands for, its bodies read at most n deep
unfoldable pub rule_at : Book → ℕ → ℕ → Rule
rule_at book zero r = rule (head_of book r) none
rule_at book (suc n) r = rule (head_of book r) (each (rule_at book n) (bodies_of book r))

-- the rule that record r stands for: its bodies come before it, so they are at most r deep
unfoldable pub rule_of : Book → ℕ → Rule
rule_of book r = rule_at book r r
