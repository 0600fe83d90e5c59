-- What records and their parts stand for.
use Rattle.std.specs.Prelude.{◌≡◌, ℕ, ◌<◌, List, [], ◌∷◌, ◌++◌, map, length, take, Some, None, Option, slice_index_or}
use Rattle.logic.specs.Rules as rules
use Rattle.book.specs.Limits.{most_bodies}
use Rattle.book.specs.Numbers.{listed}
use Rattle.book.specs.declared.bodies.Bodies.{Bodies}
use Rattle.book.specs.declared.record.Record.{Record}
use Rattle.book.specs.declared.record_set.RecordSet.{RecordSet}

-- the records of a rule's bodies, in order
abbrev pub numbers : Bodies → List ℕ
numbers b = listed b.len b.at

-- one more body, where there is room for it
abbrev pub OneMore : Bodies → ℕ → Option Bodies → Type 0
OneMore b n (Some b') = (length (numbers b) < most_bodies) × (numbers b' ≡ numbers b ++ n ∷ [])
OneMore b n None = length (numbers b) ≡ most_bodies

abbrev pub record_of : Record → rules.Record
record_of r = record { head = r.head.index; bodies = numbers r.bodies }

-- the book of the first n records
abbrev pub stored : ℕ → List Record → rules.Book
stored n records = map record_of (take n records)

-- the set at place x; none past the end
abbrev pub set_at : List RecordSet → ℕ → ℕ
set_at sets x = (slice_index_or sets x (record { bits = 0 })).bits
