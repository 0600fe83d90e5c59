-- Record numbers as natural numbers.
use Rattle.std.specs.Prelude.{ℕ, List, map, take}
use Rattle.book.specs.declared.number.RecordNumber.{RecordNumber}

-- the numbers of these records
abbrev pub record_indices : List RecordNumber → List ℕ
record_indices rs = map (λ (r : RecordNumber). r.index) rs

-- the first n of the places `at`
abbrev pub listed : ℕ → List RecordNumber → List ℕ
listed n at = take n (record_indices at)
