-- Members of sets of records.
use Rattle.std.specs.Prelude.{◌≡◌, ℕ, ◌/◌, ◌%◌, ◌^◌, ◌<◌, ◌≤◌, ◌↔◌, Some, None, Option}
use Rattle.logic.specs.Sets.{Has}
use Rattle.book.specs.declared.number.RecordNumber.{RecordNumber}

-- bit r of S: 1 where record r is in the set S
abbrev pub bit : ℕ → ℕ → ℕ
bit S r = S / 2 ^ r % 2

-- m is the least member of the set S
pub record Least (S m : ℕ) : Type 0 where
  pub member : Has S m
  pub lowest : (k : ℕ) → Has S k → m ≤ k

-- the least member is found, or the set is empty
abbrev pub LeastFound : ℕ → Option RecordNumber → Type 0
LeastFound S (Some r) = Least S r.index
LeastFound S None = S ≡ 0

-- the least member is taken out of S, which leaves T; or there is none
abbrev pub LeastTaken : ℕ → Option RecordNumber → ℕ → Type 0
LeastTaken S (Some r) T = Least S r.index × ((k : ℕ) → Has T k ↔ (Has S k × (r.index < k)))
LeastTaken S None T = (S ≡ 0) × (T ≡ 0)
