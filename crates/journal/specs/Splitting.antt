-- What stands before and behind the first mark of a list of bytes.
use Rattle.std.specs.Prelude.{◌≡◌, ℕ, ◌+◌, ◌<◌, List, length, take, drop, ◌≢◌, slice_index}

-- no byte below the place n is the mark
abbrev pub LacksBefore : List ℕ → ℕ → ℕ → Type 0
LacksBefore line mark n = (k : ℕ) → k < n → slice_index line k ≢ mark

-- no byte is the mark
abbrev pub Lacks : List ℕ → ℕ → Type 0
Lacks line mark = LacksBefore line mark (length line)

-- the first mark stands at the place i
abbrev pub FirstAt : List ℕ → ℕ → ℕ → Type 0
FirstAt line mark i = (i < length line) × (slice_index line i ≡ mark) × LacksBefore line mark i

-- `word` is what stands before the first mark, and `rest` what stands behind it
abbrev pub Splits : List ℕ → ℕ → List ℕ → List ℕ → Type 0
Splits line mark word rest = (i : ℕ) × FirstAt line mark i × (word ≡ take i line) × (rest ≡ drop (i + 1) line)
