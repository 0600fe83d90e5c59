-- Sets of records as numbers: record r is in the set S if bit r of S is set.
use Rattle.std.specs.Prelude.{◌≡◌, ℕ, zero, ◌/◌, ◌%◌, ◌^◌, ◌<◌, List, [], ◌∷◌, bit_or}

-- record r is in the set S
unfoldable pub Has : ℕ → ℕ → Type 0
Has S r = S / 2 ^ r % 2 ≡ 1

-- each record of S is in V: joined to V, S adds nothing
abbrev pub Within : ℕ → ℕ → Type 0
Within S V = bit_or S V ≡ V

-- the set of the records in a list
abbrev pub mask : List ℕ → ℕ
mask [] = zero
mask (b ∷ bs) = bit_or (2 ^ b) (mask bs)

-- each number of the list is below n
abbrev pub AllBelow : ℕ → List ℕ → Type 0
AllBelow n [] = Unit {0}
AllBelow n (b ∷ bs) = (b < n) × AllBelow n bs
