-- Bits of a number, lowest first.
use Rattle.std.specs.Prelude.{ℕ, ◌/◌, ◌%◌, ◌^◌, Bool, ◌&&◌, ◌==◌, nat_lt}

-- whether the binary digit k of m is 1
unfoldable pub digit : ℕ → ℕ → Bool
digit m k = m / 2 ^ k % 2 == 1

-- whether bit k of the 64-bit word m is set
abbrev pub bit : ℕ → ℕ → Bool
bit m k = nat_lt k 64 && digit m k
