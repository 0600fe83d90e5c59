-- What a printed line and a line that is taken in hold.
use Rattle.std.specs.Prelude.{◌≡◌, ℕ, ◌/◌, ◌%◌, Bool, true, false, List, [], ◌∷◌, ◌++◌, take}
use Rattle.std.specs.Fmt.{digit_glyph}
use Rattle.console.specs.declared.buffer.Buffer.{Buffer}
use Rattle.console.specs.Limits.{printed_bytes}

module _ {n : ℕ} where
  -- the bytes that were kept
  abbrev pub text : Buffer n → List ℕ
  text b = take b.len b.bytes

  -- of the whole the first bytes are kept
  abbrev pub Keeps : Buffer n → List ℕ → Type 0
  Keeps b whole = text b ≡ take n whole

  -- more was put in behind what was there
  pub record Gains (b : Buffer n) (more : List ℕ) (b' : Buffer n) : Type 0 where
    pub keeps : (whole : List ℕ) → Keeps b whole → Keeps b' (whole ++ more)

-- a printed line
abbrev pub Printed : Type 0
Printed = Buffer printed_bytes

-- a byte in lower-case hexadecimal
abbrev pub hex : ℕ → List ℕ
hex b = digit_glyph false (b / 16) ∷ digit_glyph false (b % 16) ∷ []

-- bytes in lower-case hexadecimal, one behind the other
abbrev pub hex_all : List ℕ → List ℕ
hex_all [] = []
hex_all (b ∷ bs) = hex b ++ hex_all bs

abbrev pub no_bytes : List ℕ → Bool
no_bytes [] = true
no_bytes (b ∷ bs) = false
