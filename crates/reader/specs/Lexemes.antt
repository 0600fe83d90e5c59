-- The words and marks of the text form. A place counts bytes from 0.
use Rattle.std.specs.Prelude.{◌≡◌, ℕ, ◌+◌, ◌<◌, ◌≤◌, Bool, true, false, cond, List, length, ◌==◌, nat_le, slice_index, ◌≢◌}
use Rattle.reader.specs.declared.lexer.Token.{Token}
use Rattle.reader.specs.declared.lexer.Token.TheVariants.{Open, Close, Comma, If, Name, Long, Stray, Finish}
use Rattle.reader.specs.declared.lexer.Lexeme.{Lexeme}
use Rattle.reader.specs.Limits.{name_bytes}

-- a lower-case letter
abbrev pub letter : ℕ → Bool
letter b = cond (nat_le 97 b) (nat_le b 122) false

-- a digit
abbrev pub digit : ℕ → Bool
digit b = cond (nat_le 48 b) (nat_le b 57) false

-- a byte of a word: a letter, a digit or an underscore
abbrev pub wordly : ℕ → Bool
wordly b = cond (letter b) true (cond (digit b) true (b == 95))

-- the byte b stands at the place i
abbrev pub At : List ℕ → ℕ → ℕ → Type 0
At bs i b = (i < length bs) × (slice_index bs i ≡ b)

-- each byte from i up to j passes the test
abbrev pub All : (ℕ → Bool) → List ℕ → ℕ → ℕ → Type 0
All test bs i j = (k : ℕ) → i ≤ k → k < j → test (slice_index bs k) ≡ true

-- the bytes from s up to e are a whole word, as long as can be, and it begins with a letter
pub record Word (bs : List ℕ) (s e : ℕ) : Type 0 where
  pub some : s < e
  pub within : e ≤ length bs
  pub first : letter (slice_index bs s) ≡ true
  pub all : All wordly bs s e
  pub stops : e < length bs → wordly (slice_index bs e) ≡ false

-- the word from s up to e is "if"
abbrev pub SpellsIf : List ℕ → ℕ → ℕ → Type 0
SpellsIf bs s e = (e ≡ s + 2) × (slice_index bs s ≡ 105) × (slice_index bs (s + 1) ≡ 102)

-- a byte that begins no name, no mark and no space: an unknown byte, or a word that begins with no letter
pub record Unknown (bs : List ℕ) (s : ℕ) : Type 0 where
  pub within : s < length bs
  pub no_letter : letter (slice_index bs s) ≡ false
  pub no_space : slice_index bs s ≢ 32
  pub no_open : slice_index bs s ≢ 40
  pub no_close : slice_index bs s ≢ 41
  pub no_comma : slice_index bs s ≢ 44

-- what stands from s up to e
abbrev pub Is : List ℕ → Token → ℕ → ℕ → Type 0
Is bs Open s e = At bs s 40 × (e ≡ s + 1)
Is bs Close s e = At bs s 41 × (e ≡ s + 1)
Is bs Comma s e = At bs s 44 × (e ≡ s + 1)
Is bs If s e = Word bs s e × SpellsIf bs s e
Is bs Name s e = Word bs s e × (e ≤ s + name_bytes) × (SpellsIf bs s e → ⊥)
Is bs Long s e = Word bs s e × (s + name_bytes < e)
Is bs Stray s e = Unknown bs s × (e ≡ s)
Is bs Finish s e = (s ≡ length bs) × (e ≡ s)

-- l is a word or mark of the text
abbrev pub Lexed : List ℕ → Lexeme → Type 0
Lexed bs l = Is bs l.token l.start l.end

-- the bytes from i up to j are spaces
abbrev pub Spaces : List ℕ → ℕ → ℕ → Type 0
Spaces bs i j = (k : ℕ) → i ≤ k → k < j → slice_index bs k ≡ 32

-- the next word or mark from the place i on is l, after spaces
pub record Lexes (bs : List ℕ) (i : ℕ) (l : Lexeme) : Type 0 where
  pub from : i ≤ l.start
  pub spaces : Spaces bs i l.start
  pub what : Is bs l.token l.start l.end

-- a byte that is no mark and no space stands at s
pub record Plain (bs : List ℕ) (s : ℕ) : Type 0 where
  pub within : s < length bs
  pub no_space : slice_index bs s ≢ 32
  pub no_open : slice_index bs s ≢ 40
  pub no_close : slice_index bs s ≢ 41
  pub no_comma : slice_index bs s ≢ 44
