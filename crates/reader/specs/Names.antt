-- Names: when two are the same, and which one stands at a place of a text.
use Rattle.std.specs.Prelude.{◌≡◌, ℕ, ◌-◌, min, Bool, List, ◌++◌, length, take, drop}
use Rattle.std.proofs.Common.{arith, length-append, length-take, replicate}
use Rattle.std.proofs.lemmas.List.{length-replicate}
use Rattle.std.specs.List.{All, take_while}
use Rattle.std.specs.Str.{bytes_eq}
use Rattle.reader.specs.declared.lexer.Token.TheVariants.{Name as Naming}
use Rattle.reader.specs.declared.name.Name.{Name}
use Rattle.reader.specs.Lexemes.{wordly, Is}
use Rattle.reader.specs.Limits.{name_bytes}
use Rattle.reader.specs.Text.{Reads}
use Rattle.reader.specs.Tree.{Rule, places}

-- the bytes of a name
abbrev pub text : Name → List ℕ
text n = take n.len n.bytes

-- two names are the same if they have the same bytes
abbrev pub same_name : Name → Name → Bool
same_name m n = bytes_eq (text m) (text n)

-- n bytes: the first of these, and zeros behind them
abbrev pub padded : ℕ → List ℕ → List ℕ
padded n xs = take n xs ++ replicate (n - length xs) 0

pub padded_length : (n : ℕ) (xs : List ℕ) → length (padded n xs) ≡ n
padded_length n xs = omega (arith, length-append (take n xs) (replicate (n - length xs) 0), length-take n xs, length-replicate {A = ℕ} (n - length xs) 0)

-- the name of a word, of which the first 16 bytes count
abbrev pub named : List ℕ → Name
named xs = record { len = min (length xs) name_bytes; bytes = padded name_bytes xs; short = omega arith; whole = padded_length name_bytes xs }

-- the word that bytes begin with: as long as can be, and empty where they begin with none
abbrev pub word : List ℕ → List ℕ
word = take_while wordly

-- the name that stands at p
abbrev pub name_at : List ℕ → ℕ → Name
name_at bs p = named (word (drop p bs))

-- a name stands at p
abbrev pub Named : List ℕ → ℕ → Type 0
Named bs p = (e : ℕ) × Is bs Naming p e

-- each head of a text is a name
abbrev pub HeadsNamed : Type 0
HeadsNamed = (bs : List ℕ) (t : Rule) → Reads bs t → All (Named bs) (places t)

-- the bytes of the name at p are those of the word that stands there
abbrev pub NamesSpelt : Type 0
NamesSpelt = (bs : List ℕ) (p e : ℕ) → Is bs Naming p e → text (name_at bs p) ≡ take (e - p) (drop p bs)
