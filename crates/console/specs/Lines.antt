-- The lines that are printed, as bytes.
use Rattle.std.specs.Prelude.{ℕ, List, [], ◌∷◌, ◌++◌, codes, decimal}
use Rattle.console.specs.Texts.{hex_all}

-- a line ends with a line feed
abbrev pub feed : List ℕ
feed = 10 ∷ []

abbrev pub blank : List ℕ
blank = 32 ∷ []

abbrev pub ok_line : List ℕ
ok_line = codes "ok" ++ feed

-- a refusal: its number and its place
abbrev pub bad_line : ℕ → ℕ → List ℕ
bad_line number place = codes "bad" ++ blank ++ decimal number ++ blank ++ decimal place ++ feed

-- a word and a count
abbrev pub count_line : List ℕ → ℕ → List ℕ
count_line word count = word ++ blank ++ decimal count ++ feed

-- a count and the bytes of a tree
abbrev pub yes_line : ℕ → List ℕ → List ℕ
yes_line count tree = codes "yes" ++ blank ++ decimal count ++ blank ++ hex_all tree ++ feed
