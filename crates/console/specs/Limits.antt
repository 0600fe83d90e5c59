-- The limits of the console.
use Rattle.std.specs.Prelude.{ℕ}

-- the longest line that is printed, in bytes
abbrev pub printed_bytes : ℕ
printed_bytes = 8218

-- so many bytes of a line decide its answer: a mark, a blank and one byte more than a rule may have
abbrev pub line_bytes : ℕ
line_bytes = 1027

-- the budget of a question
abbrev pub budget : ℕ
budget = 100000

-- the bytes of the tree buffer
abbrev pub room : ℕ
room = 4096

-- how many names the console's register has room for
abbrev pub slots : ℕ
slots = 64
