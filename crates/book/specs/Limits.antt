-- The limits of a book.
use Rattle.std.specs.Prelude.{ℕ}
use Rattle.reader.specs.Limits as reader

-- at most so many records
abbrev pub most_records : ℕ
most_records = 128

-- at most so many bodies of a rule: as many as are read
abbrev pub most_bodies : ℕ
most_bodies = reader.most_bodies
