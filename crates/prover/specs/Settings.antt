-- What a task and a book say of a search.
use Rattle.std.specs.Prelude.{ℕ, Bool, true, false}
use Rattle.logic.specs.Search.{Query, Setting}
use Rattle.book.specs.Books.{records_of}
use Rattle.book.specs.declared.book.Book.{Book}
use Rattle.prover.specs.declared.task.Restart.{Restart}
use Rattle.prover.specs.declared.task.Restart.TheVariants.{Allowed, Forbidden}
use Rattle.prover.specs.declared.task.Task.{Task}

abbrev pub allowed : Restart → Bool
allowed Allowed = true
allowed Forbidden = false

abbrev pub setting : Book → Task → Setting
setting b k = record { book = records_of b; restart = allowed k.restart; goal = k.goal.index; budget = k.budget }

-- the name x asked from the set S
abbrev pub query_of : ℕ → ℕ → Query
query_of S x = record { in_force = S; name = x }
