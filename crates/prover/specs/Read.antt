-- What the check of tree bytes tells.
use Rattle.std.specs.Prelude.{◌≡◌, ℕ, ◌≤◌, Bool, List, ◌∷◌, length, drop, Some, None, Ok, Err, Option, Result, ◌≢◌}
use Rattle.logic.specs.Check.{Answers, Rejects}
use Rattle.logic.specs.Rules as rules
use Rattle.logic.specs.Search.{Query}
use Rattle.logic.specs.Trees.{Applies, Tree, bytes}
use Rattle.book.specs.Books.{records_of}
use Rattle.book.specs.declared.number.RecordNumber.{RecordNumber}
use Rattle.prover.specs.Settings.{allowed, query_of}
use Rattle.prover.specs.declared.trees.Query as asked
use Rattle.prover.specs.declared.trees.Reading.{Reading}
use Rattle.prover.specs.declared.verdict.Misread.{Misread}
use Rattle.prover.specs.declared.verdict.Verdict.{Verdict}
use Rattle.prover.specs.declared.verdict.Verdict.TheVariants.{Accepted, Rejected}

-- the verdict on the bytes bs from place i on, where the queries qs wait
abbrev pub Judged : rules.Book → Bool → ℕ → List Query → ℕ → List ℕ → Verdict → Type 0
Judged book restart g qs i bs Accepted = Answers book restart g qs bs
Judged book restart g qs i bs (Rejected p) = Rejects book restart g qs i bs p

-- accepted are exactly the bytes of a tree of the goal g from the set S
abbrev pub OfTrees : rules.Book → Bool → ℕ → ℕ → List ℕ → Verdict → Type 0
OfTrees book restart g S bs Accepted = (tree : Tree book restart g S g) × (bytes tree ≡ bs)
OfTrees book restart g S bs (Rejected p) = (tree : Tree book restart g S g) → bytes tree ≢ bs

-- The bytes from place i on begin with what the query q waits for, up to the place e: what is said of the rest, of any other
-- queries, decides. Or they are rejected.
abbrev pub Took : rules.Book → Bool → ℕ → Query → List ℕ → ℕ → Result ℕ Misread → Type 0
Took book restart g q bs i (Ok e) =
    (i ≤ e) × (e ≤ length bs)
    × ((qs : List Query) (v : Verdict) → Judged book restart g qs e (drop e bs) v → Judged book restart g (q ∷ qs) i (drop i bs) v)
Took book restart g q bs i (Err m) = (qs : List Query) → Rejects book restart g (q ∷ qs) i (drop i bs) m.place

-- record r applies to the name x, or does not
abbrev pub Applying : rules.Book → ℕ → ℕ → ℕ → Option RecordNumber → Type 0
Applying book S x r (Some n) = (n.index ≡ r) × Applies book S x r
Applying book S x r None = Applies book S x r → ⊥

-- what a reading tells of a query from place i on
abbrev pub Reads : Reading → asked.Query → ℕ → Result ℕ Misread → Type 0
Reads r q = Took (records_of r.book.now) (allowed r.restart) r.goal.index (query_of q.set.bits q.name.index) r.bytes.now
