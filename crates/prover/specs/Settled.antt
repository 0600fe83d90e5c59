-- What a whole search comes to, and what it leaves in the buffer.
use Rattle.std.specs.Prelude.{◌≡◌, ℕ, ◌-◌, ◌<◌, List, [], ◌++◌, length, take, replicate}
use Rattle.logic.specs.Search as search
use Rattle.logic.specs.Search.{succeeded, failed, spent, Asked}
use Rattle.logic.specs.Trees.{Tree, bytes}
use Rattle.book.specs.Books.{records_of}
use Rattle.book.specs.declared.book.Book.{Book}
use Rattle.prover.specs.Settings.{allowed, setting, query_of}
use Rattle.prover.specs.declared.outcome.Outcome.{Outcome}
use Rattle.prover.specs.declared.outcome.Outcome.TheVariants.{Yes, No, Spent, Long}
use Rattle.prover.specs.declared.task.Task.{Task}

abbrev pub zeros : ℕ → List ℕ
zeros n = replicate n 0

-- the goal's head is asked from the set S, with nothing begun and nothing counted; n queries are counted in the end
abbrev pub GoalAsked : Book → Task → ℕ → search.Outcome → ℕ → Type 0
GoalAsked b k S o n = Asked (setting b k) [] (query_of S k.goal.index) 0 o n

-- the outcome and the count of the search, the length of the tree, and the buffer afterwards
abbrev pub Settled : Book → Task → (S : ℕ) (out : List ℕ) → Outcome → Type 0
Settled b k S out (Yes n len) = (t : List ℕ) × GoalAsked b k S (succeeded t) n × (len ≡ length t) × (out ≡ t ++ zeros (length out - len))
Settled b k S out (No n) = GoalAsked b k S failed n × (out ≡ zeros (length out))
Settled b k S out (Spent n) = GoalAsked b k S spent n × (out ≡ zeros (length out))
Settled b k S out (Long n len) = (t : List ℕ) × GoalAsked b k S (succeeded t) n × (len ≡ length t) × (length out < len) × (out ≡ zeros (length out))

-- a success tree of the goal's head from the set S
abbrev pub GoalTree : Book → Task → ℕ → Type 0
GoalTree b k S = Tree (records_of b) (allowed k.restart) k.goal.index S k.goal.index

-- yes: the bytes of a tree stand first in the buffer; no: there is no tree; spent: the count is the budget; long: a tree
-- has this length
abbrev pub Shown : Book → Task → (S : ℕ) (out : List ℕ) → Outcome → Type 0
Shown b k S out (Yes n len) = (tree : GoalTree b k S) × (take len out ≡ bytes tree)
Shown b k S out (No n) = GoalTree b k S → ⊥
Shown b k S out (Spent n) = n ≡ k.budget
Shown b k S out (Long n len) = (tree : GoalTree b k S) × (len ≡ length (bytes tree))
