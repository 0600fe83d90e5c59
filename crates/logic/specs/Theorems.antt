-- What is proved of rules, trees, charts and the search.
use Rattle.std.specs.Prelude.{◌≡◌, ℕ, ◌^◌, ◌<◌, ◌≤◌, Bool, true, false, ◌⊎◌, ◌↔◌, List, [], ◌∷◌, length}
use Rattle.logic.specs.Rules.{Book, WellFormed, head_of, supposing, rule_of}
use Rattle.logic.specs.Charts.{Chart, Lawful, Carries, Holds, SetHolds}
use Rattle.logic.specs.Trees.{Tree, bytes}
use Rattle.logic.specs.Check.{Answers}
use Rattle.logic.specs.Search.{Setting, Query, Outcome, succeeded, failed, spent, Asked}

-- To ask the goal rule q from the set S, its bodies are put in force and its head is asked.
abbrev pub GoalTree : Book → Bool → ℕ → ℕ → Type 0
GoalTree book restart S q = Tree book restart (head_of book q) (supposing book S q) (head_of book q)

-- A tree without restart: at each release of each lawful chart where all of S holds, the name is carried.
abbrev pub Sound : Type 0
Sound = (book : Book) → WellFormed book → (g S x : ℕ) → Tree book false g S x
    → (chart : Chart) → Lawful chart → (w : ℕ) → w < chart.size → SetHolds book chart w S → Carries chart w x

-- So a goal that succeeds from S without restart holds wherever all of S holds.
abbrev pub GoalSound : Type 0
GoalSound = (book : Book) → WellFormed book → (S q : ℕ) → GoalTree book false S q
    → (chart : Chart) → Lawful chart → (w : ℕ) → w < chart.size → SetHolds book chart w S → Holds chart w (rule_of book q)

-- With restart, the same at charts of a single release.
abbrev pub RestartSound : Type 0
RestartSound = (book : Book) → WellFormed book → (S q : ℕ) → GoalTree book true S q
    → (chart : Chart) → Lawful chart → chart.size ≡ 1 → SetHolds book chart 0 S → Holds chart 0 (rule_of book q)

-- A search that begins with nothing on its way and fails: the query has no tree.
abbrev pub FailureRight : Type 0
FailureRight = (s : Setting) (q : Query) (n k : ℕ) → Asked s [] q n failed k
    → Tree s.book s.restart s.goal q.in_force q.name → ⊥

-- A search that succeeds hands out the bytes of a tree of the query.
abbrev pub SuccessRight : Type 0
SuccessRight = (s : Setting) (way : List Query) (q : Query) (n k : ℕ) (t : List ℕ) → Asked s way q n (succeeded t) k
    → (tree : Tree s.book s.restart s.goal q.in_force q.name) × (bytes tree ≡ t)

-- A search has at most one outcome and count.
abbrev pub Deterministic : Type 0
Deterministic = (s : Setting) (way : List Query) (q : Query) (n : ℕ) (out out' : Outcome) (k k' : ℕ)
    → Asked s way q n out k → Asked s way q n out' k' → (out ≡ out') × (k ≡ k')

-- a chart and a release of it where all of S holds and record q does not
pub record Refuted (book : Book) (S q : ℕ) : Type 0 where
  pub chart : Chart
  pub lawful : Lawful chart
  pub release : ℕ
  pub released : release < chart.size
  pub in_force : SetHolds book chart release S
  pub fails : Holds chart release (rule_of book q) → ⊥

-- Each goal has a tree without restart, or a chart refutes it.
abbrev pub Decided : Type 0
Decided = (book : Book) → WellFormed book → (S q : ℕ) → S < 2 ^ length book → GoalTree book false S q ⊎ Refuted book S q

-- So where it has no tree, a chart refutes it.
abbrev pub Complete : Type 0
Complete = (book : Book) → WellFormed book → (S q : ℕ) → S < 2 ^ length book → (GoalTree book false S q → ⊥) → Refuted book S q

-- Each goal has a tree with restart, or a chart of a single release refutes it.
abbrev pub RestartDecided : Type 0
RestartDecided = (book : Book) → WellFormed book → (S q : ℕ) → S < 2 ^ length book
    → GoalTree book true S q ⊎ ((refuted : Refuted book S q) × (refuted.chart.size ≡ 1))

abbrev pub RestartComplete : Type 0
RestartComplete = (book : Book) → WellFormed book → (S q : ℕ) → S < 2 ^ length book
    → (GoalTree book true S q → ⊥) → (refuted : Refuted book S q) × (refuted.chart.size ≡ 1)

-- the search from nothing counted succeeds or fails
pub data Answered (s : Setting) (q : Query) : Type 0 where
  with_tree : (t : List ℕ) (k : ℕ) → Asked s [] q 0 (succeeded t) k → Answered s q
  with_none : (k : ℕ) → Asked s [] q 0 failed k → Answered s q

-- From some budget on, a search that begins with nothing on its way comes to an answer: it is not spent.
abbrev pub Finishes : Type 0
Finishes = (book : Book) → WellFormed book → (restart : Bool) (g : ℕ) (q : Query) → q.in_force < 2 ^ length book
    → (least : ℕ) × ((budget : ℕ) → least ≤ budget → Answered (record { book = book; restart = restart; goal = g; budget = budget }) q)

-- The bytes that answer a query are those of its trees.
abbrev pub CheckRight : Type 0
CheckRight = (book : Book) (restart : Bool) (g : ℕ) (q : Query) (bs : List ℕ)
    → Answers book restart g (q ∷ []) bs ↔ ((tree : Tree book restart g q.in_force q.name) × (bytes tree ≡ bs))

-- Whatever the budget, a search ends.
abbrev pub Ends : Type 0
Ends = (s : Setting) (way : List Query) (q : Query) (n : ℕ) → n ≤ s.budget → (out : Outcome) × (k : ℕ) × Asked s way q n out k

-- The count never falls and never passes the budget, and a search that is spent has counted up to it.
abbrev pub Counted : Type 0
Counted = (s : Setting) (way : List Query) (q : Query) (n : ℕ) (out : Outcome) (k : ℕ) → n ≤ s.budget → Asked s way q n out k
    → (n ≤ k) × (k ≤ s.budget) × (out ≡ spent → k ≡ s.budget)

-- the search for the goal rule q from the set S, with nothing counted
abbrev pub GoalAsked : Book → Bool → ℕ → ℕ → ℕ → Outcome → ℕ → Type 0
GoalAsked book restart S q budget out k =
    Asked (record { book = book; restart = restart; goal = head_of book q; budget = budget }) []
    (record { in_force = supposing book S q; name = head_of book q }) 0 out k

-- A goal is found without restart only if it holds wherever all of S holds; if it is not found, a chart refutes it.
abbrev pub SearchRight : Type 0
SearchRight = (book : Book) → WellFormed book → (S q budget k : ℕ) → S < 2 ^ length book
    → ((t : List ℕ) → GoalAsked book false S q budget (succeeded t) k
    → (chart : Chart) → Lawful chart → (w : ℕ) → w < chart.size → SetHolds book chart w S → Holds chart w (rule_of book q))
    × (GoalAsked book false S q budget failed k → Refuted book S q)

-- The same with restart, over charts of a single release.
abbrev pub RestartSearchRight : Type 0
RestartSearchRight = (book : Book) → WellFormed book → (S q budget k : ℕ) → S < 2 ^ length book
    → ((t : List ℕ) → GoalAsked book true S q budget (succeeded t) k
    → (chart : Chart) → Lawful chart → chart.size ≡ 1 → SetHolds book chart 0 S → Holds chart 0 (rule_of book q))
    × (GoalAsked book true S q budget failed k → (refuted : Refuted book S q) × (refuted.chart.size ≡ 1))
