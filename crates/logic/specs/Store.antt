-- How rules are stored as records: in the order in which they end, the bodies of a rule before the rule.
use Rattle.std.specs.Prelude.{◌≡◌, ℕ, ◌<◌, Bool, true, false, List, [], ◌∷◌, ◌++◌, length}
use Rattle.logic.specs.Sets.{mask}
use Rattle.logic.specs.Rules.{Rule, Rules, rule, none, more, Book}
use Rattle.logic.specs.Charts.{Chart, Lawful, Holds, AllHold}
use Rattle.logic.specs.Search.{Outcome, succeeded, failed}
use Rattle.logic.specs.Theorems.{GoalAsked, GoalTree}

unfoldable mutual
  -- the book with the records of a rule behind its own
  pub store : Book → Rule → Book
  store book (rule h bs) = stores book bs ++ record { head = h; bodies = numbers book bs } ∷ []

  -- the number of the rule's record in that book
  pub number_of : Book → Rule → ℕ
  number_of book (rule h bs) = length (stores book bs)

  -- the book with the records of each rule behind its own, one after the other
  pub stores : Book → Rules → Book
  stores book none = book
  stores book (more r rs) = stores (store book r) rs

  -- the numbers of the rules' records in that book
  pub numbers : Book → Rules → List ℕ
  numbers book none = []
  numbers book (more r rs) = number_of book r ∷ numbers (store book r) rs

-- the book of the rules in force and the goal, stored in this order into an empty book
abbrev pub book_of : Rules → Rule → Book
book_of rules goal = store (stores [] rules) goal

-- the search for the goal with these rules in force
abbrev pub RulesAsked : Bool → Rules → Rule → ℕ → Outcome → ℕ → Type 0
RulesAsked restart rules goal budget out k =
    GoalAsked (book_of rules goal) restart (mask (numbers [] rules)) (number_of (stores [] rules) goal) budget out k

-- a success tree of the goal with these rules in force
abbrev pub RulesTree : Bool → Rules → Rule → Type 0
RulesTree restart rules goal = GoalTree (book_of rules goal) restart (mask (numbers [] rules)) (number_of (stores [] rules) goal)

-- at each release of the chart where all the rules hold, the goal holds
abbrev pub Follow : Chart → Rules → Rule → Type 0
Follow chart rules goal = (w : ℕ) → w < chart.size → AllHold chart w rules → Holds chart w goal

-- at a release of the chart all the rules hold, and the goal does not
pub record Breaks (chart : Chart) (rules : Rules) (goal : Rule) : Type 0 where
  pub release : ℕ
  pub released : release < chart.size
  pub rules_hold : AllHold chart release rules
  pub goal_fails : Holds chart release goal → ⊥

-- Without restart: where the search succeeds, the goal follows in every lawful chart; where it fails, a lawful chart breaks it.
abbrev pub RulesRight : Type 0
RulesRight = (rules : Rules) (goal : Rule) (budget k : ℕ)
    → ((t : List ℕ) → RulesAsked false rules goal budget (succeeded t) k → (chart : Chart) → Lawful chart → Follow chart rules goal)
    × (RulesAsked false rules goal budget failed k → (chart : Chart) × Lawful chart × Breaks chart rules goal)

-- With restart: the same over the charts of a single release.
abbrev pub RestartRulesRight : Type 0
RestartRulesRight = (rules : Rules) (goal : Rule) (budget k : ℕ)
    → ((t : List ℕ) → RulesAsked true rules goal budget (succeeded t) k → (chart : Chart) → Lawful chart → chart.size ≡ 1 → Follow chart rules goal)
    × (RulesAsked true rules goal budget failed k → (chart : Chart) × Lawful chart × (chart.size ≡ 1) × Breaks chart rules goal)

-- Where the goal has a success tree without restart, it follows in every lawful chart; with restart, in those of a single release.
pub record RulesSound : Type 0 where
  pub ever : (rules : Rules) (goal : Rule) → RulesTree false rules goal → (chart : Chart) → Lawful chart → Follow chart rules goal
  pub now : (rules : Rules) (goal : Rule) → RulesTree true rules goal → (chart : Chart) → Lawful chart → chart.size ≡ 1 → Follow chart rules goal
