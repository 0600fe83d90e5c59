-- Ten worked examples, and what the definitions yield for each.
use Rattle.std.specs.Prelude.{ℕ, zero, suc, ◌<◌, Bool, true, false, List, [], ◌∷◌}
use Rattle.logic.specs.Rules.{Rule, Rules, rule, none, more}
use Rattle.logic.specs.Charts.{Chart, Lawful, Holds, AllHold, line}
use Rattle.logic.specs.Search.{Outcome, succeeded, failed, spent}
use Rattle.logic.specs.Store.{RulesAsked}

-- a line of an example
pub data Example : Type 0 where
  -- the rules in force, the goal, whether restart is allowed, the budget; the outcome and the count
  asked : Rules → Rule → Bool → ℕ → Outcome → ℕ → Example
  -- the rules in force, the goal, a chart and a release of it; whether all the rules hold there, and whether the goal does
  told : Rules → Rule → Chart → ℕ → Bool → Bool → Example

-- the statement holds, or it does not, as told
abbrev pub Told : Bool → Type 0 → Type 0
Told true A = A
Told false A = A → ⊥

-- the definitions yield the line
abbrev pub Yields : Example → Type 0
Yields (asked rules goal restart budget out count) = RulesAsked restart rules goal budget out count
Yields (told rules goal chart w rules_hold goal_holds) =
    Lawful chart × (w < chart.size) × Told rules_hold (AllHold chart w rules) × Told goal_holds (Holds chart w goal)

abbrev pub AllYield : List Example → Type 0
AllYield [] = Unit {0}
AllYield (e ∷ es) = Yields e × AllYield es

-- ---- rules of the examples; names are numbered in the order of the text

-- a name by itself; a name if one body holds; a name if two do
abbrev pub fact : ℕ → Rule
fact x = rule x none

abbrev pub if_one : ℕ → Rule → Rule
if_one x b = rule x (more b none)

abbrev pub if_two : ℕ → Rule → Rule → Rule
if_two x b c = rule x (more b (more c none))

-- one rule in force; two rules
abbrev pub one : Rule → Rules
one r = more r none

abbrev pub two : Rule → Rule → Rules
two r q = more r (more q none)

-- the first release of each name in a line of two releases: the name 0 from release 1 on, no other ever
abbrev pub from_one : ℕ → ℕ
from_one zero = 1
from_one (suc x) = 2

-- `a if (b if a)`, with the numbers of a and b
abbrev pub circular : ℕ → ℕ → Rule
circular a b = if_one a (if_one b (fact a))

-- more than any of the searches counts
abbrev pub ample : ℕ
ample = 1000000

abbrev pub examples : List Example
examples =
    -- A. no rules, goal `q`
    asked none (fact 0) false ample failed 1
    -- B. `a if (b if a)`, goal `a`
    ∷ asked (one (circular 0 1)) (fact 0) false ample failed 2
    ∷ asked (one (circular 0 1)) (fact 0) false 1 spent 1
    -- C. the same with restart
    ∷ asked (one (circular 0 1)) (fact 0) true ample (succeeded (1 ∷ 2 ∷ 2 ∷ 1 ∷ 0 ∷ [])) 3
    -- D. `q if q`, goal `q`
    ∷ asked (one (if_one 0 (fact 0))) (fact 0) false ample failed 1
    -- E. `b if b` and `a if (b if a)`, goal `a`, without restart and with it
    ∷ asked (two (if_one 0 (fact 0)) (circular 1 0)) (fact 1) false ample failed 2
    ∷ asked (two (if_one 0 (fact 0)) (circular 1 0)) (fact 1) true ample (succeeded (1 ∷ 4 ∷ 2 ∷ 1 ∷ 2 ∷ [])) 3
    -- F. `n if (n if a)`, goal the same
    ∷ asked (one (if_one 0 (if_one 0 (fact 1)))) (if_one 0 (if_one 0 (fact 1))) false ample (succeeded (1 ∷ 2 ∷ 1 ∷ 4 ∷ 1 ∷ 0 ∷ [])) 3
    -- G. `c if (a if a), a`, goal `c`
    ∷ asked (one (if_two 0 (if_one 1 (fact 1)) (fact 1))) (fact 0) false ample failed 3
    -- H. `a if (b if a)` at release 0 of a line of two releases, a from 1 and b never; goal `a`
    ∷ told (one (circular 0 1)) (fact 0) (line 2 from_one) 0 true false
    -- I. the same with goal `b if a`
    ∷ told (one (circular 0 1)) (if_one 1 (fact 0)) (line 2 from_one) 0 true false
    -- J. no rules, goal `a if b, a`
    ∷ asked none (if_two 0 (fact 1) (fact 0)) false ample (succeeded (1 ∷ 1 ∷ [])) 1
    ∷ []

-- The definitions yield each line of the ten examples.
abbrev pub ExamplesYielded : Type 0
ExamplesYielded = AllYield examples
