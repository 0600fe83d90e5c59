use Rattle.std.proofs.Common.{ℕ, ◌<◌, ◌≤◌, true, false, Some, None, sym, subst, arith, rules, tests, of_calls}
use Rattle.std.proofs.lemmas.Iterator.{first_from_Range, serves_from_Range}
use Rattle.charts.proofs.lists.all_pass.Given.{F-post}
use Rattle.charts.proofs.lists.all_pass.Goals as goal

pub find-failing-requires-clause-callable : goal.find-failing-requires-clause-callable
find-failing-requires-clause-callable g c =
    serves_from_Range (λ x q k. search (rules, tests))
    (λ x low high y e. c.requires.testable y.now (subst (λ k. k < c.args.size) (sym e) high))

pub returns-in-Some-clause-lowest : goal.returns-in-Some-clause-lowest
returns-in-Some-clause-lowest g c =
    let Answers = F-post g c.args.test in
    let k = c.in-Some.k in
    let found : (0 ≤ k) × (k < c.args.size) × Answers k false × ((j : ℕ) → 0 ≤ j → j < k → Answers j true) =
    first_from_Range _ _ _ (Some k) (λ j. Answers j false) (λ j. Answers j true) c.in-Some.ensures.ran
    (λ x q call. search (rules, tests, of_calls)) (λ x q call. (search rules, search (rules, tests, of_calls))) in
    (k, record { inside = found.1; below = λ j h. found.3 j (omega arith) h; no = found.2 }, c.fault.ensures)

pub returns-clause-all : goal.returns-clause-all
returns-clause-all g c =
    let Answers = F-post g c.args.test in
    let found : (j : ℕ) → 0 ≤ j → j < c.args.size → Answers j true =
    first_from_Range _ _ _ None (λ j. Answers j false) (λ j. Answers j true) c.in-None.ensures.ran
    (λ x q call. search (rules, tests, of_calls)) (λ x q call. (search rules, search (rules, tests, of_calls))) in
    record { yes = λ k h. found k (omega arith) h }
