-- The worked example is a run.
use Rattle.std.proofs.Common.{◌≡◌, ℕ, zero, suc, true, false, eqb, [], ◌∷◌, sym, refl, ap, ⊎_elim, arith, lit<}
use Rattle.logic.specs.Sets.{Has}
use Rattle.logic.specs.Rules.{Rule, Rules, rule, more, head_of, bodies_of, supposing}
use Rattle.logic.specs.Charts.{Holds, AllHold}
use Rattle.logic.specs.Trees.{Applies}
use Rattle.logic.specs.Search.{Query, On, succeeded, failed, spent, no_budget, begun, passed, rule_succeeds, rule_spent, rule_fails, gives_up, body_fails, all_asked, rest_succeeds, body_spent}
use Rattle.logic.specs.Check.{none_waits, rule_byte}
use Rattle.logic.specs.Store.{store, RulesAsked, book_of}
use Rattle.logic.proofs.Tests.{both}
use Rattle.logic.proofs.Ways.{nothing_on, on_cases}
use Rattle.logic.specs.Check.{wrong_record, no_restart, after_record}
use Rattle.law.specs.Defined.{TreeOf, Checked, accepts, rejects, refuses, answers}
use Rattle.law.specs.Calls.{rejected, Tally}
use Rattle.law.specs.Runs.{Run, ended, step}
use Rattle.law.specs.Example.{small, bare, with_two, ExampleRuns}

-- `0 if 1` and `1`, and the goal `0`
abbrev in_force : Rules
in_force = more (rule 0 (more (rule 1 Rules.none) Rules.none)) (more (rule 1 Rules.none) Rules.none)

abbrev goal : Rule
goal = rule 0 Rules.none

off : (n : ℕ) → ◌≡◌ {A = ℕ} zero (suc n) → ⊥
off n e = omega arith

-- the goal's query has records 1 and 2 in force
first_applies : Applies (book_of in_force goal) 6 0 1
unfolding store head_of Has
first_applies = record { recorded = lit< tt; in_force = refl; heads = refl }

second_applies : Applies (book_of in_force goal) 6 1 2
unfolding store head_of Has
second_applies = record { recorded = lit< tt; in_force = refl; heads = refl }

not_in_force : (x : ℕ) → ¬ Applies (book_of in_force goal) 6 x 0
unfolding store head_of Has
not_in_force x a = off 0 a.in_force

other_head : ¬ Applies (book_of in_force goal) 6 1 1
unfolding store head_of Has
other_head a = off 0 a.heads

abbrev query : ℕ → Query
query x = record { in_force = 6; name = x }

not_begun : On (query 1) (query 0 ∷ []) → ⊥
not_begun o = ⊎_elim (λ e. off 0 (sym (ap (λ (q : Query). q.name) e))) nothing_on (on_cases o)

asks : RulesAsked false in_force goal 10 (succeeded (1 ∷ 1 ∷ 1 ∷ 2 ∷ [])) 2
unfolding store head_of bodies_of supposing
asks =
    begun nothing_on (off 9)
    (passed (lit< tt) (not_in_force 0)
    (rule_succeeds (lit< tt) first_applies
    (rest_succeeds {t = 1 ∷ 2 ∷ []} {ts = []}
    (begun not_begun (λ e. omega arith)
    (passed (lit< tt) (not_in_force 1) (passed (lit< tt) other_head (rule_succeeds (lit< tt) second_applies all_asked)))) all_asked)))

spends : RulesAsked false in_force goal 1 spent 1
unfolding store head_of bodies_of supposing
spends =
    begun nothing_on (off 0)
    (passed (lit< tt) (not_in_force 0) (rule_spent (lit< tt) first_applies (body_spent (no_budget not_begun refl))))

tree : TreeOf false in_force goal (1 ∷ 1 ∷ 1 ∷ 2 ∷ [])
unfolding store head_of bodies_of supposing
tree = rule_byte 1 first_applies (rule_byte 2 second_applies none_waits)

rejected_record : Checked false in_force goal (1 ∷ 1 ∷ 1 ∷ 0 ∷ []) (rejected 3)
unfolding store head_of bodies_of supposing
rejected_record = rejects (after_record first_applies (wrong_record (not_in_force 1)))

rejected_restart : Checked false in_force goal (1 ∷ 1 ∷ 2 ∷ []) (rejected 2)
unfolding store head_of bodies_of supposing
rejected_restart = rejects (after_record first_applies (no_restart (λ t. t)))

-- with `0` supposed, its record is 3
abbrev with_goal : Rules
with_goal = more (rule 0 (more (rule 1 Rules.none) Rules.none)) (more (rule 1 Rules.none) (more goal Rules.none))

by_supposition : TreeOf false with_goal goal (1 ∷ 3 ∷ [])
unfolding store head_of bodies_of supposing Has
by_supposition = rule_byte 3 (record { recorded = lit< tt; in_force = refl; heads = refl }) none_waits

-- ---- with `0 if 1` alone in force

abbrev alone : Rules
alone = more (rule 0 (more (rule 1 Rules.none) Rules.none)) Rules.none

alone_applies : Applies (book_of alone goal) 2 0 1
unfolding store head_of Has
alone_applies = record { recorded = lit< tt; in_force = refl; heads = refl }

alone_not_first : (x : ℕ) → ¬ Applies (book_of alone goal) 2 x 0
unfolding store head_of Has
alone_not_first x a = off 0 a.in_force

alone_other_head : ¬ Applies (book_of alone goal) 2 1 1
unfolding store head_of Has
alone_other_head a = off 0 a.heads

alone_not_goal : (x : ℕ) → ¬ Applies (book_of alone goal) 2 x 2
unfolding store head_of Has
alone_not_goal x a = off 0 a.in_force

abbrev alone_query : ℕ → Query
alone_query x = record { in_force = 2; name = x }

alone_not_begun : On (alone_query 1) (alone_query 0 ∷ []) → ⊥
alone_not_begun o = ⊎_elim (λ e. off 0 (sym (ap (λ (q : Query). q.name) e))) nothing_on (on_cases o)

fails : RulesAsked false alone goal 10 failed 2
unfolding store head_of bodies_of supposing
fails =
    begun nothing_on (off 9)
    (passed (lit< tt) (alone_not_first 0)
    (rule_fails (lit< tt) alone_applies
    (body_fails
    (begun alone_not_begun (λ e. omega arith)
    (passed (lit< tt) (alone_not_first 1)
    (passed (lit< tt) alone_other_head (passed (lit< tt) (alone_not_goal 1) (gives_up refl tt))))))
    (passed (lit< tt) (alone_not_goal 0) (gives_up refl tt))))

-- where 1 is not carried, `0 if 1` holds
alone_holds : AllHold bare 0 alone
alone_holds = (λ v f h. h.0 v (both (eqb v 0) (eqb v 0) f f) tt, tt)

goal_fails : Holds bare 0 goal → ⊥
goal_fails h = h 0 tt tt

-- ---- the run

abbrev draft : Tally
draft = record { added = (7 ∷ 8 ∷ []) ∷ []; supposed = []; sealed = false }

second : Run small 2 draft with_two
unfolding store
second =
    step refl (answers refl (refl, refl))
    (step refl (answers refl (refl, refl))
    (step refl (answers refl (goal, (7 ∷ 8 ∷ [], refl), succeeded (1 ∷ 1 ∷ 1 ∷ 2 ∷ []), 2, asks, refl, refl))
    (step refl (answers refl (goal, (7 ∷ 8 ∷ [], refl), succeeded (1 ∷ 1 ∷ 1 ∷ 2 ∷ []), 2, asks, refl, refl))
    (step refl (answers refl (goal, (7 ∷ 8 ∷ [], refl), spent, 1, spends, refl, refl))
    (step refl (refuses refl)
    (step refl (answers refl (goal, (7 ∷ 8 ∷ [], refl), accepts tree, refl))
    (step refl (answers refl (goal, (7 ∷ 8 ∷ [], refl), rejected_record, refl))
    (step refl (answers refl (goal, (7 ∷ 8 ∷ [], refl), rejected_restart, refl))
    (step refl (refuses refl)
    (step refl (answers refl (refl, refl))
    (step refl (answers refl (goal, (7 ∷ 8 ∷ [], refl), accepts by_supposition, refl))
    (step refl (answers refl (refl, refl)) ended))))))))))))

pub example_runs : ExampleRuns
unfolding store
example_runs =
    step refl (answers refl (refl, refl))
    (step refl (refuses refl)
    (step refl (refuses refl)
    (step refl (answers refl (refl, refl))
    (step refl (answers refl (goal, (7 ∷ 8 ∷ [], refl), failed, 2, fails, refl, refl))
    (step refl
    (answers refl (goal, (7 ∷ 8 ∷ [], refl), true, false, (λ x. alone_holds, λ x. tt), (λ x. absurd x, goal_fails), refl, refl))
    (step refl (refuses refl)
    (step refl (answers refl (refl, refl)) second)))))))
