-- What look does.
use Rattle.std.proofs.Common.{◌≡◌, ℕ, Bool, false, T, ltb, ◌↔◌, List, [], Some, None, Option as Maybe, Ok, Err, ok_or, Decides, sym, refl, ap, ◌∙◌, subst, arith}
use Rattle.std.proofs.lemmas.Bool.{lt-ltb, le-ltb}
use mathlib.Core.Option.{Option}
use Rattle.logic.specs.Charts.{Chart, Holds, SetHolds}
use Rattle.logic.specs.Rules.{rule_of, Book as Records}
use Rattle.logic.specs.Sets.{mask}
use Rattle.logic.specs.Store.{numbers, book_of}
use Rattle.logic.proofs.Store.{goal_stored, to_set, from_set}
use Rattle.reader.specs.Written.{Refusal, Kind}
use Rattle.book.specs.Books.{records_of, in_force_of}
use Rattle.book.specs.declared.book.Book.{Book}
use Rattle.book.specs.declared.number.RecordNumber.{RecordNumber}
use Rattle.charts.specs.Judging.{HoldAt}
use Rattle.charts.specs.declared.judging.Holding.{Holding}
use Rattle.law.specs.Calls.{look}
use Rattle.law.specs.Defined.{standing, unless, or_else, refusal_of}
use Rattle.law.proofs.Refusals.{passed, passes, none_or, passed_unless}
use Rattle.service.specs.Faults as faults
use Rattle.service.specs.Goals.{GoalRefused, GoalHeld}
use Rattle.service.specs.Looking.{looked}
use Rattle.service.specs.Represents.{Does}
use Rattle.service.specs.declared.fault.Fault.{Fault}
use Rattle.service.specs.declared.fault.Fault.TheVariants as fault
use Rattle.service.specs.declared.state.Sealed.{Sealed}
use Rattle.service.specs.declared.state.State.TheVariants.{Shut}
use Rattle.service.proofs.Doing.{answered, turned_down}
use Rattle.service.proofs.Goals.{recorded}

-- what a test decides, it tells of each statement that says the same
tells : {P Q : Type 0} (x : Bool) → Decides x P → (P → Q) → (Q → P) → T x ↔ Q
tells x d to from = (λ t. to (d.0 (passed x t)), λ q. passes (d.1 (from q)))

module _ {K : Type 0} (kind : Kind K) (w : List ℕ) (chart : Chart) (release : ℕ) (s s' : Sealed K) where
  pub does_look_refused : (e : Fault) → GoalRefused kind w s e s' → Does kind (look w chart release) (Shut s) (looked (Err e)) [] (Shut s')
  does_look_refused e goal slots t h =
      let x = goal slots t h in
      turned_down kind slots t (look w chart release) (faults.refusal e) (Shut s') h.shut
      (ap (λ (f : Option Refusal). or_else f (unless (ltb release chart.size) 34)) (ap refusal_of x.0)) x.1

  module _ (b : Book) (n : RecordNumber) (goal : GoalHeld kind w s b n s') where
    pub does_look : (o : Maybe Holding) → HoldAt chart (records_of b) (in_force_of b) n.index release o
        → Does kind (look w chart release) (Shut s) (looked (ok_or o fault.Release)) [] (Shut s')
    does_look None past slots t h =
        let (x, same) = goal slots t h in
        let outside : ltb release chart.size ≡ false = le-ltb release chart.size (omega (arith, past)) in
        turned_down kind slots t (look w chart release) (record { number = 34; place = 0 }) (Shut s') h.shut
        (ap (λ (f : Option Refusal). or_else f (unless (ltb release chart.size) 34)) (ap refusal_of x.is)
        ∙ ap (λ (y : Bool). unless y 34) outside) same
    does_look (Some k) (released, rules_told, goal_told, unused) slots t h =
        let (x, same) = goal slots t h in
        let rules = (standing kind slots t).rules in
        let same_records = x.book_is.records in
        let same_force : in_force_of b ≡ mask (numbers [] rules) = x.book_is.in_force in
        let same_goal : rule_of (records_of b) n.index ≡ x.goal =
        ap (λ (r : Records). rule_of r n.index) same_records ∙ ap (rule_of (book_of rules x.goal)) x.number_is
        ∙ (goal_stored rules x.goal).is in
        answered kind slots t (look w chart release) (looked (Ok k)) [] (Shut s') h.shut
        (none_or (ap refusal_of x.is) (passed_unless 34 (lt-ltb release chart.size released))) (
          x.goal,
          (x.keys, x.is),
          k.rules,
          k.goal,
          tells k.rules rules_told
              (λ a. from_set rules x.goal chart release (subst (λ (r : Records). SetHolds r chart release (mask (numbers [] rules))) same_records (subst (SetHolds (records_of b) chart release) same_force a)))
              (λ a. subst (SetHolds (records_of b) chart release) (sym same_force) (subst (λ (r : Records). SetHolds r chart release (mask (numbers [] rules))) (sym same_records) (to_set rules x.goal chart release a))),
          tells k.goal (goal_told (recorded kind w slots (standing kind slots t) b n x))
              (subst (Holds chart release) same_goal) (subst (Holds chart release) (sym same_goal)),
          refl,
          refl,
        ) same
