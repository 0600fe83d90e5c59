-- What ask and check do.
use Rattle.std.proofs.Common.{◌≡◌, ℕ, ◌-◌, ◌<◌, ◌≤◌, Bool, true, false, cond, ◌&&◌, leb, List, [], ◌∷◌, ◌++◌, length, Ok, Err, sym, refl, ap, ◌∙◌, subst, ap₂, arith, length-append, ◌⊎◌, inl, inr, Bor, Result, OnErr}
use Rattle.std.proofs.lemmas.Bool.{le-leb, lt-leb, and_left, and_right}
use mathlib.Core.Option.{Option}
use Rattle.logic.specs.Rules.{Rule, Rules, head_of, supposing, Book as Records}
use Rattle.logic.specs.Search as search
use Rattle.logic.specs.Search.{Asked, Query, succeeded, failed}
use Rattle.logic.specs.Sets.{mask}
use Rattle.logic.specs.Store.{stores, numbers, number_of, book_of, RulesAsked}
use Rattle.logic.specs.Theorems.{GoalAsked}
use Rattle.reader.specs.Written.{Refusal, Kind}
use Rattle.book.specs.Books.{records_of, in_force_of}
use Rattle.book.specs.declared.book.Book.{Book}
use Rattle.book.specs.declared.number.RecordNumber.{RecordNumber}
use Rattle.prover.specs.Settings.{allowed, query_of}
use Rattle.prover.specs.Settled.{Settled}
use Rattle.prover.specs.Read.{Judged}
use Rattle.prover.specs.declared.outcome.Outcome.{Outcome}
use Rattle.prover.specs.declared.outcome.Outcome.TheVariants.{Yes, No, Spent, Long}
use Rattle.prover.specs.declared.task.Restart.{Restart}
use Rattle.prover.specs.declared.task.Task.{Task}
use Rattle.prover.specs.declared.verdict.Verdict.{Verdict}
use Rattle.prover.specs.declared.verdict.Verdict.TheVariants.{Accepted, Rejected}
use Rattle.law.specs.Limits.{largest_budget, tree_bytes}
use Rattle.law.specs.Calls.{ask, check, Answer, refused, long, Tally}
use Rattle.law.specs.Defined.{standing, unless, or_else, refusal_of, entering, zeros, found, filled, refusal, goal_query, Checked, accepts, rejects}
use Rattle.law.proofs.Refusals.{passed_unless}
use Rattle.service.specs.Faults as faults
use Rattle.service.specs.GoalQueries.{OfGoal, OfRecord, GoalSearched, GoalChecked}
use Rattle.service.specs.Goals.{GoalRefused, GoalHeld, Questioned}
use Rattle.service.specs.Questions.{asked, checked}
use Rattle.service.specs.Represents.{Does}
use Rattle.service.specs.declared.fault.Fault.{Fault}
use Rattle.service.specs.declared.state.Sealed.{Sealed}
use Rattle.service.specs.declared.state.State.TheVariants.{Shut}
use Rattle.service.proofs.Doing.{answered, turned_down}
use Rattle.service.proofs.Goals.{recorded}

-- ---- the query of a goal

module _ (records records' : Records) (force force' q q' S x : ℕ) (restart : Bool)
    (same_records : records ≡ records') (same_force : force ≡ force') (same_number : q ≡ q') (of : OfGoal records force q S x) where
  set_is : S ≡ supposing records' force' q'
  set_is =
      of.set ∙ ap (λ (r : Records). supposing r force q) same_records ∙ ap (λ (f : ℕ). supposing records' f q) same_force
      ∙ ap (supposing records' force') same_number

  name_is : x ≡ head_of records' q'
  name_is = of.name ∙ ap (λ (r : Records). head_of r q) same_records ∙ ap (head_of records') same_number

  goal_asked : (budget : ℕ) (o : search.Outcome) (k : ℕ)
      → Asked (record { book = records; restart = restart; goal = x; budget = budget }) [] (query_of S x) 0 o k
      → GoalAsked records' restart force' q' budget o k
  goal_asked budget o k a =
      subst (λ (y : ℕ). Asked (record { book = records'; restart = restart; goal = y; budget = budget }) [] (query_of (supposing records' force' q') y) 0 o k) name_is
      (subst (λ (T : ℕ). Asked (record { book = records'; restart = restart; goal = x; budget = budget }) [] (query_of T x) 0 o k) set_is
      (subst (λ (r : Records). Asked (record { book = r; restart = restart; goal = x; budget = budget }) [] (query_of S x) 0 o k) same_records a))

  goal_judged : (bs : List ℕ) (v : Verdict) → Judged records restart x (query_of S x ∷ []) 0 bs v
      → Judged records' restart (head_of records' q') (query_of (supposing records' force' q') (head_of records' q') ∷ []) 0 bs v
  goal_judged bs v j =
      subst (λ (y : ℕ). Judged records' restart y (query_of (supposing records' force' q') y ∷ []) 0 bs v) name_is
      (subst (λ (T : ℕ). Judged records' restart x (query_of T x ∷ []) 0 bs v) set_is
      (subst (λ (r : Records). Judged r restart x (query_of S x ∷ []) 0 bs v) same_records j))

-- ---- what the search answers

-- the search came to this, which is answered so, and leaves the buffer so
pub record AnswersSo (restart : Bool) (rules : Rules) (goal : Rule) (budget : ℕ) (buffer : List ℕ) (a : Answer) (after : List ℕ) : Type 0 where
  pub outcome : search.Outcome
  pub count : ℕ
  pub asked_so : RulesAsked restart rules goal budget outcome count
  pub answer_is : a ≡ found buffer outcome count
  pub buffer_is : after ≡ filled buffer outcome

module _ (b' : Book) (task : Task) (S : ℕ) (rules : Rules) (goal : Rule) (buffer after : List ℕ) (same_length : length after ≡ length buffer)
    (to : (o : search.Outcome) (k : ℕ) → Rattle.prover.specs.Settled.GoalAsked b' task S o k → RulesAsked (allowed task.restart) rules goal task.budget o k) where
  settles : (r : Outcome) → Settled b' task S after r → AnswersSo (allowed task.restart) rules goal task.budget buffer (asked (Ok r)) after
  settles (Yes n len) (t, a, is, out) =
      let fits : leb (length t) (length buffer) ≡ true =
      le-leb (length t) (length buffer) (omega (arith, is, same_length, ap length out, length-append t (zeros (length after - len)))) in
      record {
        outcome = succeeded t;
        count = n;
        asked_so = to (succeeded t) n a;
        answer_is = ap (Answer.yes n) is ∙ ap (λ (x : Bool). cond x (Answer.yes n (length t)) (long n (length t))) (sym fits);
        buffer_is =
            out ∙ ap₂ (λ (i j : ℕ). t ++ zeros (i - j)) same_length is
            ∙ ap (λ (x : Bool). cond x (t ++ zeros (length buffer - length t)) (zeros (length buffer))) (sym fits);
      }
  settles (No n) (a, out) = record {
    outcome = failed;
    count = n;
    asked_so = to failed n a;
    answer_is = refl;
    buffer_is = out ∙ ap zeros same_length;
  }
  settles (Spent n) (a, out) = record {
    outcome = search.Outcome.spent;
    count = n;
    asked_so = to search.Outcome.spent n a;
    answer_is = refl;
    buffer_is = out ∙ ap zeros same_length;
  }
  settles (Long n len) (t, a, is, over, out) =
      let longer : leb (length t) (length buffer) ≡ false = lt-leb (length t) (length buffer) (omega (arith, is, over, same_length)) in
      record {
        outcome = succeeded t;
        count = n;
        asked_so = to (succeeded t) n a;
        answer_is = ap (long n) is ∙ ap (λ (x : Bool). cond x (Answer.yes n (length t)) (long n (length t))) (sym longer);
        buffer_is =
            out ∙ ap zeros same_length
            ∙ ap (λ (x : Bool). cond x (t ++ zeros (length buffer - length t)) (zeros (length buffer))) (sym longer);
      }

-- ---- ask

budget_passes : (budget : ℕ) → 1 ≤ budget → budget ≤ largest_budget → (leb 1 budget && leb budget largest_budget) ≡ true
budget_passes budget low high =
    ap₂ (λ (x y : Bool). x && y) (le-leb 1 budget low) (le-leb budget largest_budget high)

budget_fails : (budget : ℕ) → (budget ≡ 0) ⊎ (largest_budget < budget) → (leb 1 budget && leb budget largest_budget) ≡ false
budget_fails budget (inl none) = and_left (leb 1 budget) (leb budget largest_budget) (lt-leb 1 budget (omega (arith, none)))
budget_fails budget (inr high) = and_right (leb 1 budget) (leb budget largest_budget) (lt-leb budget largest_budget high)

module _ {K : Type 0} (kind : Kind K) (w : List ℕ) (restart : Bool) (budget : ℕ) (buffer : List ℕ) where
  -- where the budget and the buffer are in order, only the goal is refused
  ask_refusal : (slots : ℕ) (t : Tally) → 1 ≤ budget → budget ≤ largest_budget → length buffer ≤ tree_bytes
      → refusal kind slots t (ask w budget buffer restart) ≡ entering kind slots t w
  ask_refusal slots t low high short =
      ap (λ (f : Option Refusal). or_else f (or_else (unless (leb (length buffer) tree_bytes) 33) (entering kind slots t w)))
      (passed_unless 32 (budget_passes budget low high))
      ∙ ap (λ (f : Option Refusal). or_else f (entering kind slots t w)) (passed_unless 33 (le-leb (length buffer) tree_bytes short))

  module _ (s : Sealed K) where
    pub does_ask_budget : (budget ≡ 0) ⊎ (largest_budget < budget)
        → Does kind (ask w budget buffer restart) (Shut s) (refused (record { number = 32; place = 0 })) buffer (Shut s)
    does_ask_budget out slots t h =
        turned_down kind slots t (ask w budget buffer restart) (record { number = 32; place = 0 }) (Shut s) h.shut
        (ap (λ (x : Bool). or_else (unless x 32) (or_else (unless (leb (length buffer) tree_bytes) 33) (entering kind slots t w)))
        (budget_fails budget out)) h

    pub does_ask_bytes : 1 ≤ budget → budget ≤ largest_budget → tree_bytes < length buffer
        → Does kind (ask w budget buffer restart) (Shut s) (refused (record { number = 33; place = 0 })) buffer (Shut s)
    does_ask_bytes low high out slots t h =
        turned_down kind slots t (ask w budget buffer restart) (record { number = 33; place = 0 }) (Shut s) h.shut
        (ap (λ (f : Option Refusal). or_else f (or_else (unless (leb (length buffer) tree_bytes) 33) (entering kind slots t w)))
        (passed_unless 32 (budget_passes budget low high))
        ∙ ap (λ (x : Bool). or_else (unless x 33) (entering kind slots t w)) (lt-leb (length buffer) tree_bytes out)) h

  pub does_ask_refused : 1 ≤ budget → budget ≤ largest_budget → length buffer ≤ tree_bytes → (s s' : Sealed K) (e : Fault) → GoalRefused kind w s e s'
      → Does kind (ask w budget buffer restart) (Shut s) (refused (faults.refusal e)) buffer (Shut s')
  does_ask_refused low high short s s' e goal slots t h =
      let x = goal slots t h in
      turned_down kind slots t (ask w budget buffer restart) (faults.refusal e) (Shut s') h.shut
      (ask_refusal slots t low high short ∙ ap refusal_of x.0) x.1

pub does_ask : {K : Type 0} (kind : Kind K) (w : List ℕ) (buffer after : List ℕ) (task : Task) (s s' : Sealed K) (b : Book) (n : RecordNumber) (S : ℕ)
    → 1 ≤ task.budget → task.budget ≤ largest_budget → length buffer ≤ tree_bytes → GoalHeld kind w s b n s'
    → OfRecord b n S task.goal.index → length after ≡ length buffer
    → (r : Outcome) → Settled b task S after r → Does kind (ask w task.budget buffer (allowed task.restart)) (Shut s) (asked (Ok r)) after (Shut s')
does_ask kind w buffer after task s s' b n S low high short goal of same_length r settled slots t h =
    let (x, same) = goal slots t h in
    let rules = (standing kind slots t).rules in
    let to = λ (o : search.Outcome) (k : ℕ).
    goal_asked (records_of b) (book_of rules x.goal) (in_force_of b) (mask (numbers [] rules)) n.index (number_of (stores [] rules) x.goal) S
    task.goal.index (allowed task.restart) x.book_is.records x.book_is.in_force x.number_is
    (of (recorded kind w slots (standing kind slots t) b n x)) task.budget o k in
    let a = settles b task S rules x.goal buffer after same_length to r settled in
    answered kind slots t (ask w task.budget buffer (allowed task.restart)) (asked (Ok r)) after (Shut s') h.shut
    (ask_refusal kind w (allowed task.restart) task.budget buffer slots t low high short ∙ ap refusal_of x.is)
    (x.goal, (x.keys, x.is), a.outcome, a.count, a.asked_so, a.answer_is, a.buffer_is) same

module _ {K : Type 0} (kind : Kind K) (w : List ℕ) (restart : Restart) (budget : ℕ) (buffer after : List ℕ) (s s' : Sealed K)
    (Answers : Bor Book → RecordNumber → Outcome → Type 0) (low : 1 ≤ budget) (high : budget ≤ largest_budget) (short : length buffer ≤ tree_bytes)
    (to : (b : Bor Book) (n : RecordNumber) (o : Outcome) → Answers b n o → GoalSearched b.now n restart budget buffer o after)
    {Unasked : Type 0} (kept : Unasked → after ≡ buffer) where
  -- the goal is refused, or it is searched for
  asked_so : (r : Result Outcome Fault) → Questioned kind w Answers s r s' → OnErr r Unasked
      → Does kind (ask w budget buffer (allowed restart)) (Shut s) (asked r) after (Shut s')
  asked_so (Ok o) (b, n, a, held) unasked =
      let x = to b n o a in
      does_ask kind w buffer after (record { goal = x.name; restart = restart; budget = budget; bounded = x.bounded }) s s' b.now n x.set low high
      short held x.of x.as_long o x.settled
  asked_so (Err e) goal unasked =
      subst (λ (l : List ℕ). Does kind (ask w budget buffer (allowed restart)) (Shut s) (refused (faults.refusal e)) l (Shut s')) (sym (kept unasked))
      (does_ask_refused kind w (allowed restart) budget buffer low high short s s' e goal)

  -- and what the question leaves in the buffer stays there
  pub asks : (r : Result Outcome Fault) → Questioned kind w Answers s r s' → OnErr r Unasked → (last : List ℕ) → last ≡ after
      → Does kind (ask w budget buffer (allowed restart)) (Shut s) (asked r) last (Shut s')
  asks r q unasked last e =
      subst (λ (l : List ℕ). Does kind (ask w budget buffer (allowed restart)) (Shut s) (asked r) l (Shut s')) (sym e) (asked_so r q unasked)

-- ---- check

module _ {K : Type 0} (kind : Kind K) (w tree : List ℕ) (restart : Bool) where
  check_refusal : (slots : ℕ) (t : Tally) → length tree ≤ tree_bytes
      → refusal kind slots t (check w tree restart) ≡ entering kind slots t w
  check_refusal slots t short =
      ap (λ (f : Option Refusal). or_else f (entering kind slots t w)) (passed_unless 33 (le-leb (length tree) tree_bytes short))

  pub does_check_bytes : (s : Sealed K) → tree_bytes < length tree
      → Does kind (check w tree restart) (Shut s) (refused (record { number = 33; place = 0 })) [] (Shut s)
  does_check_bytes s out slots t h =
      turned_down kind slots t (check w tree restart) (record { number = 33; place = 0 }) (Shut s) h.shut
      (ap (λ (x : Bool). or_else (unless x 33) (entering kind slots t w)) (lt-leb (length tree) tree_bytes out)) h

  module _ (short : length tree ≤ tree_bytes) (s s' : Sealed K) where
    pub does_check_refused : (e : Fault) → GoalRefused kind w s e s'
        → Does kind (check w tree restart) (Shut s) (refused (faults.refusal e)) [] (Shut s')
    does_check_refused e goal slots t h =
        let x = goal slots t h in
        turned_down kind slots t (check w tree restart) (faults.refusal e) (Shut s') h.shut (check_refusal slots t short ∙ ap refusal_of x.0) x.1

    pub does_check : (b : Book) (n : RecordNumber) (S name : ℕ) → GoalHeld kind w s b n s'
        → OfRecord b n S name
        → (v : Verdict) → Judged (records_of b) restart name (query_of S name ∷ []) 0 tree v
        → Does kind (check w tree restart) (Shut s) (checked (Ok v)) [] (Shut s')
    does_check b n S name goal of v judged slots t h =
        let (x, same) = goal slots t h in
        let rules = (standing kind slots t).rules in
        let j = goal_judged (records_of b) (book_of rules x.goal) (in_force_of b) (mask (numbers [] rules)) n.index
        (number_of (stores [] rules) x.goal) S name restart x.book_is.records x.book_is.in_force x.number_is
        (of (recorded kind w slots (standing kind slots t) b n x)) tree v judged in
        answered kind slots t (check w tree restart) (checked (Ok v)) [] (Shut s') h.shut
        (check_refusal slots t short ∙ ap refusal_of x.is) (x.goal, (x.keys, x.is), judged_so rules x.goal v j, refl) same
      where
        judged_so : (rules : Rules) (goal : Rule) (v : Verdict)
            → Judged (book_of rules goal) restart (goal_query rules goal).name (goal_query rules goal ∷ []) 0 tree v
            → Checked restart rules goal tree (checked (Ok v))
        judged_so rules goal Accepted j = accepts j
        judged_so rules goal (Rejected p) j = rejects j

module _ {K : Type 0} (kind : Kind K) (w tree : List ℕ) (restart : Restart) (s s' : Sealed K)
    (Answers : Bor Book → RecordNumber → Verdict → Type 0) (short : length tree ≤ tree_bytes)
    (to : (b : Bor Book) (n : RecordNumber) (v : Verdict) → Answers b n v → GoalChecked b.now n restart tree v) where
  -- the goal is refused, or the tree is checked
  pub checks : (r : Result Verdict Fault) → Questioned kind w Answers s r s' → Does kind (check w tree (allowed restart)) (Shut s) (checked r) [] (Shut s')
  checks (Ok v) (b, n, a, held) =
      let x = to b n v a in does_check kind w tree (allowed restart) short s s' b.now n x.set x.name held x.of v x.judged
  checks (Err e) goal = does_check_refused kind w tree (allowed restart) short s s' e goal
