-- The law holds.
use Rattle.std.proofs.Common.{◌≡◌, ℕ, ◌-◌, ◌<◌, ◌≤◌, Bool, true, false, cond, ◌&&◌, T, ltb, leb, List, [], ◌∷◌, ◌++◌, length, take, sym, refl, ap, ◌∙◌, subst, arith}
use Rattle.std.proofs.lemmas.Bool.{leb-true, ltb-true, leb-false, le-leb, lt-ltb, cond_both}
use mathlib.Core.Option.{none}
use lib.Seq.{take-append_seam}
use Rattle.logic.specs.Rules.{Rule, Rules}
use Rattle.logic.specs.Charts.{Chart, Lawful, Holds}
use Rattle.logic.specs.Search.{Setting, Outcome, succeeded, failed}
use Rattle.logic.specs.Store.{book_of, RulesAsked, RulesTree, Breaks}
use Rattle.logic.proofs.Check.{check_right}
use Rattle.logic.proofs.Success.{success_right}
use Rattle.logic.proofs.Failure.{failure_right}
use Rattle.logic.proofs.Store.{rules_right, restart_rules_right, rules_sound}
use Rattle.reader.specs.Written.{Kind}
use Rattle.law.specs.Limits.{largest_budget, tree_bytes}
use Rattle.law.specs.Calls.{Call, ask, check, look, Answer, refused, long, accepted, told, handed, Tally, unless_refused}
use Rattle.law.specs.Defined.{unless, refusal_of, zeros, found, filled, goal_query, TreeOf, Checked, accepts, standing, Goal, entering, Says, Defined, refuses, answers, next}
use Rattle.law.specs.Runs.{Event, IsRefused, Run}
use Rattle.law.specs.Law as law
use Rattle.law.specs.Law.{LawHolds, TreeFor, Occurs}
use Rattle.law.proofs.Refusals.{passes, unless_none, or_none, none_or, passed_unless}
use Rattle.law.proofs.OneAnswer.{goal_same, one}
use Rattle.law.proofs.Runs.{Step, happened, unrefused, stays, past, next_step}

-- ---- which end of the search an answer tells

abbrev IsYes : Answer → Type 0
IsYes (Answer.yes k n) = Unit {0}
IsYes _ = ⊥

abbrev IsNo : Answer → Type 0
IsNo (Answer.no k) = Unit {0}
IsNo _ = ⊥

abbrev IsLong : Answer → Type 0
IsLong (long k n) = Unit {0}
IsLong _ = ⊥

abbrev length_in : Answer → ℕ
length_in (Answer.yes k n) = n
length_in (long k n) = n
length_in _ = 0

abbrev tests_in : Answer → Bool × Bool
tests_in (told a b) = (a, b)
tests_in _ = (false, false)

-- the search found a tree, which fills the front of the buffer
record Tells (out : Outcome) (buffer : List ℕ) (n : ℕ) (b : List ℕ) : Type 0 where
  tree : List ℕ
  is : out ≡ succeeded tree
  fits : length tree ≤ length buffer
  front : take n b ≡ tree

yes_tells : (buffer : List ℕ) (out : Outcome) (j k n : ℕ) (b : List ℕ) → Answer.yes k n ≡ found buffer out j → b ≡ filled buffer out
    → Tells out buffer n b
yes_tells buffer (succeeded t) j k n b ea eb = go (leb (length t) (length buffer)) refl ea eb
  where
    go : (x : Bool) → leb (length t) (length buffer) ≡ x → Answer.yes k n ≡ cond x (Answer.yes j (length t)) (long j (length t))
        → b ≡ cond x (t ++ zeros (length buffer - length t)) (zeros (length buffer)) → Tells (succeeded t) buffer n b
    go true e ea' eb' = record {
      tree = t;
      is = refl;
      fits = leb-true (length t) (length buffer) e;
      front = ap (λ (m : ℕ). take m b) (ap length_in ea') ∙ ap (take (length t)) eb' ∙ take-append_seam t (zeros (length buffer - length t));
    }
    go false e ea' eb' = absurd (subst IsYes ea' tt)
yes_tells buffer _ j k n b ea eb = absurd (subst IsYes ea tt)

no_tells : (buffer : List ℕ) (out : Outcome) (j k : ℕ) → Answer.no k ≡ found buffer out j → out ≡ failed
no_tells buffer (succeeded t) j k ea =
    absurd (cond_both (leb (length t) (length buffer)) (Answer.yes j (length t)) (long j (length t)) (λ a. IsNo a → ⊥) (λ e n. n) (λ e n. n) (subst IsNo ea tt))
no_tells buffer failed j k ea = refl
no_tells buffer Outcome.spent j k ea = absurd (subst IsNo ea tt)

-- the search found a tree, for which the buffer is too short
record TellsLong (out : Outcome) (buffer : List ℕ) (n : ℕ) : Type 0 where
  tree : List ℕ
  is : out ≡ succeeded tree
  over : length buffer < length tree
  long_is : length tree ≡ n

long_tells : (buffer : List ℕ) (out : Outcome) (j k n : ℕ) → long k n ≡ found buffer out j → TellsLong out buffer n
long_tells buffer (succeeded t) j k n ea =
    cond_both (leb (length t) (length buffer)) (Answer.yes j (length t)) (long j (length t)) (λ a. long k n ≡ a → TellsLong (succeeded t) buffer n)
    (λ e ea'. absurd (subst IsLong ea' tt))
    (λ e ea'. record { tree = t; is = refl; over = leb-false (length t) (length buffer) e; long_is = sym (ap length_in ea') }) ea
long_tells buffer _ j k n ea = absurd (subst IsLong ea tt)

-- ---- trees and bytes

setting : Bool → Rules → Rule → ℕ → Setting
setting restart rules goal budget = record { book = book_of rules goal; restart = restart; goal = (goal_query rules goal).name; budget = budget }

found_tree : (restart : Bool) (rules : Rules) (goal : Rule) (budget k : ℕ) (t : List ℕ)
    → RulesAsked restart rules goal budget (succeeded t) k → TreeOf restart rules goal t
unfolding setting
found_tree restart rules goal budget k t d =
    (check_right (book_of rules goal) restart (goal_query rules goal).name (goal_query rules goal) t).1
    (success_right (setting restart rules goal budget) [] (goal_query rules goal) 0 k t d)

tree_read : (restart : Bool) (rules : Rules) (goal : Rule) (t : List ℕ) → TreeOf restart rules goal t → RulesTree restart rules goal
tree_read restart rules goal t tree = ((check_right (book_of rules goal) restart (goal_query rules goal).name (goal_query rules goal) t).0 tree).0

no_tree_found : (restart : Bool) (rules : Rules) (goal : Rule) (budget k : ℕ) (t : List ℕ)
    → RulesAsked restart rules goal budget failed k → TreeOf restart rules goal t → ⊥
unfolding setting
no_tree_found restart rules goal budget k t d tree =
    failure_right (setting restart rules goal budget) (goal_query rules goal) 0 k d (tree_read restart rules goal t tree)

accepted_tree : {restart : Bool} {rules : Rules} {goal : Rule} {t : List ℕ} → Checked restart rules goal t accepted → TreeOf restart rules goal t
accepted_tree (accepts w) = w

module _ {K : Type 0} (kind : Kind K) (slots : ℕ) where
  -- a goal that is entered is not refused
  entering_none : (t : Tally) (w : List ℕ) (goal : Rule) → Goal kind slots t w goal → entering kind slots t w ≡ none
  entering_none t w goal g = ap refusal_of g.1

  -- ---- what look tells

  abbrev Broken : Tally → List ℕ → Chart → ℕ → Type 0
  Broken t w chart release = law.BreaksAt kind slots t w chart release

  record Told (t : Tally) (goal : Rule) (chart : Chart) (release : ℕ) : Type 0 where
    released : release < chart.size
    rules_hold : Rattle.logic.specs.Charts.AllHold chart release (standing kind slots t).rules
    goal_fails : Holds chart release goal → ⊥

  look_told : (t : Tally) (w : List ℕ) (goal : Rule) (chart : Chart) (release : ℕ) → Goal kind slots t w goal → Broken t w chart release
      → Told t goal chart release
  look_told t w goal chart release g d =
      let (e, (goal', g', all, one', ha, ho, ea, eb)) = unrefused kind slots d (λ x. x) in
      let same = goal_same kind slots t w goal goal' g g' in
      let here = (or_none (entering kind slots t w) (unless (ltb release chart.size) 34) e).1 in record {
        released = ltb-true release chart.size (unless_none (ltb release chart.size) 34 here);
        rules_hold = ha.0 (passes (sym (ap (λ (x : Answer). (tests_in x).0) ea)));
        goal_fails = λ h. subst T (sym (ap (λ (x : Answer). (tests_in x).1) ea)) (ho.1 (subst (Holds chart release) same h));
      }

  look_tells : (t : Tally) (w : List ℕ) (goal : Rule) (chart : Chart) → Goal kind slots t w goal
      → (br : Breaks chart (standing kind slots t).rules goal) → Broken t w chart br.release
  look_tells t w goal chart g br =
      answers (none_or (entering_none t w goal g) (passed_unless 34 (lt-ltb br.release chart.size br.released)))
      (goal, g, true, false, (λ x. br.rules_hold, λ x. tt), (λ x. absurd x, br.goal_fails), refl, refl)

  -- ---- where a tree stands, no lawful chart breaks the goal

  tree_holds : (t : Tally) (w tree : List ℕ) → TreeFor kind slots t w false tree
      → (chart : Chart) → Lawful chart → (release : ℕ) → Broken t w chart release → ⊥
  tree_holds t w tree (goal, g, answered) chart lawful release d =
      let rules = (standing kind slots t).rules in
      let l = look_told t w goal chart release g d in
      l.goal_fails (rules_sound.ever rules goal (tree_read false rules goal tree answered) chart lawful release l.released l.rules_hold)

  tree_holds_now : (t : Tally) (w tree : List ℕ) (restart : Bool) → TreeFor kind slots t w restart tree
      → (chart : Chart) → Lawful chart → chart.size ≡ 1 → (release : ℕ) → Broken t w chart release → ⊥
  tree_holds_now t w tree false tf chart lawful one_release release d = tree_holds t w tree tf chart lawful release d
  tree_holds_now t w tree true (goal, g, answered) chart lawful one_release release d =
      let rules = (standing kind slots t).rules in
      let l = look_told t w goal chart release g d in
      l.goal_fails
      (rules_sound.now rules goal (tree_read true rules goal tree answered) chart lawful one_release release l.released l.rules_hold)

  -- ---- what happens in a run

  occurred : (t : Tally) (c : Call) (a : Answer) (b : List ℕ) (rest : List Event) → Occurs kind slots t c a b rest
      → Step kind slots t (record { call = c; answer = a; buffer = b }) rest
  occurred t c a b rest (run, r, h) = happened kind slots r h

  accepted_for : (t : Tally) (w tree : List ℕ) (restart : Bool) (b : List ℕ) → Defined kind slots t (check w tree restart) accepted b
      → TreeFor kind slots t w restart tree
  accepted_for t w tree restart b d =
      let (e, (goal, g, checked, eb)) = unrefused kind slots d (λ x. x) in
      (goal, g, accepted_tree checked)

  -- a yes: the goal, and the tree that was found
  record Found (t : Tally) (w buffer : List ℕ) (restart : Bool) (n : ℕ) (b : List ℕ) : Type 0 where
    small : length (take n b) ≤ tree_bytes
    tree : TreeFor kind slots t w restart (take n b)

  yes_found : (t : Tally) (w : List ℕ) (budget : ℕ) (buffer : List ℕ) (restart : Bool) (k n : ℕ) (b : List ℕ)
      → Defined kind slots t (ask w budget buffer restart) (Answer.yes k n) b → Found t w buffer restart n b
  yes_found t w budget buffer restart k n b d =
      let (e, (goal, g, out, j, asked, ea, eb)) = unrefused kind slots d (λ x. x) in
      let rules = (standing kind slots t).rules in
      let tells = yes_tells buffer out j k n b ea eb in
      let asked' = subst (λ (o : Outcome). RulesAsked restart rules goal budget o j) tells.is asked in
      let room = (or_none (unless (leb 1 budget && leb budget largest_budget) 32) _ e).1 in
      let short = leb-true (length buffer) tree_bytes (unless_none (leb (length buffer) tree_bytes) 33 (or_none _ (entering kind slots t w) room).0) in
      record {
        small = subst (λ (bs : List ℕ). length bs ≤ tree_bytes) (sym tells.front) (omega (arith, short, tells.fits));
        tree = (goal, g, subst (TreeOf restart rules goal) (sym tells.front) (found_tree restart rules goal budget j tells.tree asked'));
      }

  -- so the check of that tree is accepted at this tally
  found_accepted : (t : Tally) (w buffer : List ℕ) (restart : Bool) (n : ℕ) (b : List ℕ) → Found t w buffer restart n b
      → Defined kind slots t (check w (take n b) restart) accepted []
  found_accepted t w buffer restart n b f =
      let (goal, g, tree) = f.tree in
      answers (none_or (passed_unless 33 (le-leb (length (take n b)) tree_bytes f.small)) (entering_none t w goal g))
      (goal, g, accepts tree, refl)

  long_found : (t : Tally) (w : List ℕ) (budget : ℕ) (buffer : List ℕ) (restart : Bool) (k n : ℕ) (b : List ℕ)
      → Defined kind slots t (ask w budget buffer restart) (long k n) b
      → (tree : List ℕ) × TreeFor kind slots t w restart tree × (length tree ≡ n) × (length buffer < n)
  long_found t w budget buffer restart k n b d =
      let (e, (goal, g, out, j, asked, ea, eb)) = unrefused kind slots d (λ x. x) in
      let rules = (standing kind slots t).rules in
      let tells = long_tells buffer out j k n ea in
      let asked' = subst (λ (o : Outcome). RulesAsked restart rules goal budget o j) tells.is asked in
      (tells.tree, (goal, g, found_tree restart rules goal budget j tells.tree asked'), tells.long_is, omega (arith, tells.over, tells.long_is))

  -- a no: the goal, and the search that failed
  record Missed (t : Tally) (w : List ℕ) (budget : ℕ) (restart : Bool) : Type 0 where
    goal : Rule
    is : Goal kind slots t w goal
    count : ℕ
    asked : RulesAsked restart (standing kind slots t).rules goal budget failed count

  no_missed : (t : Tally) (w : List ℕ) (budget : ℕ) (buffer : List ℕ) (restart : Bool) (k : ℕ) (b : List ℕ)
      → Defined kind slots t (ask w budget buffer restart) (Answer.no k) b → Missed t w budget restart
  no_missed t w budget buffer restart k b d =
      let (e, (goal, g, out, j, asked, ea, eb)) = unrefused kind slots d (λ x. x) in
      let rules = (standing kind slots t).rules in
      record {
        goal = goal;
        is = g;
        count = j;
        asked = subst (λ (o : Outcome). RulesAsked restart rules goal budget o j) (no_tells buffer out j k ea) asked;
      }

-- ---- refusals

found_unrefused : (buffer : List ℕ) (out : Outcome) (k : ℕ) → IsRefused (found buffer out k) → ⊥
found_unrefused buffer (succeeded t) k =
    cond_both (leb (length t) (length buffer)) (Answer.yes k (length t)) (long k (length t)) (λ a. IsRefused a → ⊥) (λ e h. h) (λ e h. h)
found_unrefused buffer _ k = λ h. h

checked_unrefused : {restart : Bool} {rules : Rules} {goal : Rule} {bs : List ℕ} {a : Answer} → Checked restart rules goal bs a → IsRefused a → ⊥
checked_unrefused (accepts w) h = h
checked_unrefused _ h = h

module _ {K : Type 0} (kind : Kind K) (slots : ℕ) where
  -- what is not refused answers something else
  says_unrefused : (t : Tally) (c : Call) (a : Answer) (b : List ℕ) → Says kind slots t c a b → IsRefused a → ⊥
  says_unrefused t (ask w budget buffer restart) a b (goal, g, out, k, d, ea, eb) h = found_unrefused buffer out k (subst IsRefused ea h)
  says_unrefused t (check w tree restart) a b (goal, g, d, eb) h = checked_unrefused d h
  says_unrefused t (look w chart release) a b (goal, g, all, one', ha, ho, ea, eb) h = subst IsRefused ea h
  says_unrefused t _ a b s h = subst IsRefused s.0 h

  leaves : (t : Tally) (c : Call) (a : Answer) (b : List ℕ) → Defined kind slots t c a b → IsRefused a → (next kind slots t c ≡ t) × (b ≡ handed c)
  leaves t c a b (refuses e) h = (ap (unless_refused t c) e, refl)
  leaves t c a b (answers e s) h = absurd (says_unrefused t c a b s h)

pub law_holds : (K : Type 0) → LawHolds K
law_holds K kind slots = record {
  refused_leaves = λ t c f b rest o. leaves kind slots t c (refused f) b (occurred kind slots t c (refused f) b rest o).defined tt;
  accepted_holds = λ t w tree restart b rest o tf chart lawful release d. tree_holds kind slots t w tree tf chart lawful release d;
  accepted_holds_now = λ t w tree restart b rest o chart lawful one_release release d.
      let s = occurred kind slots t (check w tree restart) accepted b rest o in
      tree_holds_now kind slots t w tree restart (accepted_for kind slots t w tree restart b s.defined) chart lawful one_release release d;
  accepted_plain = λ t w tree b rest o.
      accepted_for kind slots t w tree false b (occurred kind slots t (check w tree false) accepted b rest o).defined;
  no_breaks = λ t w budget buffer k b rest o.
      let m = no_missed kind slots t w budget buffer false k b (occurred kind slots t (ask w budget buffer false) (Answer.no k) b rest o).defined in
      let (chart, lawful, br) = (rules_right (standing kind slots t).rules m.goal budget m.count).1 m.asked in
      (chart, lawful, br.release, br.released, look_tells kind slots t w m.goal chart m.is br);
  no_breaks_now = λ t w budget buffer k b rest o.
      let m = no_missed kind slots t w budget buffer true k b (occurred kind slots t (ask w budget buffer true) (Answer.no k) b rest o).defined in
      let (chart, lawful, one_release, br) = (restart_rules_right (standing kind slots t).rules m.goal budget m.count).1 m.asked in
      (chart, lawful, one_release, br.release, br.released, look_tells kind slots t w m.goal chart m.is br);
  yes_checks = λ t w budget buffer restart k n b between a b' others o keep.
      let e : Event = record { call = check w (take n b) restart; answer = a; buffer = b' } in
      let s = occurred kind slots t (ask w budget buffer restart) (Answer.yes k n) b (between ++ e ∷ others) o in
      let same = stays kind slots t (ask w budget buffer restart) (Answer.yes k n) b s.takes s.takes s.defined tt in
      let run = subst (λ (u : Tally). Run kind slots u (between ++ e ∷ others)) same s.follows in
      let later = next_step kind slots (past kind slots t between (e ∷ others) s.takes keep run) in
      let f = yes_found kind slots t w budget buffer restart k n b s.defined in
      (one kind slots t (check w (take n b) restart) a accepted b' [] later.defined (found_accepted kind slots t w buffer restart n b f)).0;
  yes_tree = λ t w budget buffer restart k n b rest o.
      (yes_found kind slots t w budget buffer restart k n b (occurred kind slots t (ask w budget buffer restart) (Answer.yes k n) b rest o).defined).tree;
  long_tree = λ t w budget buffer restart k n b rest o.
      long_found kind slots t w budget buffer restart k n b (occurred kind slots t (ask w budget buffer restart) (long k n) b rest o).defined;
  no_tree = λ t w budget buffer restart k b rest o tree tf.
      let m = no_missed kind slots t w budget buffer restart k b (occurred kind slots t (ask w budget buffer restart) (Answer.no k) b rest o).defined in
      let rules = (standing kind slots t).rules in
      let (goal, g, answered) = tf in
      no_tree_found restart rules m.goal budget m.count tree m.asked
      (subst (λ (r : Rule). TreeOf restart rules r tree) (goal_same kind slots t w goal m.goal g m.is) answered);
}
