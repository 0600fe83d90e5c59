-- The records of a stored rule stand for it, so what the search answers of records is right of the rules.
use Rattle.std.proofs.Common.{◌≡◌, ℕ, zero, suc, ◌^◌, ◌<◌, ◌≤◌, List, [], ◌∷◌, ◌++◌, length, get_or, sym, refl, ap, ◌∙◌, subst, ap₂, not-suc-le-zero, arith}
use mathlib.Core.Logic.{by_cases}
use native.Mathlib.Decide.{dec_lt}
use Rattle.std.proofs.lemmas.List.{get_or_append_left, get_or_push, length_push}
use Rattle.logic.specs.Sets.{AllBelow, mask}
use Rattle.logic.specs.Rules.{Rule, Rules, rule, none, more, Record, Book, blank, head_of, bodies_of, WellFormed, each, rule_at, rule_of}
use Rattle.logic.specs.Charts.{Chart, Holds, AllHold, SetHolds}
use Rattle.logic.specs.Store.{store, number_of, stores, numbers, book_of, Follow, Breaks, RulesRight, RestartRulesRight, RulesSound}
use Rattle.logic.specs.Theorems.{Refuted}
use Rattle.logic.proofs.Sets.{below_more, mask_lt, has_member, member_has, member_below}
use Rattle.logic.proofs.Rules.{each_same, rule_of_is}
use Rattle.logic.proofs.Sound.{all_hold, each_holds, goal_sound, restart_sound}
use Rattle.logic.proofs.SearchRight.{search_right, restart_search_right}

-- ---- a longer book

-- the records of `book` stand first in `big`
pub record Extends (book big : Book) : Type 0 where
  pub longer : length book ≤ length big
  pub same : (r : ℕ) → r < length book → get_or big r blank ≡ get_or book r blank

extends_self : (book : Book) → Extends book book
extends_self book = record { longer = omega arith; same = λ r l. refl }

extends_trans : {a b c : Book} → Extends a b → Extends b c → Extends a c
extends_trans p q = record {
  longer = omega (arith, p.longer, q.longer);
  same = λ r l. q.same r (omega (arith, p.longer)) ∙ p.same r l;
}

extends_push : (book : Book) (e : Record) → Extends book (book ++ e ∷ [])
extends_push book e = record {
  longer = omega (arith, length_push book e);
  same = λ r l. get_or_append_left book (e ∷ []) blank r l;
}

-- a record of the shorter book stands for the same rule in both
module _ {book big : Book} (wf : WellFormed book) (ext : Extends book big) where
  same_at : (n r : ℕ) → r < length book → rule_at big n r ≡ rule_at book n r
  unfolding rule_at head_of bodies_of
  same_at zero r l = ap (λ (e : Record). rule e.head none) (ext.same r l)
  same_at (suc n) r l =
      ap (λ (e : Record). rule e.head (each (rule_at big n) e.bodies)) (ext.same r l)
      ∙ ap (rule (head_of book r))
      (each_same (rule_at big n) (rule_at book n) r (λ b k. same_at n b (omega arith)) (bodies_of book r) (wf r l))

  pub same_rule : (r : ℕ) → r < length book → rule_of big r ≡ rule_of book r
  unfolding rule_of
  same_rule r l = same_at r r l

  pub same_rules : (bs : List ℕ) → AllBelow (length book) bs → each (rule_of big) bs ≡ each (rule_of book) bs
  same_rules bs h = each_same (rule_of big) (rule_of book) (length book) same_rule bs h

-- ---- a book with one more record

module _ (book : Book) (wf : WellFormed book) (e : Record) (below : AllBelow (length book) e.bodies) where
  abbrev pushed : Book
  pushed = book ++ e ∷ []

  last_is : get_or pushed (length book) blank ≡ e
  last_is = get_or_push book e blank (length book) refl

  push_formed : WellFormed pushed
  unfolding bodies_of
  push_formed r l =
      by_cases (dec_lt r (length book))
      (λ k. subst (λ (x : Record). AllBelow r x.bodies) (sym ((extends_push book e).same r k)) (wf r k))
      (λ k.
      let is : r ≡ length book = omega (arith, length_push book e) in
      subst (λ (n : ℕ). AllBelow n (get_or pushed n blank).bodies) (sym is)
      (subst (λ (x : Record). AllBelow (length book) x.bodies) (sym last_is) below))

  push_rule : rule_of pushed (length book) ≡ rule e.head (each (rule_of book) e.bodies)
  unfolding head_of bodies_of
  push_rule =
      rule_of_is pushed push_formed (length book)
      ∙ ap (λ (x : Record). rule x.head (each (rule_of pushed) x.bodies)) last_is
      ∙ ap (rule e.head) (same_rules wf (extends_push book e) e.bodies below)

-- ---- stored rules

pub record Stored (book : Book) (r : Rule) : Type 0 where
  pub formed : WellFormed (store book r)
  pub extends : Extends book (store book r)
  pub last : number_of book r < length (store book r)
  pub is : rule_of (store book r) (number_of book r) ≡ r

record AllStored (book : Book) (rs : Rules) : Type 0 where
  formed : WellFormed (stores book rs)
  extends : Extends book (stores book rs)
  below : AllBelow (length (stores book rs)) (numbers book rs)
  are : each (rule_of (stores book rs)) (numbers book rs) ≡ rs

mutual
  unfolding store

  stored : (book : Book) → WellFormed book → (r : Rule) → Stored book r
  stored book wf (rule h bs) =
      let a = all_stored book wf bs in
      let e : Record = record { head = h; bodies = numbers book bs } in
      record {
        formed = push_formed (stores book bs) a.formed e a.below;
        extends = extends_trans a.extends (extends_push (stores book bs) e);
        last = omega (arith, length_push (stores book bs) e);
        is = push_rule (stores book bs) a.formed e a.below ∙ ap (rule h) a.are;
      }

  all_stored : (book : Book) → WellFormed book → (rs : Rules) → AllStored book rs
  all_stored book wf none = record { formed = wf; extends = extends_self book; below = tt; are = refl }
  all_stored book wf (more r rs) =
      let s = stored book wf r in
      let a = all_stored (store book r) s.formed rs in
      record {
        formed = a.formed;
        extends = extends_trans s.extends a.extends;
        below = (omega (arith, s.last, a.extends.longer), a.below);
        are = ap₂ more (same_rule s.formed a.extends (number_of book r) s.last ∙ s.is) a.are;
      }

-- ---- the rules in force and the goal

nothing_formed : WellFormed []
nothing_formed r l = absurd (not-suc-le-zero l)

module _ (rules : Rules) (goal : Rule) where
  forces : AllStored [] rules
  forces = all_stored [] nothing_formed rules

  pub goal_stored : Stored (stores [] rules) goal
  goal_stored = stored (stores [] rules) forces.formed goal

  abbrev book : Book
  book = book_of rules goal

  in_force_are : each (rule_of book) (numbers [] rules) ≡ rules
  in_force_are = same_rules forces.formed goal_stored.extends (numbers [] rules) forces.below ∙ forces.are

  below_all : AllBelow (length book) (numbers [] rules)
  below_all = below_more (length (stores [] rules)) (length book) goal_stored.extends.longer (numbers [] rules) forces.below

  pub to_set : (chart : Chart) (w : ℕ) → AllHold chart w rules → SetHolds book chart w (mask (numbers [] rules))
  to_set chart w all r l h =
      each_holds chart w (rule_of book) (subst (AllHold chart w) (sym in_force_are) all) (has_member r (numbers [] rules) h)

  pub from_set : (chart : Chart) (w : ℕ) → SetHolds book chart w (mask (numbers [] rules)) → AllHold chart w rules
  from_set chart w h =
      subst (AllHold chart w) in_force_are
      (all_hold chart w (rule_of book) (numbers [] rules) (λ b m. h b (member_below (length book) below_all m) (member_has m)))

  -- ---- what is said of the set and the record, said of the rules and the goal

  abbrev set : ℕ
  set = mask (numbers [] rules)

  abbrev asked : ℕ
  asked = number_of (stores [] rules) goal

  small : set < 2 ^ length book
  small = mask_lt (length book) (numbers [] rules) below_all

  goal_holds : (chart : Chart) (w : ℕ) → (SetHolds book chart w set → Holds chart w (rule_of book asked)) → AllHold chart w rules → Holds chart w goal
  goal_holds chart w h all = subst (Holds chart w) goal_stored.is (h (to_set chart w all))

  -- the only release is the first
  goal_follows : (chart : Chart) → chart.size ≡ 1 → (SetHolds book chart 0 set → Holds chart 0 (rule_of book asked)) → Follow chart rules goal
  goal_follows chart one h w l =
      let first : w ≡ 0 = omega arith in
      rw first (goal_holds chart 0 h)

  breaks : (c : Refuted book set asked) → Breaks c.chart rules goal
  breaks c = record {
    release = c.release;
    released = c.released;
    rules_hold = from_set c.chart c.release c.in_force;
    goal_fails = λ h. c.fails (subst (Holds c.chart c.release) (sym goal_stored.is) h);
  }

pub rules_right : RulesRight
rules_right rules goal budget k =
    let right = search_right (book rules goal) (goal_stored rules goal).formed (set rules goal) (asked rules goal) budget k (small rules goal) in (
      λ t a chart law w l. goal_holds rules goal chart w (right.0 t a chart law w l),
      λ a. let c = right.1 a in (c.chart, c.lawful, breaks rules goal c),
    )

pub restart_rules_right : RestartRulesRight
restart_rules_right rules goal budget k =
    let right = restart_search_right (book rules goal) (goal_stored rules goal).formed (set rules goal) (asked rules goal) budget k (small rules goal) in (
      λ t a chart law one. goal_follows rules goal chart one (right.0 t a chart law one),
      λ a. let (c, one) = right.1 a in (c.chart, c.lawful, one, breaks rules goal c),
    )

pub rules_sound : RulesSound
rules_sound = record {
  ever = λ rules goal tree chart law w l.
      goal_holds rules goal chart w (goal_sound (book rules goal) (goal_stored rules goal).formed (set rules goal) (asked rules goal) tree chart law w l);
  now = λ rules goal tree chart law one.
      goal_follows rules goal chart one
      (restart_sound (book rules goal) (goal_stored rules goal).formed (set rules goal) (asked rules goal) tree chart law one);
}
