-- Where a goal has no tree, a chart refutes it.
use Rattle.std.proofs.Common.{◌≡◌, ℕ, zero, suc, ◌+◌, ◌*◌, ◌/◌, ◌%◌, ◌^◌, ◌<◌, max, Bool, false, ◌&&◌, T, ◌⊎◌, [], ◌∷◌, length, get_or, refl, inl, inr, ⊎_elim, arith}
use native.Mathlib.Decide.{ℕ_discrete, dec_lt}
use lib.Bits.{bit_or}
use Rattle.std.proofs.lemmas.Nat.{mul-add-lt, div-mul-add, mod-mul-add}
use Rattle.logic.specs.Sets.{Has, Within, mask}
use Rattle.logic.specs.Rules.{Book, blank, head_of, bodies_of, WellFormed, supposing, rule_of}
use Rattle.logic.specs.Charts.{Chart, Lawful, Follows, Carries, Holds}
use Rattle.logic.specs.Theorems.{GoalTree, Refuted, Decided, Complete}
use Rattle.logic.proofs.Sets.{Member, has_right, has_within, member_has, member_below, or_grows, within_self, within_join, within_trans}
use Rattle.logic.proofs.Rules.{by_bodies, bodies_recorded, supposing_lt}
use Rattle.logic.proofs.Sound.{all_hold, each_holds, holds_as, holds_by}
use Rattle.logic.proofs.Tests.{yes_both, both_yes, is_yes, dec_T, all_from, at_rest}
use Rattle.logic.proofs.Heights.{body_passes, step_rule, succeeds, succeeds_more, tree_of}

-- ---- a bound on the names of a book and a goal

pub names : Book → ℕ → ℕ
names [] g = suc g
names (e ∷ es) g = max (suc e.head) (names es g)

pub goal_named : (book : Book) (g : ℕ) → g < names book g
unfolding names
goal_named [] g = omega arith
goal_named (e ∷ es) g = omega (arith, goal_named es g)

pub head_named : (book : Book) (g r : ℕ) → head_of book r < names book g
unfolding names head_of
head_named [] g r = omega arith
head_named (e ∷ es) g zero = omega arith
head_named (e ∷ es) g (suc r) = let l : (get_or es r blank).head < names es g = head_named es g r in omega arith

-- ---- a height that is enough

-- one more level gives no more, at the sets of the book and the names below k
unfoldable pub Enough : Book → Bool → ℕ → ℕ → ℕ → Type 0
Enough book restart g k h = (S x : ℕ) → S < 2 ^ length book → x < k → T (succeeds book restart g (suc h) S x) → T (succeeds book restart g h S x)

pub enough : (book : Book) (restart : Bool) (g k : ℕ) → (h : ℕ) × Enough book restart g k h
unfolding Enough
enough book restart g k =
    let n : ℕ = k * 2 ^ length book in
    let F : ℕ → ℕ → Bool = λ h i. succeeds book restart g h (i / k) (i % k) in
    let rest = at_rest n F (λ h i. succeeds_more book restart g h (suc h) (omega arith) (i / k) (i / k) (i % k) (within_self (i / k))) n 0 (omega arith) in (
      rest.0,
      λ S x l m t.
          let a : (S * k + x) / k ≡ S = div-mul-add S k x m in
          let b : (S * k + x) % k ≡ x = mod-mul-add S k x m in
          rw (a, b) at (rest.1 (S * k + x) (mul-add-lt S k x (2 ^ length book) l m) (rw (a, b) t)),
    )

-- ---- the chart of all sets: a release is a set of records, and carries what succeeds from it

module _ (book : Book) (wf : WellFormed book) (g h : ℕ) (is_enough : Enough book false g (names book g) h) where
  abbrev sets : Chart
  sets = record {
    size = 2 ^ length book;
    follows = λ w v. is_yes (ℕ_discrete (bit_or w v) v) && is_yes (dec_lt v (2 ^ length book));
    carries = λ v x. succeeds book false g h v x;
  }

  follows_by : (w v : ℕ) → Within w v → v < 2 ^ length book → Follows sets w v
  follows_by w v i l = yes_both (ℕ_discrete (bit_or w v) v) (dec_lt v (2 ^ length book)) i l

  followed : (w v : ℕ) → Follows sets w v → Within w v × (v < 2 ^ length book)
  followed w v f = both_yes (ℕ_discrete (bit_or w v) v) (dec_lt v (2 ^ length book)) f

  sets_lawful : Lawful sets
  sets_lawful = record {
    inside = λ w v f. let (within, l) = followed w v f in (omega (arith, or_grows w v, within, l), l);
    itself = λ w l. follows_by w w (within_self w) l;
    onward = λ u v w f k. follows_by u w (within_trans u v w (followed u v f).0 (followed v w k).0) (followed v w k).1;
    keeps = λ w v x f t. succeeds_more book false g h h (omega arith) w v x (followed w v f).0 t;
  }

  -- a record that is in a set holds there
  Own : ℕ → Type 0
  Own r = (S : ℕ) → S < 2 ^ length book → r < length book → Has S r → Holds sets S (rule_of book r)

  -- where a record holds, its head succeeds once its bodies are put in force
  Tight : ℕ → Type 0
  Tight r = (S : ℕ) → S < 2 ^ length book → Holds sets S (rule_of book r) → Carries sets (supposing book S r) (head_of book r)

  own : (r : ℕ) → ((b : ℕ) → Member b (bodies_of book r) → Tight b) → Own r
  unfolding Own Tight succeeds Enough
  own r tights S l rec has =
      holds_by book wf sets S r
      (λ v f all. is_enough v (head_of book r) (followed S v f).1 (head_named book g r)
      (step_rule book false g (succeeds book false g h) v (head_of book r) r
      (record { recorded = rec; in_force = has_within S v r (followed S v f).0 has; heads = refl })
      (all_from (body_passes book (succeeds book false g h) v) (bodies_of book r)
      (λ b m. tights b m v (followed S v f).1 (each_holds sets v (rule_of book) all m)))))

  tight : (r : ℕ) → ((b : ℕ) → Member b (bodies_of book r) → Own b) → Tight r
  unfolding Own Tight supposing
  tight r owned S l holds =
      let V = supposing book S r in
      let m = supposing_lt book wf S r l in
      holds_as book wf sets S r holds V (follows_by S V (within_join S (mask (bodies_of book r))) m)
      (all_hold sets V (rule_of book) (bodies_of book r)
      (λ b k. owned b k V m (member_below (length book) (bodies_recorded book wf r) k) (has_right S (mask (bodies_of book r)) b (member_has k))))

  both_of : (r : ℕ) → Own r × Tight r
  both_of = by_bodies book wf (λ r. Own r × Tight r) (λ r h. (own r (λ b m. (h b m).1), tight r (λ b m. (h b m).0)))

  -- the chart refutes each goal that has the head g, and that does not succeed
  refutes : (S q : ℕ) → S < 2 ^ length book → (Carries sets (supposing book S q) (head_of book q) → ⊥) → Refuted book S q
  unfolding Own Tight
  refutes S q l none =
      record {
        chart = sets;
        lawful = sets_lawful;
        release = S;
        released = l;
        in_force = λ r k has. (both_of r).0 S l k has;
        fails = λ holds. none ((both_of q).1 S l holds);
      }

pub decided : Decided
decided book wf S q l = go (dec_T (succeeds book false g h (supposing book S q) g))
  where
    g : ℕ
    g = head_of book q

    enough_of : (h : ℕ) × Enough book false g (names book g) h
    enough_of = enough book false g (names book g)

    h : ℕ
    h = enough_of.0

    go : Dec (T (succeeds book false g h (supposing book S q) g)) → GoalTree book false S q ⊎ Refuted book S q
    go (yes t) = inl (tree_of book false g h (supposing book S q) g t)
    go (no none) = inr (refutes book wf g h enough_of.1 S q l none)

pub complete : Complete
complete book wf S q l none = ⊎_elim (λ t. absurd (none t)) (λ r. r) (decided book wf S q l)
