-- Where a goal has no tree with restart, a chart of a single release refutes it.
use Rattle.std.proofs.Common.{◌≡◌, ℕ, zero, suc, ◌+◌, ◌^◌, ◌<◌, ◌≤◌, Bool, true, ◌&&◌, T, ◌⊎◌, length, sym, refl, subst, inl, inr, ⊎_elim, arith}
use native.Mathlib.Decide.{ℕ_discrete}
use Rattle.logic.specs.Sets.{Has, Within, mask}
use Rattle.logic.specs.Rules.{Book, head_of, bodies_of, WellFormed, supposing, each, rule_of}
use Rattle.logic.specs.Charts.{Chart, Lawful, Follows, Carries, Holds, AllHold}
use Rattle.logic.specs.Theorems.{GoalTree, Refuted, RestartDecided, RestartComplete}
use Rattle.logic.proofs.Sets.{Member, has_right, has_within, member_has, member_below, or_grows, within_self, within_join, within_trans}
use Rattle.logic.proofs.Rules.{by_bodies, bodies_recorded, supposing_lt}
use Rattle.logic.proofs.Sound.{all_hold, each_holds, holds_as, holds_by}
use Rattle.logic.proofs.Tests.{found_or_all, yes_both, both_yes, is_yes, dec_T, all_from}
use Rattle.logic.proofs.Heights.{body_passes, step_rule, step_restart, succeeds, tree_of}
use Rattle.logic.proofs.Complete.{names, head_named, Enough, enough}

supposing_within : (book : Book) (S b : ℕ) → Within S (supposing book S b)
unfolding supposing
supposing_within book S b = within_join S (mask (bodies_of book b))

supposing_grows : (book : Book) (S b : ℕ) → S ≤ supposing book S b
unfolding supposing
supposing_grows book S b = or_grows S (mask (bodies_of book b))

supposing_has : (book : Book) (S r b : ℕ) → Member b (bodies_of book r) → Has (supposing book S r) b
unfolding supposing
supposing_has book S r b m = has_right S (mask (bodies_of book r)) b (member_has m)

-- ---- a largest set from which the goal's head does not succeed

module _ (book : Book) (wf : WellFormed book) (P : ℕ → Bool) where
  -- a set that fails the test, and that passes it once the bodies of any record add something
  record Largest (S : ℕ) : Type 0 where
    set : ℕ
    bounded : set < 2 ^ length book
    holds_all : Within S set
    refused : T (P set) → ⊥
    largest : (r : ℕ) → r < length book → (supposing book set r ≡ set) ⊎ T (P (supposing book set r))

  -- the bodies of r add something, and the test is still failed
  abbrev Larger : ℕ → ℕ → Type 0
  Larger S r = ¬ (supposing book S r ≡ S) × ¬ T (P (supposing book S r))

  abbrev Rests : ℕ → ℕ → Type 0
  Rests S r = (supposing book S r ≡ S) ⊎ T (P (supposing book S r))

  larger_or_rests : (S r : ℕ) → Larger S r ⊎ Rests S r
  larger_or_rests S r = go (ℕ_discrete (supposing book S r) S) (dec_T (P (supposing book S r)))
    where
      go : Dec (supposing book S r ≡ S) → Dec (T (P (supposing book S r))) → Larger S r ⊎ Rests S r
      go (yes e) d = inr (inl e)
      go (no e) (yes p) = inr (inr p)
      go (no e) (no p) = inl (e, p)

  largest_from : (fuel S : ℕ) → S < 2 ^ length book → 2 ^ length book ≤ S + fuel → (T (P S) → ⊥) → Largest S
  largest_from zero S l f n = absurd (omega arith)
  largest_from (suc fuel) S l f n =
      ⊎_elim
      (λ i.
      let V = supposing book S i.0 in
      let w = largest_from fuel V (supposing_lt book wf S i.0 l) (omega (arith, supposing_grows book S i.0, i.2.0)) i.2.1 in
      record {
        set = w.set;
        bounded = w.bounded;
        holds_all = within_trans S V w.set (supposing_within book S i.0) w.holds_all;
        refused = w.refused;
        largest = w.largest;
      })
      (λ rests. record { set = S; bounded = l; holds_all = within_self S; refused = n; largest = rests })
      (found_or_all (length book) (Larger S) (Rests S) (larger_or_rests S))

-- ---- the chart of that set alone

module _ (book : Book) (wf : WellFormed book) (g h V : ℕ) (bounded : V < 2 ^ length book) (is_enough : Enough book true g (names book g) h)
    (largest : (r : ℕ) → r < length book → (supposing book V r ≡ V) ⊎ T (succeeds book true g h (supposing book V r) g)) where
  abbrev single : Chart
  single = record {
    size = 1;
    follows = λ w v. is_yes (ℕ_discrete w 0) && is_yes (ℕ_discrete v 0);
    carries = λ w x. succeeds book true g h V x;
  }

  zeros : (w v : ℕ) → Follows single w v → (w ≡ 0) × (v ≡ 0)
  zeros w v f = both_yes (ℕ_discrete w 0) (ℕ_discrete v 0) f

  joined : (w v : ℕ) → w ≡ 0 → v ≡ 0 → Follows single w v
  joined w v p q = yes_both (ℕ_discrete w 0) (ℕ_discrete v 0) p q

  single_lawful : Lawful single
  single_lawful = record {
    inside = λ w v f. omega (arith, zeros w v f);
    itself = λ w l. joined w w (omega arith) (omega arith);
    onward = λ u v w f k. joined u w (zeros u v f).0 (zeros v w k).1;
    keeps = λ w v x f t. t;
  }

  Own : ℕ → Type 0
  Own r = r < length book → Has V r → Holds single 0 (rule_of book r)

  Tight : ℕ → Type 0
  Tight r = r < length book → Holds single 0 (rule_of book r) → T (succeeds book true g h (supposing book V r) (head_of book r))

  -- the bodies of a record whose set is V hold, so its head is carried
  carried : (r : ℕ) → Within (supposing book V r) V → ((b : ℕ) → Member b (bodies_of book r) → Own b)
      → Holds single 0 (rule_of book r) → Carries single 0 (head_of book r)
  unfolding Own
  carried r w owned holds =
      holds_as book wf single 0 r holds 0 (joined 0 0 refl refl)
      (all_hold single 0 (rule_of book) (bodies_of book r)
      (λ b m. owned b m (member_below (length book) (bodies_recorded book wf r) m) (has_within (supposing book V r) V b w (supposing_has book V r b m))))

  own : (r : ℕ) → ((b : ℕ) → Member b (bodies_of book r) → Tight b) → Own r
  unfolding Own Tight succeeds Enough
  own r tights rec has =
      holds_by book wf single 0 r
      (λ v f all. is_enough V (head_of book r) bounded (head_named book g r)
      (step_rule book true g (succeeds book true g h) V (head_of book r) r
      (record { recorded = rec; in_force = has; heads = refl })
      (all_from (body_passes book (succeeds book true g h) V) (bodies_of book r)
      (λ b m. tights b m (member_below (length book) (bodies_recorded book wf r) m)
      (each_holds single 0 (rule_of book) (subst (λ (u : ℕ). AllHold single u (each (rule_of book) (bodies_of book r))) (zeros 0 v f).1 all) m)))))

  tight : (r : ℕ) → ((b : ℕ) → Member b (bodies_of book r) → Own b) → Tight r
  unfolding Own Tight succeeds Enough
  tight r owned rec holds =
      ⊎_elim
      (λ e. subst (λ (n : ℕ). T (succeeds book true g h n (head_of book r))) (sym e)
      (carried r (subst (λ (n : ℕ). Within n V) (sym e) (within_self V)) owned holds))
      (λ t. is_enough (supposing book V r) (head_of book r) (supposing_lt book wf V r bounded) (head_named book g r)
      (step_restart book true g (succeeds book true g h) (supposing book V r) (head_of book r) tt t))
      (largest r rec)

  both_of : (r : ℕ) → Own r × Tight r
  both_of = by_bodies book wf (λ r. Own r × Tight r) (λ r h. (own r (λ b m. (h b m).1), tight r (λ b m. (h b m).0)))

  -- the chart refutes each goal that has the head g, and whose set is within V
  refutes : (S q : ℕ) → head_of book q ≡ g → Within (supposing book S q) V → (T (succeeds book true g h V g) → ⊥)
      → (refuted : Refuted book S q) × (refuted.chart.size ≡ 1)
  unfolding Own
  refutes S q e w refused =
      let owned : (b : ℕ) → Own b = λ b. (both_of b).0 in (
        record {
          chart = single;
          lawful = single_lawful;
          release = 0;
          released = omega arith;
          in_force = λ r k has. owned r k (has_within S V r (within_trans S (supposing book S q) V (supposing_within book S q) w) has);
          fails = λ holds. refused
              (subst (Carries single 0) e
              (holds_as book wf single 0 q holds 0 (joined 0 0 refl refl)
              (all_hold single 0 (rule_of book) (bodies_of book q)
              (λ b m. owned b (member_below (length book) (bodies_recorded book wf q) m)
              (has_within (supposing book S q) V b w (supposing_has book S q b m))))));
        },
        refl,
      )

pub restart_decided : RestartDecided
restart_decided book wf S q l = go (dec_T (succeeds book true g h (supposing book S q) g))
  where
    g : ℕ
    g = head_of book q

    enough_of : (h : ℕ) × Enough book true g (names book g) h
    enough_of = enough book true g (names book g)

    h : ℕ
    h = enough_of.0

    go : Dec (T (succeeds book true g h (supposing book S q) g))
        → GoalTree book true S q ⊎ ((refuted : Refuted book S q) × (refuted.chart.size ≡ 1))
    go (yes t) = inl (tree_of book true g h (supposing book S q) g t)
    go (no none) =
        let w = largest_from book wf (λ V. succeeds book true g h V g) (2 ^ length book) (supposing book S q) (supposing_lt book wf S q l) (omega arith) none in
        inr (refutes book wf g h w.set w.bounded enough_of.1 w.largest S q refl w.holds_all w.refused)

pub restart_complete : RestartComplete
restart_complete book wf S q l none = ⊎_elim (λ t. absurd (none t)) (λ r. r) (restart_decided book wf S q l)
