-- What the mask of a record says, from the masks of its bodies.
use Rattle.std.proofs.Common.{◌≡◌, ℕ, ◌<◌, ◌≤◌, true, false, List, [], ◌∷◌, length, get_or, Decides, sym, ◌∙◌, subst, arith}
use Rattle.std.proofs.lemmas.Bool.Decides.{Decides-like}
use Rattle.std.proofs.lemmas.List.Elements.{All-nil, All-cons, All-head, All-tail}
use Rattle.std.specs.Bool.{passes}
use Rattle.logic.specs.Sets.{AllBelow}
use Rattle.logic.specs.Rules.{Rule, rule, Book, WellFormed, head_of, bodies_of, each, rule_of}
use Rattle.logic.specs.Charts.{Chart, Holds, AllHold}
use Rattle.logic.proofs.Rules.{rule_of_is}
use Rattle.charts.specs.Bits.{bit}
use Rattle.charts.specs.Laws.{Ranged}
use Rattle.charts.specs.Limits.{most_releases}
use Rattle.charts.specs.Evaluation.{Rows, Meets, AllSet}
use Rattle.charts.specs.ChartLaws.{from_T}

-- the mask is that of record k
pub record RightAt (m : Chart) (book : Book) (k mask : ℕ) : Type 0 where
  pub holds : (w : ℕ) → w < m.size → Decides (bit mask w) (Holds m w (rule_of book k))
  pub beyond : (w : ℕ) → m.size ≤ w → bit mask w ≡ false

module _ (m : Chart) (ranged : Ranged m) (book : Book) (wf : WellFormed book) (masks : List ℕ) where
  -- the mask of record b has the release v
  abbrev HasAt : ℕ → ℕ → Type 0
  HasAt v b = bit (get_or masks b 0) v ≡ true

  -- the masks of bodies say whether all of them hold
  all_hold : (n v : ℕ) → v < m.size → ((k : ℕ) → k < n → RightAt m book k (get_or masks k 0)) → (bs : List ℕ) → AllBelow n bs
      → (AllSet masks bs v → AllHold m v (each (rule_of book) bs)) × (AllHold m v (each (rule_of book) bs) → AllSet masks bs v)
  all_hold n v l right [] below = ((λ _. tt), λ _. All-nil (HasAt v))
  all_hold n v l right (b ∷ bs) below =
      let rest = all_hold n v l right bs below.1 in
      let here = (right b below.0).holds v l in (
        (λ set. (here.0 (All-head (HasAt v) b bs set), rest.0 (All-tail (HasAt v) b bs set))),
        λ hold. All-cons (HasAt v) b bs (here.1 hold.0) (rest.1 hold.1),
      )

  -- the mask of record r is right if those of the records before it are
  pub right_next : (r followers_size : ℕ) (followers : List ℕ) (met carriers new : ℕ) → followers_size ≡ m.size → r < length book
      → ((k : ℕ) → k < r → RightAt m book k (get_or masks k 0)) → Rows m followers
      → ((v : ℕ) → v < most_releases → Decides (bit met v) (AllSet masks (bodies_of book r) v))
      → ((w : ℕ) → bit carriers w ≡ m.carries w (head_of book r))
      → ((w : ℕ) → w < followers_size → Decides (bit new w) (Meets (get_or followers w 0) met carriers))
      → ((w : ℕ) → followers_size ≤ w → bit new w ≡ false)
      → RightAt m book r new
  right_next r size followers met carriers new same l before rows met_is carriers_are new_is rest = record {
    holds = λ w h. subst (λ (t : Rule). Decides (bit new w) (Holds m w t)) (sym (rule_of_is book wf r))
        (Decides-like (bit new w) (to_holds w h) (from_holds w h) (new_is w (omega arith)));
    beyond = λ w h. rest w (omega arith);
  }
    where
      bodies : (v : ℕ) → v < m.size
          → (AllSet masks (bodies_of book r) v → AllHold m v (each (rule_of book) (bodies_of book r)))
          × (AllHold m v (each (rule_of book) (bodies_of book r)) → AllSet masks (bodies_of book r) v)
      bodies v h = all_hold r v h before (bodies_of book r) (wf r l)

      to_holds : (w : ℕ) → w < m.size → Meets (get_or followers w 0) met carriers → Holds m w (rule (head_of book r) (each (rule_of book) (bodies_of book r)))
      to_holds w h meets v f all =
          let e = from_T (m.follows w v) f in
          let hv = ranged.follower_in w v e in
          passes (m.carries v (head_of book r))
          (sym (carriers_are v) ∙ meets v (rows w h v ∙ e) ((met_is v (omega (arith, ranged.few))).1 ((bodies v hv).1 all)))

      from_holds : (w : ℕ) → w < m.size → Holds m w (rule (head_of book r) (each (rule_of book) (bodies_of book r))) → Meets (get_or followers w 0) met carriers
      from_holds w h holds v f b =
          let e = sym (rows w h v) ∙ f in
          let hv = ranged.follower_in w v e in
          carriers_are v
          ∙ from_T (m.carries v (head_of book r)) (holds v (passes (m.follows w v) e) ((bodies v hv).0 ((met_is v (omega (arith, ranged.few))).0 b)))

  -- the same, with the head and the bodies of the record as they were read
  pub right_entry : (r size : ℕ) (followers : List ℕ) (h : ℕ) (bs : List ℕ) (met carriers new : ℕ)
      → h ≡ head_of book r → bs ≡ bodies_of book r → size ≡ m.size → r < length book
      → ((k : ℕ) → k < r → RightAt m book k (get_or masks k 0)) → Rows m followers
      → ((v : ℕ) → v < most_releases → Decides (bit met v) (AllSet masks bs v))
      → ((w : ℕ) → bit carriers w ≡ m.carries w h)
      → ((w : ℕ) → w < size → Decides (bit new w) (Meets (get_or followers w 0) met carriers))
      → ((w : ℕ) → size ≤ w → bit new w ≡ false)
      → RightAt m book r new
  right_entry r size followers h bs met carriers new is_head is_bodies same l before rows met_is carriers_are =
      right_next r size followers met carriers new same l before rows
      (subst (λ (xs : List ℕ). (v : ℕ) → v < most_releases → Decides (bit met v) (AllSet masks xs v)) is_bodies met_is)
      (subst (λ (x : ℕ). (w : ℕ) → bit carriers w ≡ m.carries w x) is_head carriers_are)
