-- What has a tree is carried wherever the rules in force hold.
use Rattle.std.proofs.Common.{◌≡◌, ℕ, ◌<◌, Bool, true, false, T, List, [], ◌∷◌, sym, subst, ⊎_elim, arith}
use Rattle.logic.specs.Sets.{mask}
use Rattle.logic.specs.Rules.{Rule, rule, Book, head_of, bodies_of, WellFormed, supposing, each, rule_of}
use Rattle.logic.specs.Charts.{Chart, Lawful, Follows, Carries, Holds, AllHold, SetHolds}
use Rattle.logic.specs.Trees.{Tree, Trees, by_rule, by_restart, no_body, body}
use Rattle.logic.specs.Theorems.{Sound, GoalSound, RestartSound}
use Rattle.logic.proofs.Sets.{Member, first, later, has_split, has_member}
use Rattle.logic.proofs.Rules.{rule_of_is}

-- ---- holding, at a follower and at a list of bodies

-- what holds at a release holds at each follower
pub holds_on : (chart : Chart) → Lawful chart → (w v : ℕ) → Follows chart w v → (r : Rule) → Holds chart w r → Holds chart v r
holds_on chart law w v f (rule h bs) holds = λ u fu all. holds u (law.onward w v u f fu) all

pub all_hold : (chart : Chart) (v : ℕ) (f : ℕ → Rule) (bs : List ℕ)
    → ((b : ℕ) → Member b bs → Holds chart v (f b)) → AllHold chart v (each f bs)
all_hold chart v f [] h = tt
all_hold chart v f (b ∷ bs) h = (h b first, all_hold chart v f bs (λ c m. h c (later m)))

pub each_holds : (chart : Chart) (v : ℕ) (f : ℕ → Rule) {b : ℕ} {bs : List ℕ}
    → AllHold chart v (each f bs) → Member b bs → Holds chart v (f b)
each_holds chart v f h first = h.0
each_holds chart v f h (later m) = each_holds chart v f h.1 m

module _ (book : Book) (wf : WellFormed book) (chart : Chart) where
  -- the bodies of record r hold at v
  abbrev pub BodiesHold : ℕ → ℕ → Type 0
  BodiesHold v r = AllHold chart v (each (rule_of book) (bodies_of book r))

  -- that the rule of record r holds at w, said by its head and its bodies
  pub holds_as : (w r : ℕ) → Holds chart w (rule_of book r)
      → (v : ℕ) → Follows chart w v → BodiesHold v r → Carries chart v (head_of book r)
  holds_as w r h = subst (Holds chart w) (rule_of_is book wf r) h

  pub holds_by : (w r : ℕ) → ((v : ℕ) → Follows chart w v → BodiesHold v r → Carries chart v (head_of book r))
      → Holds chart w (rule_of book r)
  holds_by w r k = subst (Holds chart w) (sym (rule_of_is book wf r)) k

  -- what is in force with the bodies of b put in force
  pub set_holds : (S b v : ℕ) → SetHolds book chart v S → BodiesHold v b → SetHolds book chart v (supposing book S b)
  unfolding supposing
  set_holds S b v hS hb r l h =
      ⊎_elim (hS r l) (λ m. each_holds chart v (rule_of book) hb (has_member r (bodies_of book b) m))
      (has_split S (mask (bodies_of book b)) r h)

-- ---- without restart, at each lawful chart

module _ (book : Book) (wf : WellFormed book) (chart : Chart) (law : Lawful chart) where
  set_holds_on : (S w v : ℕ) → Follows chart w v → SetHolds book chart w S → SetHolds book chart v S
  set_holds_on S w v f h r l m = holds_on chart law w v f (rule_of book r) (h r l m)

  module _ (g : ℕ) where
    mutual
      sound_tree : {S x : ℕ} → Tree book false g S x → (w : ℕ) → w < chart.size → SetHolds book chart w S → Carries chart w x
      sound_tree (by_rule r a ts) w l h =
          subst (Carries chart w) a.heads
          (holds_as book wf chart w r (h r a.recorded a.in_force) w (law.itself w l) (sound_trees ts w l h))
      sound_tree (by_restart t tree) w l h = absurd t

      sound_trees : {S : ℕ} {bs : List ℕ} → Trees book false g S bs → (w : ℕ) → w < chart.size → SetHolds book chart w S
          → AllHold chart w (each (rule_of book) bs)
      sound_trees no_body w l h = tt
      sound_trees (body {S = S} {b = b} tree ts) w l h = (
        holds_by book wf chart w b
            (λ v f bs. sound_tree tree v (law.inside w v f).1 (set_holds book wf chart S b v (set_holds_on S w v f h) bs)),
        sound_trees ts w l h,
      )

pub sound : Sound
sound book wf g S x tree chart law w l h = sound_tree book wf chart law g tree w l h

pub goal_sound : GoalSound
goal_sound book wf S q tree chart law w l h =
    holds_by book wf chart w q
    (λ v f bs. sound_tree book wf chart law (head_of book q) tree v (law.inside w v f).1
    (set_holds book wf chart S q v (set_holds_on book wf chart law S w v f h) bs))

-- ---- with restart, at each lawful chart of one release

module _ (book : Book) (wf : WellFormed book) (chart : Chart) (law : Lawful chart) (one : chart.size ≡ 1) (g : ℕ) (dropped : Carries chart 0 g → ⊥) where
  -- the only follower of the only release is that release
  only : (v : ℕ) → Follows chart 0 v → v ≡ 0
  only v f = omega (arith, (law.inside 0 v f).1)

  mutual
    restart_tree : {S x : ℕ} → Tree book true g S x → SetHolds book chart 0 S → Carries chart 0 x
    restart_tree (by_rule r a ts) h =
        subst (Carries chart 0) a.heads
        (holds_as book wf chart 0 r (h r a.recorded a.in_force) 0 (law.itself 0 (omega arith)) (restart_trees ts h))
    restart_tree (by_restart t tree) h = absurd (dropped (restart_tree tree h))

    restart_trees : {S : ℕ} {bs : List ℕ} → Trees book true g S bs → SetHolds book chart 0 S → AllHold chart 0 (each (rule_of book) bs)
    restart_trees no_body h = tt
    restart_trees (body {S = S} {b = b} tree ts) h = (
      holds_by book wf chart 0 b
          (λ v f bs.
          let e : v ≡ 0 = only v f in
          rw e (restart_tree tree (set_holds book wf chart S b 0 h (subst (λ (u : ℕ). AllHold chart u (each (rule_of book) (bodies_of book b))) e bs)))),
      restart_trees ts h,
    )

pub restart_sound : RestartSound
restart_sound book wf S q tree chart law one h =
    holds_by book wf chart 0 q
    (λ v f bs.
    let e : v ≡ 0 = omega (arith, (law.inside 0 v f).1) in
    let all : SetHolds book chart 0 (supposing book S q) =
    set_holds book wf chart S q 0 h (subst (λ (u : ℕ). AllHold chart u (each (rule_of book) (bodies_of book q))) e bs) in
    rw e (decided (chart.carries 0 (head_of book q)) (λ dropped. restart_tree book wf chart law one (head_of book q) dropped tree all)))
  where
    -- what follows from its own absence is there
    decided : (b : Bool) → ((T b → ⊥) → T b) → T b
    decided true k = tt
    decided false k = k (λ t. t)
