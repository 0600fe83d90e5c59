-- What the search's loops have come to so far.
use Rattle.std.proofs.Common.{◌≡◌, ℕ, zero, suc, ◌+◌, ◌-◌, ◌<◌, ◌≤◌, Bool, true, false, not, T, ◌↔◌, Ok, Err, Result, List, [], ◌∷◌, ◌++◌, length, take, sym, refl, ap, ◌∙◌, subst, append_assoc, append-nil, arith}
use Rattle.std.proofs.lemmas.Bool.{false≢true}
use Rattle.logic.specs.Rules.{head_of, bodies_of, supposing}
use Rattle.logic.specs.Search.{Query, Outcome, succeeded, failed, spent, Setting, Asked, Tried, passed, rule_succeeds, rule_fails, rule_spent, gives_up, restart_succeeds, restart_fails, restart_spent, Bodies, all_asked, body_fails, body_spent, rest_succeeds, rest_fails, rest_spent}
use Rattle.logic.specs.Sets.{Has}
use Rattle.logic.specs.Trees.{Applies}
use Rattle.logic.proofs.Sets.{has_zero}
use Rattle.book.specs.Sets.{Least}
use Rattle.prover.specs.Settings.{query_of}
use Rattle.prover.specs.Told.{setting_of, Kept, EachWay, Came, Told, Writes, NameAsked, RulesTried, BodiesAsked, BodyAsked}
use Rattle.prover.specs.declared.progress.Search.{Search}
use Rattle.prover.specs.declared.progress.Spent.{Spent}
use Rattle.prover.specs.declared.in_force.InForce.{InForce}
use Rattle.prover.proofs.Buffers.{wrote_keeps, kept_less}
use Rattle.prover.proofs.Steps.{kept_on, writes_on, told_same}

-- ---- bodies in order

-- bytes before the tree, where there is one
abbrev pub under : List ℕ → Outcome → Outcome
under t (succeeded u) = succeeded (t ++ u)
under t failed = failed
under t spent = spent

under_both : (t u : List ℕ) (o : Outcome) → under t (under u o) ≡ under (t ++ u) o
under_both t u (succeeded v) = ap succeeded (sym (append_assoc t u v))
under_both t u failed = refl
under_both t u spent = refl

-- a body with a tree, and the bodies behind it
next_body : (s : Setting) (way : List Query) (S r n m k : ℕ) (rs t : List ℕ) (o : Outcome)
    → Asked s way (query_of (supposing s.book S r) (head_of s.book r)) n (succeeded t) m → Bodies s way S rs m o k
    → Bodies s way S (r ∷ rs) n (under t o) k
next_body s way S r n m k rs t (succeeded u) d e = rest_succeeds d e
next_body s way S r n m k rs t failed d e = rest_fails d e
next_body s way S r n m k rs t spent d e = rest_spent d e

-- The bodies of record r before those left had trees, written one behind the other after the rule's two bytes: those left
-- decide the rest.
pub record Trail (f : InForce) (r : ℕ) (s : Search) (left : List ℕ) (g : InForce) (t : Search) : Type 0 where
  pub kept : Kept s t
  pub back : g ≡ f
  pub tree : List ℕ
  pub wrote : Writes s (1 ∷ r ∷ tree) t
  pub rest : (o : Outcome) (m : ℕ) → EachWay f (λ way. Bodies (setting_of s) way f.set.bits left t.progress.count o m
      → Bodies (setting_of s) way f.set.bits (bodies_of (setting_of s).book r) s.progress.count (under tree o) m)

module _ (f : InForce) (r : ℕ) (s : Search) where
  module _ (left : List ℕ) (g : InForce) (t : Search) (tr : Trail f r s left g t) where
    -- none is left
    pub trail_all : left ≡ [] → Told (BodiesAsked (setting_of s) f r) (1 ∷ r ∷ []) s t (Ok true)
    trail_all none = (
      tr.tree,
      λ way p. subst (λ (v : List ℕ). Bodies (setting_of s) way f.set.bits (bodies_of (setting_of s).book r) s.progress.count (succeeded v) t.progress.count)
          (append-nil tr.tree)
          (tr.rest (succeeded []) t.progress.count way p
          (subst (λ (xs : List ℕ). Bodies (setting_of s) way f.set.bits xs t.progress.count (succeeded []) t.progress.count) (sym none) all_asked)),
      tr.wrote,
    )

    -- the next one is asked
    module _ (b : ℕ) (more : List ℕ) (first : left ≡ b ∷ more) (h : InForce) (u : Search) (k : Kept t u) where
      asked : (o : Outcome) → BodyAsked (setting_of t) g b t.progress.count u.progress.count o
          → BodyAsked (setting_of s) f b t.progress.count u.progress.count o
      asked o = told_same (λ v w. BodyAsked v w b t.progress.count u.progress.count o) (setting_of s) (setting_of t) f g tr.kept.setting tr.back

      before : (o : Outcome) (m : ℕ) → EachWay f (λ way. Bodies (setting_of s) way f.set.bits (b ∷ more) t.progress.count o m
          → Bodies (setting_of s) way f.set.bits (bodies_of (setting_of s).book r) s.progress.count (under tr.tree o) m)
      before o m way p d =
          tr.rest o m way p (subst (λ (xs : List ℕ). Bodies (setting_of s) way f.set.bits xs t.progress.count o m) (sym first) d)

      pub trail_more : h ≡ g → (found : Bool) → found ≡ true → Told (BodyAsked (setting_of t) g b) [] t u (Ok found) → Trail f r s more h u
      trail_more same true e q = record {
        kept = kept_on s t u tr.kept k;
        back = same ∙ tr.back;
        tree = tr.tree ++ q.0;
        wrote = writes_on s t u (1 ∷ r ∷ tr.tree) q.0 tr.kept tr.wrote q.2;
        rest = λ o m way p d.
            subst (λ v. Bodies (setting_of s) way f.set.bits (bodies_of (setting_of s).book r) s.progress.count v m) (under_both tr.tree q.0 o)
            (before (under q.0 o) m way p
            (next_body (setting_of s) way f.set.bits b t.progress.count u.progress.count m more q.0 o (asked (succeeded q.0) q.1 way p) d));
      }
      trail_more same false e q = absurd (false≢true e)

      pub trail_failed : (found : Bool) → found ≡ false → Told (BodyAsked (setting_of t) g b) [] t u (Ok found)
          → Came (BodiesAsked (setting_of s) f r s.progress.count u.progress.count) (1 ∷ r ∷ []) s.out.now s.progress.len u.out.now s.progress.len (Ok false)
      trail_failed false e q =
          let l : s.progress.len ≤ t.progress.len = omega (arith, tr.wrote.longer) in (
            λ way p. before failed u.progress.count way p (body_fails (asked failed q.0 way p)),
            refl,
            kept_less s.progress.len t.progress.len t.out.now u.out.now l q.2
                ∙ wrote_keeps s.out.now s.progress.len (1 ∷ r ∷ tr.tree) t.out.now t.progress.len tr.wrote,
          )
      trail_failed true e q = absurd (false≢true (sym e))

      pub trail_spent : BodyAsked (setting_of t) g b t.progress.count u.progress.count spent
          → BodiesAsked (setting_of s) f r s.progress.count u.progress.count spent
      trail_spent q way p = before spent u.progress.count way p (body_spent (asked spent q way p))

-- ---- records by rising number

-- records that do not apply are passed
passed_to : (s : Setting) (way : List Query) (q : Query) (r d n m : ℕ) (o : Outcome) → r + d ≤ length s.book
    → ((i : ℕ) → r ≤ i → i < r + d → Applies s.book q.in_force q.name i → ⊥) → Tried s way q (r + d) n o m → Tried s way q r n o m
passed_to s way q r zero n m o h none t = subst (λ i. Tried s way q i n o m) (let e : r + 0 ≡ r = omega arith in e) t
passed_to s way q r (suc d) n m o h none t =
    let e : r + suc d ≡ suc r + d = omega arith in
    passed (omega arith) (none r (omega arith) (omega arith))
    (passed_to s way q (suc r) d n m o (omega arith) (λ i l g. none i (omega arith) (omega arith)) (subst (λ i. Tried s way q i n o m) e t))

-- The records below `from` were passed or failed, those left are the ones from there on that apply, and the bytes of the
-- tree so far are as they were: the records left decide.
pub record Walk (f : InForce) (x : ℕ) (s : Search) (left : ℕ) (g : InForce) (t : Search) : Type 0 where
  pub kept : Kept s t
  pub back : g ≡ f
  pub same : t.progress.len ≡ s.progress.len
  pub held : take s.progress.len t.out.now ≡ take s.progress.len s.out.now
  pub from : ℕ
  pub within : from ≤ length (setting_of s).book
  pub those : (r : ℕ) → Has left r ↔ ((from ≤ r) × Applies (setting_of s).book f.set.bits x r)
  pub rest : (o : Outcome) (m : ℕ) → EachWay f (λ way. Tried (setting_of s) way (query_of f.set.bits x) from t.progress.count o m
      → Tried (setting_of s) way (query_of f.set.bits x) zero s.progress.count o m)

module _ (f : InForce) (x : ℕ) (s : Search) where
  module _ (left : ℕ) (g : InForce) (t : Search) (wk : Walk f x s left g t) where
    -- what follows the records so far is written behind what was there at the start
    writes_first : (u : Search) (v : List ℕ) → Writes t v u → Writes s v u
    writes_first u v wr = record {
      longer = wr.longer ∙ ap (λ m. m + length v) wk.same;
      holds = wr.holds ∙ ap (λ c. take c (take t.progress.len t.out.now ++ v)) wk.kept.room
          ∙ ap (λ m. take (length s.out.now) (take m t.out.now ++ v)) wk.same ∙ ap (λ l. take (length s.out.now) (l ++ v)) wk.held;
    }

    held_on : (u : Search) → take t.progress.len u.out.now ≡ take t.progress.len t.out.now → take s.progress.len u.out.now ≡ take s.progress.len s.out.now
    held_on u e = subst (λ m. take m u.out.now ≡ take m t.out.now) wk.same e ∙ wk.held

    -- all records from here up to r are passed
    up_to : (r : ℕ) → wk.from ≤ r → r ≤ length (setting_of s).book → ((q : ℕ) → q < r → Has left q → ⊥) → (o : Outcome) (m : ℕ)
        → EachWay f (λ way. Tried (setting_of s) way (query_of f.set.bits x) r t.progress.count o m
        → Tried (setting_of s) way (query_of f.set.bits x) zero s.progress.count o m)
    up_to r h l none o m way p d =
        let e : r ≡ wk.from + (r - wk.from) = omega (arith, h) in
        wk.rest o m way p
        (passed_to (setting_of s) way (query_of f.set.bits x) wk.from (r - wk.from) t.progress.count m o (omega (arith, h, l))
        (λ q i j a. none q (omega (arith, h, j)) ((wk.those q).1 (i, a)))
        (subst (λ q. Tried (setting_of s) way (query_of f.set.bits x) q t.progress.count o m) e d))

    -- the least record that is left is tried
    module _ (r : ℕ) (least : Least left r) (u : Search) (k : Kept t u) where
      pub walk_applies : Applies (setting_of s).book f.set.bits x r
      walk_applies = ((wk.those r).0 least.member).1

      tried : (o : Outcome) → BodiesAsked (setting_of t) g r t.progress.count u.progress.count o
          → BodiesAsked (setting_of s) f r t.progress.count u.progress.count o
      tried o = told_same (λ v w. BodiesAsked v w r t.progress.count u.progress.count o) (setting_of s) (setting_of t) f g wk.kept.setting wk.back

      up : (o : Outcome) (m : ℕ) → EachWay f (λ way. Tried (setting_of s) way (query_of f.set.bits x) r t.progress.count o m
          → Tried (setting_of s) way (query_of f.set.bits x) zero s.progress.count o m)
      up = up_to r ((wk.those r).0 least.member).0 (let l : r < length (setting_of s).book = walk_applies.recorded in omega arith)
          (λ q l i. let j : r ≤ q = least.lowest q i in omega arith)

      pub walk_found : (found : Bool) → found ≡ true → Told (BodiesAsked (setting_of t) g r) (1 ∷ r ∷ []) t u (Ok found)
          → Told (RulesTried (setting_of s) f x) [] s u (Ok true)
      walk_found true e q = (
        1 ∷ r ∷ q.0,
        λ way p. up (succeeded (1 ∷ r ∷ q.0)) u.progress.count way p (rule_succeeds walk_applies.recorded walk_applies (tried (succeeded q.0) q.1 way p)),
        writes_first u (1 ∷ r ∷ q.0) q.2,
      )
      walk_found false e q = absurd (false≢true e)

      pub walk_spent : BodiesAsked (setting_of t) g r t.progress.count u.progress.count spent
          → RulesTried (setting_of s) f x s.progress.count u.progress.count spent
      walk_spent q way p = up spent u.progress.count way p (rule_spent walk_applies.recorded walk_applies (tried spent q way p))

      pub walk_next : (h : InForce) (left' : ℕ) → h ≡ g → ((q : ℕ) → Has left' q ↔ (Has left q × (r < q)))
          → (found : Bool) → found ≡ false → Told (BodiesAsked (setting_of t) g r) (1 ∷ r ∷ []) t u (Ok found) → Walk f x s left' h u
      walk_next h left' same members false e q = record {
        kept = kept_on s t u wk.kept k;
        back = same ∙ wk.back;
        same = q.1 ∙ wk.same;
        held = held_on u q.2;
        from = suc r;
        within = walk_applies.recorded;
        those = λ i. (
          λ a. (((members i).0 a).1, ((wk.those i).0 ((members i).0 a).0).1),
          λ a. let low : wk.from ≤ r = ((wk.those r).0 least.member).0 in (members i).1 ((wk.those i).1 (omega (arith, a.0), a.1), a.0),
        );
        rest = λ o m way p d. up o m way p (rule_fails walk_applies.recorded walk_applies (tried failed q.0 way p) d);
      }
      walk_next h left' same members true e q = absurd (false≢true (sym e))

    -- none is left
    module _ (none : left ≡ 0) where
      ended : (o : Outcome) (m : ℕ) → EachWay f (λ way. Tried (setting_of s) way (query_of f.set.bits x) (length (setting_of s).book) t.progress.count o m
          → Tried (setting_of s) way (query_of f.set.bits x) zero s.progress.count o m)
      ended = up_to (length (setting_of s).book) wk.within (omega arith) (λ q l i. has_zero q (subst (λ (S : ℕ). Has S q) none i))

      pub walk_end : T (not (setting_of t).restart) → Told (RulesTried (setting_of s) f x) [] s t (Ok false)
      walk_end h = (
        λ way p. ended failed t.progress.count way p (gives_up refl (subst (λ (S : Setting). T (not S.restart)) wk.kept.setting h)),
        wk.same,
        wk.held,
      )

      may : T (setting_of t).restart → T (setting_of s).restart
      may = subst (λ (S : Setting). T S.restart) wk.kept.setting

      restarted : (u : Search) (o : Outcome) → NameAsked (setting_of t) g (setting_of t).goal t.progress.count u.progress.count o
          → NameAsked (setting_of s) f (setting_of s).goal t.progress.count u.progress.count o
      restarted u o =
          told_same (λ v w. NameAsked v w v.goal t.progress.count u.progress.count o) (setting_of s) (setting_of t) f g wk.kept.setting wk.back

      pub walk_restart : T (setting_of t).restart → (u : Search) (found : Result Bool Spent)
          → Told (NameAsked (setting_of t) g (setting_of t).goal) (2 ∷ []) t u found → Told (RulesTried (setting_of s) f x) [] s u found
      walk_restart h u (Ok true) q = (
        2 ∷ q.0,
        λ way p. ended (succeeded (2 ∷ q.0)) u.progress.count way p (restart_succeeds refl (may h) (restarted u (succeeded q.0) q.1 way p)),
        writes_first u (2 ∷ q.0) q.2,
      )
      walk_restart h u (Ok false) q = (
        λ way p. ended failed u.progress.count way p (restart_fails refl (may h) (restarted u failed q.0 way p)),
        q.1 ∙ wk.same,
        held_on u q.2,
      )
      walk_restart h u (Err _) q = λ way p. ended spent u.progress.count way p (restart_spent refl (may h) (restarted u spent q way p))
