-- The examples: each search is carried out, and the releases of the chart are looked at in turn.
use Rattle.std.proofs.Common.{◌≡◌, ℕ, zero, suc, ◌<◌, ◌≤◌, ltb, leb, [], refl, subst₂, zero-le, arith, le→leb, ltb→lt, lt→ltb, leb→le}
use Rattle.logic.specs.Rules.{head_of, bodies_of, supposing}
use Rattle.logic.specs.Charts.{Chart, Lawful, Follows, Carries, Holds, line}
use Rattle.logic.specs.Search.{Setting, Query, Outcome, Asked}
use Rattle.logic.specs.Store.{store}
use Rattle.logic.specs.Examples.{ExamplesYielded, circular, fact, from_one}
use Rattle.logic.proofs.Tests.{both, and_left, and_right}
use Rattle.logic.proofs.Ends.{ends}

-- a search that ends so, before the other examples
ended : {s : Setting} {q : Query} {out : Outcome} {k : ℕ} {Others : Type 0} → (ends s [] q 0 zero-le).0 ≡ out → (ends s [] q 0 zero-le).1 ≡ k → Others
    → Asked s [] q 0 out k × Others
ended {s} {q} e f others =
    let r = ends s [] q 0 zero-le in
    (subst₂ (λ o n. Asked s [] q 0 o n) e f r.2, others)

-- ---- lines

module _ (n : ℕ) (first : ℕ → ℕ) where
  inside : (w v : ℕ) → Follows (line n first) w v → (w ≤ v) × (v < n)
  inside w v f = (leb→le w v (and_left (leb w v) (ltb v n) f), ltb→lt v n (and_right (leb w v) (ltb v n) f))

  follow : (w v : ℕ) → w ≤ v → v < n → Follows (line n first) w v
  follow w v l m = both (leb w v) (ltb v n) (le→leb w v l) (lt→ltb v n m)

  keeps : (w v x : ℕ) → Follows (line n first) w v → Carries (line n first) w x → Carries (line n first) v x
  keeps w v x f c =
      let i = inside w v f in
      let l = leb→le (first x) w (and_left (leb (first x) w) (ltb w n) c) in
      both (leb (first x) v) (ltb v n) (le→leb (first x) v (omega (arith, i.0, l))) (lt→ltb v n i.1)

  line_lawful : Lawful (line n first)
  line_lawful = record {
    inside = λ w v f. let i = inside w v f in (omega (arith, i.0, i.1), i.1);
    itself = λ w l. follow w w (omega arith) l;
    onward = λ u v w f k. let i = inside u v f in let j = inside v w k in follow u w (omega (arith, i.0, j.0)) j.1;
    keeps = keeps;
  }

-- ---- the line of two releases

abbrev pair : Chart
pair = line 2 from_one

no_third : (w v : ℕ) → Follows pair w (suc (suc v)) → ⊥
no_third w v f = let i = inside 2 from_one w (suc (suc v)) f in omega (arith, i.1)

-- `a` holds at release 1
a_holds : Holds pair 1 (fact 0)
a_holds zero f b = absurd f
a_holds (suc zero) f b = tt
a_holds (suc (suc v)) f b = absurd (no_third 1 v f)

-- `a if (b if a)` holds at release 0, since `b if a` does not
rule_holds : Holds pair 0 (circular 0 1)
rule_holds zero f b = absurd (b.0 1 tt (a_holds, tt))
rule_holds (suc zero) f b = tt
rule_holds (suc (suc v)) f b = absurd (no_third 0 v f)

-- ---- all of them

pub examples_yielded : ExamplesYielded
unfolding ends store head_of supposing bodies_of
examples_yielded =
    ended refl refl (ended refl refl (ended refl refl (ended refl refl (ended refl refl
    (ended refl refl (ended refl refl (ended refl refl (ended refl refl (
      (line_lawful 2 from_one, omega arith, (rule_holds, tt), λ holds. holds 0 tt tt),
      (
        (line_lawful 2 from_one, omega arith, (rule_holds, tt), λ holds. holds 1 tt (a_holds, tt)),
        ended refl refl tt,
      ),
    )))))))))
