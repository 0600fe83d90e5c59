use Rattle.std.proofs.Common.{◌≡◌, ℕ, ◌<◌, not, T, [], length, sym, refl, ap, ◌∙◌, subst, arith, rules}
use Rattle.std.proofs.lemmas.Bool.{false≢true}
use Rattle.std.proofs.lemmas.Bool.Decides.{nat_tests}
use Rattle.std.proofs.lemmas.Result.{err_from_is_err_and}
use Rattle.logic.specs.Rules.{supposing}
use Rattle.logic.specs.Search.{Setting}
use Rattle.book.specs.Books.{records_of}
use Rattle.book.specs.declared.record_set.RecordSet.{RecordSet}
use Rattle.prover.specs.Settings.{allowed}
use Rattle.prover.specs.Told.{setting_of}
use Rattle.prover.specs.declared.in_force.InForce.{InForce}
use Rattle.prover.specs.declared.task.Restart.{Restart}
use Rattle.prover.proofs.Items.{next_number, body_recorded, none_left}
use Rattle.prover.proofs.Steps.{told_as, asked_barred, asked_spent, asked_begun, body_grown}
use Rattle.prover.proofs.Trails.{trail_more, trail_failed, trail_spent, trail_all, walk_found, walk_spent, walk_next, walk_end, walk_restart}
use Rattle.prover.proofs.progress.Search.+queries.Goals as goal

-- ---- query

pub query-returns-then-has_begun-clause-told : goal.query-returns-then-has_begun-clause-told
query-returns-then-has_begun-clause-told t c =
    let s = c.args.self.now in
    (asked_barred (setting_of s) c.args.force.now c.args.name.index s.progress.count (c.if-has_begun.ensures.0 refl), refl, refl)

pub query-returns-then-self-clause-told : goal.query-returns-then-self-clause-told
query-returns-then-self-clause-told t c =
    let s = c.args.self.now in
    asked_spent (setting_of s) c.args.force.now c.args.name.index s.progress.count (λ h. false≢true (c.if-has_begun.ensures.1 h)) c.if-self.true

pub query-returns-clause-told : goal.query-returns-clause-told
query-returns-clause-told t c =
    let s = c.args.self.now in
    let u = c.try_rules-found.new.self in
    told_as _ _ [] s.out.now s.progress.len u.out.now u.progress.len c.try_rules-found.result
    (λ o d. asked_begun (setting_of s) c.args.force.now c.args.name.index s.progress.count u.progress.count o c.begin.new.self
    (λ h. false≢true (c.if-has_begun.ensures.1 h)) c.if-self.false c.begin.ensures d)
    c.try_rules-found.ensures.told

-- ---- try_body

pub try_body-returns-clause-told : goal.try_body-returns-clause-told
try_body-returns-clause-told t c =
    let s = c.args.self.now in
    let f = c.args.force.now in
    let r = c.args.body.index in
    let u = c.query-2.new.self in
    let same : c.args.set.bits ≡ f.set.bits = ap (λ (S : RecordSet). S.bits) c.requires.set in
    told_as _ _ [] s.out.now s.progress.len u.out.now u.progress.len c.query-2.result
    (λ o d. body_grown (setting_of s) f r c.head-head.result.index s.progress.count u.progress.count o (record { set = c.supposing-wider.result; begun = 0 })
    (c.supposing-wider.ensures.used c.requires.used ∙ ap (λ (S : ℕ). supposing (setting_of s).book S r) same)
    (c.head-head.ensures.used c.requires.used) (λ e. grind (arith, nat_tests, e ∙ sym same, c.if-equals.ensures)) refl d)
    c.query-2.ensures.told

-- ---- try_rule

pub try_rule-try_body-requires : goal.try_rule-try_body-requires
try_rule-try_body-requires t c =
    let b = c.push-2.new.self.book.now in
    let r = c.args.number.index in
    let before : length (setting_of c.push-2.new.self).book ≡ length (setting_of c.args.self.now).book =
    ap (λ (S : Setting). length S.book) (c.push-2.ensures.kept.setting ∙ c.push.ensures.kept.setting) in
    let now : length (setting_of c.loop-body.self).book ≡ length (setting_of c.args.self.now).book =
    ap (λ (S : Setting). length S.book) c.loop-body.invariant.kept.setting in
    let used : r < length (records_of b) = omega (arith, before) in
    let recorded = body_recorded c.as_slice-body-items.result.now c.loop-body.body-index c.body-item.result c.loop-body-test.true c.body-item.is b r used
    (c.as_slice-body-items.ensures ∙ c.bodies.ensures.used used) in
    (search rules, (c.requires.set ∙ sym (ap (λ (g : InForce). g.set) c.loop-body.invariant.back), omega (arith, recorded, before, now)))

pub try_rule-returns-in_err-try_body-clause-told : goal.try_rule-returns-in_err-try_body-clause-told
try_rule-returns-in_err-try_body-clause-told t c =
    let k = c.in_err-try_body.ensures in
    let first = next_number c.as_slice-body-items.result.now c.loop-body.body-index c.body-item.result c.loop-body-test.true c.body-item.is in
    let p = err_from_is_err_and c.from_residual.result c.from_residual.ensures.1 in
    rw p.1
    (trail_spent c.args.force.now c.args.number.index c.args.self.now _ c.loop-body.force c.loop-body.self c.loop-body.invariant
    c.body-item.result.index _ first c.try_body.new.force c.try_body.new.self k.kept k.told)

pub try_rule-returns-then-not-branch-clause-told : goal.try_rule-returns-then-not-branch-clause-told
try_rule-returns-then-not-branch-clause-told t c =
    let k = c.in_ok-try_body.ensures in
    let first = next_number c.as_slice-body-items.result.now c.loop-body.body-index c.body-item.result c.loop-body-test.true c.body-item.is in
    trail_failed c.args.force.now c.args.number.index c.args.self.now _ c.loop-body.force c.loop-body.self c.loop-body.invariant
    c.body-item.result.index _ first c.try_body.new.force c.try_body.new.self k.kept c.in_ok-try_body.field-0 c.if-not-branch.true k.told

pub try_rule-loop-body-preserved : goal.try_rule-loop-body-preserved
try_rule-loop-body-preserved t c =
    let k = c.in_ok-try_body.ensures in
    let first = next_number c.as_slice-body-items.result.now c.loop-body.body-index c.body-item.result c.loop-body-test.true c.body-item.is in
    trail_more c.args.force.now c.args.number.index c.args.self.now _ c.loop-body.force c.loop-body.self c.loop-body.invariant
    c.body-item.result.index _ first c.try_body.new.force c.try_body.new.self k.kept k.back c.in_ok-try_body.field-0 c.if-not-branch.false k.told

pub try_rule-returns-clause-told : goal.try_rule-returns-clause-told
try_rule-returns-clause-told t c =
    trail_all c.args.force.now c.args.number.index c.args.self.now _ c.loop-body.force c.loop-body.self c.loop-body.invariant
    (none_left c.as_slice-body-items.result.now c.loop-body.body-index c.loop-body-test.false)

-- ---- try_rules

pub try_rules-returns-in_err-try_rule-clause-told : goal.try_rules-returns-in_err-try_rule-clause-told
try_rules-returns-in_err-try_rule-clause-told t c =
    let k = c.in_err-try_rule.ensures in
    let p = err_from_is_err_and c.from_residual.result c.from_residual.ensures.1 in
    rw p.1
    (walk_spent c.args.force.now c.args.name.index c.args.self.now _ c.loop-number.force c.loop-number.self c.loop-number.invariant.walk
    c.in-Some.number.index c.in-Some.ensures.steps.0 c.try_rule.new.self k.kept k.told)

pub try_rules-returns-then-branch-clause-told : goal.try_rules-returns-then-branch-clause-told
try_rules-returns-then-branch-clause-told t c =
    let k = c.in_ok-try_rule.ensures in
    walk_found c.args.force.now c.args.name.index c.args.self.now _ c.loop-number.force c.loop-number.self c.loop-number.invariant.walk
    c.in-Some.number.index c.in-Some.ensures.steps.0 c.try_rule.new.self k.kept c.in_ok-try_rule.field-0 c.if-branch.true k.told

pub try_rules-loop-number-preserved : goal.try_rules-loop-number-preserved
try_rules-loop-number-preserved t c =
    let k = c.in_ok-try_rule.ensures in
    record {
      can_next = search rules;
      is_finite = search rules;
      walk = walk_next c.args.force.now c.args.name.index c.args.self.now _ c.loop-number.force c.loop-number.self c.loop-number.invariant.walk
          c.in-Some.number.index c.in-Some.ensures.steps.0 c.try_rule.new.self k.kept c.try_rule.new.force _ k.back c.in-Some.ensures.steps.1
          c.in_ok-try_rule.field-0 c.if-branch.false k.told;
    }

pub try_rules-returns-in-Allowed-clause-told : goal.try_rules-returns-in-Allowed-clause-told
try_rules-returns-in-Allowed-clause-told t c =
    walk_restart c.args.force.now c.args.name.index c.args.self.now _ c.loop-number.force c.loop-number.self c.loop-number.invariant.walk c.in-None.ensures.steps.0
    (subst (λ (v : Restart). T (allowed v)) (sym c.in-Allowed.is) tt) c.try_restart.new.self c.try_restart.result c.try_restart.ensures.told

pub try_rules-returns-in-Forbidden-clause-told : goal.try_rules-returns-in-Forbidden-clause-told
try_rules-returns-in-Forbidden-clause-told t c =
    walk_end c.args.force.now c.args.name.index c.args.self.now _ c.loop-number.force c.loop-number.self c.loop-number.invariant.walk c.in-None.ensures.steps.0
    (subst (λ (v : Restart). T (not (allowed v))) (sym c.in-Forbidden.is) tt)
