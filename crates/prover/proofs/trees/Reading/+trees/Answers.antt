use Rattle.std.proofs.Common.{ℕ, ◌≡◌, ◌+◌, ◌<◌, T, length, sym, ◌∙◌, subst, arith}
use Rattle.std.proofs.lemmas.Result.{err_from_is_err_and}
use Rattle.logic.specs.Trees.{Applies}
use Rattle.book.specs.Books.{records_of}
use Rattle.prover.specs.Settings.{allowed, query_of}
use Rattle.prover.specs.Steps.{Decodes}
use Rattle.prover.specs.declared.task.Restart.{Restart}
use Rattle.prover.proofs.Items.{next_number, body_recorded}
use Rattle.prover.proofs.Readings.{read_short, read_cut, read_unfit, read_forbidden, read_unknown, took_restart, applied, unapplied, partly_begun, partly_more, partly_failed}
use Rattle.prover.proofs.trees.Reading.+trees.Goals as goal

pub read_rule-returns-in_err-index : goal.read_rule-returns-in_err-index
read_rule-returns-in_err-index t c =
    let r = c.args.self.now in
    let p = err_from_is_err_and c.from_residual.result c.from_residual.ensures.1 in
    let ended : c.in_err-index.field-0.0 ≡ record { place = (c.args.at + 1) } = grind arith in
    rw (p.1, p.2, ended)
    (λ qs. read_cut (records_of r.book.now) (allowed r.restart) r.goal.index r.bytes.now c.args.at
    (query_of c.args.query.set.bits c.args.query.name.index) qs c.requires.within c.requires.rule (grind arith))

pub read_rule-returns-in_err-number : goal.read_rule-returns-in_err-number
read_rule-returns-in_err-number t c =
    let r = c.args.self.now in
    let p = err_from_is_err_and c.from_residual-in_err-number.result c.from_residual-in_err-number.ensures.1 in
    let none = unapplied (records_of r.book.now) c.args.query.set.bits c.args.query.name.index c.in_ok-index.field-0.now (c.args.at + 1) c.applying.result
    c.in_err-number.field-0.0 c.in_err-number.ensures.value c.applying.ensures in
    rw (p.1, p.2, none.0)
    (λ qs. read_unfit (records_of r.book.now) (allowed r.restart) r.goal.index r.bytes.now c.args.at
    (query_of c.args.query.set.bits c.args.query.name.index) qs (grind arith) c.requires.rule
    (λ a. none.1 (subst (λ (n : ℕ). Applies (records_of r.book.now) c.args.query.set.bits c.args.query.name.index n) (grind arith) a)))

pub read_rule-loop-body-init : goal.read_rule-loop-body-init
read_rule-loop-body-init t c =
    let r = c.args.self.now in
    let book = records_of r.book.now in
    let n = c.in_ok-number.number in
    let a = applied book c.args.query.set.bits c.args.query.name.index c.in_ok-index.field-0.now c.applying.result n c.in_ok-number.ensures.ok_part c.applying.ensures in
    let used : n.index < length book = omega (arith, a.1.recorded, a.0) in
    partly_begun book (allowed r.restart) r.goal.index r.bytes.now c.args.at
    (query_of c.args.query.set.bits c.args.query.name.index) n.index _ (grind arith) c.requires.rule (grind arith)
    (subst (λ (m : ℕ). Applies book c.args.query.set.bits c.args.query.name.index m) (sym a.0) a.1)
    (c.as_slice-body-items.ensures ∙ c.bodies.ensures.used used)

pub read_rule-returns-in_err-end : goal.read_rule-returns-in_err-end
read_rule-returns-in_err-end t c =
    let r = c.args.self.now in
    let book = records_of r.book.now in
    let n = c.in_ok-number.number in
    let a = applied book c.args.query.set.bits c.args.query.name.index c.in_ok-index.field-0.now c.applying.result n c.in_ok-number.ensures.ok_part c.applying.ensures in
    let used : n.index < length book = omega (arith, a.1.recorded, a.0) in
    let items = c.as_slice-body-items.result.now in
    let i = c.loop-body.body-index in
    let x = c.body-item.result in
    let there = body_recorded items i x c.loop-body-test.true c.body-item.is r.book.now n.index used (c.as_slice-body-items.ensures ∙ c.bodies.ensures.used used) in
    let p = err_from_is_err_and c.from_residual-in_err-end.result c.from_residual-in_err-end.ensures.1 in
    rw (p.1, p.2)
    (partly_failed book (allowed r.restart) r.goal.index r.bytes.now c.args.at
    (query_of c.args.query.set.bits c.args.query.name.index) _ c.loop-body.end c.loop-body.invariant
    x.index c.supposing.result.bits c.head.result.index _ (next_number items i x c.loop-body-test.true c.body-item.is)
    (c.supposing.ensures.used there) (c.head.ensures.used there) c.in_err-end.field-0.0 c.in_err-end.ensures)

pub read_rule-loop-body-preserved : goal.read_rule-loop-body-preserved
read_rule-loop-body-preserved t c =
    let r = c.args.self.now in
    let book = records_of r.book.now in
    let n = c.in_ok-number.number in
    let a = applied book c.args.query.set.bits c.args.query.name.index c.in_ok-index.field-0.now c.applying.result n c.in_ok-number.ensures.ok_part c.applying.ensures in
    let used : n.index < length book = omega (arith, a.1.recorded, a.0) in
    let items = c.as_slice-body-items.result.now in
    let i = c.loop-body.body-index in
    let x = c.body-item.result in
    let there = body_recorded items i x c.loop-body-test.true c.body-item.is r.book.now n.index used (c.as_slice-body-items.ensures ∙ c.bodies.ensures.used used) in
    partly_more book (allowed r.restart) r.goal.index r.bytes.now c.args.at
    (query_of c.args.query.set.bits c.args.query.name.index) _ c.loop-body.end c.loop-body.invariant
    x.index c.supposing.result.bits c.head.result.index _ (next_number items i x c.loop-body-test.true c.body-item.is)
    (c.supposing.ensures.used there) (c.head.ensures.used there) c.in_ok-end.end c.in_ok-end.ensures

pub read_tree-returns-in_err-kind : goal.read_tree-returns-in_err-kind
read_tree-returns-in_err-kind t c =
    let r = c.args.self.now in
    let p = err_from_is_err_and c.from_residual.result c.from_residual.ensures.1 in
    let ended : c.in_err-kind.field-0.0 ≡ record { place = c.args.at } = grind arith in
    rw (p.1, p.2, ended)
    (λ qs. read_short (records_of r.book.now) (allowed r.restart) r.goal.index r.bytes.now c.args.at
    (query_of c.args.query.set.bits c.args.query.name.index) qs (grind arith))

pub read_tree-returns-in-Ok-Restart-Allowed : goal.read_tree-returns-in-Ok-Restart-Allowed
read_tree-returns-in-Ok-Restart-Allowed t c =
    let r = c.args.self.now in
    took_restart (records_of r.book.now) (allowed r.restart) r.goal.index r.bytes.now c.args.at
    (query_of c.args.query.set.bits c.args.query.name.index) c.read_tree.result (grind arith) (grind arith)
    (subst (λ (v : Restart). T (allowed v)) (sym c.in-Ok-Restart-Allowed.is-1) tt) c.read_tree.ensures

-- restart is forbidden
pub read_tree-returns-in_default : goal.read_tree-returns-in_default
read_tree-returns-in_default t c qs =
    let r = c.args.self.now in
    read_forbidden (records_of r.book.now) (allowed r.restart) r.goal.index r.bytes.now c.args.at
    (query_of c.args.query.set.bits c.args.query.name.index) qs (grind arith) (grind arith)
    (λ h. subst (λ (v : Restart). T (allowed v)) c.in_default.is-1 h)

-- the byte stands for no step
pub read_tree-returns-in_default-2 : goal.read_tree-returns-in_default-2
read_tree-returns-in_default-2 t c qs =
    let r = c.args.self.now in
    let n = subst (Decodes c.in_ok-kind.field-0.now) c.in_default.is-0 c.try_from.ensures in
    read_unknown (records_of r.book.now) (allowed r.restart) r.goal.index r.bytes.now c.args.at
    (query_of c.args.query.set.bits c.args.query.name.index) qs (grind arith) (grind (arith, n.0)) (grind (arith, n.1))
