use Rattle.std.proofs.Common.{◌≡◌, true, false, [], length, sym, refl, ap, ◌∙◌, arith, rules}
use Rattle.logic.proofs.Ends.{counted}
use Rattle.logic.proofs.Failure.{failure_right}
use Rattle.logic.specs.Search.{spent}
use Rattle.prover.specs.Settings.{setting, query_of}
use Rattle.prover.proofs.Settling.{from_nothing, goal_came, wiped, found_tree, yes_settled, yes_shown}
use Rattle.prover.proofs.queries.search.Goals as goal

pub returns-in-Ok-true : goal.returns-in-Ok-true
returns-in-Ok-true c =
    let b = c.args.book.now in
    let k = c.args.task.now in
    let u = c.query-found.new.self in
    let d = goal_came b k c.args.set u.progress.count c.args.out.now u.out.now u.progress.len c.in-Ok-true.field-0 true c.in-Ok-true.field-0-test c.in-Ok-true.ensures.told in
    record {
      settled = yes_settled b k c.args.set.bits u.progress.count u.progress.len c.args.out.now d.0 u.out.now _ c.clear.new.out
          c.clear.auto.out c.if-len-out.true c.clear.ensures (search rules) d.1 d.2 c.query-found.ensures.kept.room;
      tree = yes_shown b k c.args.set.bits u.progress.count u.progress.len c.args.out.now d.0 u.out.now _ c.clear.new.out
          c.clear.auto.out c.if-len-out.true c.clear.ensures (search rules) d.1 d.2 c.query-found.ensures.kept.room;
    }

pub returns-in-Ok-true-2 : goal.returns-in-Ok-true-2
returns-in-Ok-true-2 c =
    let b = c.args.book.now in
    let k = c.args.task.now in
    let u = c.query-found.new.self in
    let d = goal_came b k c.args.set u.progress.count c.args.out.now u.out.now u.progress.len c.in-Ok-true.field-0 true c.in-Ok-true.field-0-test c.in-Ok-true.ensures.told in
    let found = found_tree b k c.args.set.bits u.progress.count d.0 d.1 in
    let size : u.progress.len ≡ length d.0 = omega (arith, d.2.longer) in
    record {
      settled = (
        d.0,
        d.1,
        size,
        omega (arith, c.clear-in-Ok-true-2.auto.out, c.if-len-out.false),
        wiped _ c.clear-in-Ok-true-2.new.out c.clear-in-Ok-true-2.auto.out c.clear-in-Ok-true-2.ensures,
      );
      tree = (found.0, size ∙ ap length (sym found.1));
    }

pub returns-in-Ok-false : goal.returns-in-Ok-false
returns-in-Ok-false c =
    let b = c.args.book.now in
    let k = c.args.task.now in
    let u = c.query-found.new.self in
    let d = goal_came b k c.args.set u.progress.count c.args.out.now u.out.now u.progress.len c.in-Ok-false.field-0 false c.in-Ok-false.field-0-test c.in-Ok-false.ensures.told in
    record {
      settled = (d.0, wiped _ c.clear-in-Ok-false.new.out c.clear-in-Ok-false.auto.out c.clear-in-Ok-false.ensures);
      tree = failure_right (setting b k) (query_of c.args.set.bits k.goal.index) 0 u.progress.count d.0;
    }

pub returns-in-Err : goal.returns-in-Err
returns-in-Err c =
    let b = c.args.book.now in
    let k = c.args.task.now in
    let u = c.query-found.new.self in
    let asked = from_nothing b k c.args.set u.progress.count spent c.in-Err.ensures.told in
    record {
      settled = (asked, wiped _ c.clear-in-Err.new.out c.clear-in-Err.auto.out c.clear-in-Err.ensures);
      tree = (counted (setting b k) [] (query_of c.args.set.bits k.goal.index) 0 spent u.progress.count (omega arith) asked).2 refl;
    }
