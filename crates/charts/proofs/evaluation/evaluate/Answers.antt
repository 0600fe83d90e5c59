use Rattle.std.proofs.Common.{◌<◌, length, get_or, set, sym, refl, ◌∙◌, subst, not-suc-le-zero, arith, length-set, get_or-set_other, get_or-set_same, below_more}
use Rattle.book.specs.Books.{records_of}
use Rattle.charts.specs.ChartLaws.{getD_zeros}
use Rattle.book.proofs.Telling.{records_few, well_formed}
use Rattle.charts.proofs.Evaluating.{RightAt, right_entry}
use Rattle.charts.proofs.evaluation.evaluate.Goals as goal

pub loop-r-init : goal.loop-r-init
loop-r-init g c = record { whole = refl; right = λ k h. absurd (not-suc-le-zero h); empty = λ k h. getD_zeros 128 k }

pub loop-r-preserved : goal.loop-r-preserved
loop-r-preserved g c =
    let chart = c.args.chart.now in
    let m = g.C.Chart.value chart in
    let b = c.args.book.now in
    let masks = c.loop-r.masks in
    let before = c.loop-r.invariant in
    let r = c.loop-r.r in
    let new = c.holding.result in
    let used : r < length (records_of b) = omega (arith, c.count-r-end.ensures, c.loop-r-test.true) in
    let inside : r < length masks = omega (arith, records_few b, before.whole) in
    record {
      whole = length-set masks r new ∙ before.whole;
      right = below_more (λ k. RightAt m (records_of b) k (get_or (set masks r new) k 0)) r
          (λ k less. subst (RightAt m (records_of b) k) (sym (get_or-set_other masks r k new 0 (λ e. omega arith))) (before.right k less))
          (subst (RightAt m (records_of b) r) (sym (get_or-set_same masks r new 0 inside))
          (right_entry m (g.met.C.Chart.ranged chart) (records_of b) (well_formed b) masks r c.size.result c.rows-followers.result _ _
          c.bodies_hold-met.result c.carriers_of-carriers.result new
          (c.head.ensures.used used) (c.bodies.ensures.used used) c.size.ensures used before.right c.rows-followers.ensures
          c.bodies_hold-met.ensures c.carriers_of-carriers.ensures c.holding.ensures.holds c.holding.ensures.beyond));
      empty = λ k less. get_or-set_other masks r k new 0 (λ e. omega arith) ∙ before.empty k (omega arith);
    }
