use Rattle.std.proofs.Common.{arith}
use Rattle.book.specs.Books.{records_of}
use Rattle.book.proofs.Telling.{records_few}
use Rattle.charts.proofs.Judged.{judged}
use Rattle.charts.proofs.judging.hold_at.Goals as goal

pub returns : goal.returns
returns g c =
    judged (g.C.Chart.value c.args.chart.now) (records_of c.args.book.now) c.evaluate-masks.result c.evaluate-masks.ensures
    c.count.result c.args.rules.bits c.args.goal.index c.args.release c.all_hold.result c.test_bit.result
    c.count.ensures (omega (arith, records_few c.args.book.now, c.count.ensures)) (omega (arith, c.size.ensures)) c.all_hold.ensures c.test_bit.ensures
