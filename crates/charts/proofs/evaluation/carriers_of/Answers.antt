use Rattle.std.proofs.Common.{arith, rules}
use Rattle.charts.proofs.MaskLaws.{word_all}
use Rattle.charts.proofs.evaluation.carriers_of.Goals as goal

pub returns : goal.returns
returns g c =
    let chart = c.args.chart.now in
    let told = c.bits_where.ensures in
    word_all (λ w. (g.C.Chart.value chart).carries w c.args.number) c.bits_where.result c.size.result
    (λ k h. let answer = told.answers k h in search rules) told.beyond
    (λ k e. omega (arith, c.size.ensures, (g.met.C.Chart.ranged chart).carrier_in k c.args.number e))
