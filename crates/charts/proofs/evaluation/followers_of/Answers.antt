use Rattle.std.proofs.Common.{arith, rules}
use Rattle.charts.proofs.MaskLaws.{word_all}
use Rattle.charts.proofs.evaluation.followers_of.Goals as goal

pub returns : goal.returns
returns g c =
    let chart = c.args.chart.now in
    let told = c.bits_where.ensures in
    word_all ((g.C.Chart.value chart).follows c.args.release) c.bits_where.result c.size.result
    (λ k h. let answer = told.answers k h in search rules) told.beyond
    (λ k e. omega (arith, c.size.ensures, (g.met.C.Chart.ranged chart).follower_in c.args.release k e))
