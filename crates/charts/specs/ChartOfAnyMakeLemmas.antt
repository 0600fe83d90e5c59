use Rattle.std.proofs.Common.{rules}
use Rattle.charts.specs.declared.any.AnyChart.{AnyChart}
use Rattle.charts.specs.declared.any.AnyChart.TheVariants.{Single, Line, Map}
use Rattle.charts.specs.AnyMake.{made}
use Rattle.charts.specs.Laws.{ThreeLaws}
use Rattle.charts.specs.Makes.{charted}
use Rattle.charts.specs.ChartLaws.{laws_of}

pub laws : (c : AnyChart) → ThreeLaws (made c)
laws (Single c) = record { reflexive = search rules; transitive = search rules; persistent = search rules }
laws (Line c) = record { reflexive = search rules; transitive = search rules; persistent = search rules }
laws (Map c) = laws_of (charted c.size c.followers c.names) c.laws
