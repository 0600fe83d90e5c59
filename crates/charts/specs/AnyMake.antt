-- The chart that a chart of any make stands for.
use Rattle.logic.specs.Charts.{Chart}
use Rattle.charts.specs.Makes.{single, lined, charted}
use Rattle.charts.specs.declared.any.AnyChart.{AnyChart}
use Rattle.charts.specs.declared.any.AnyChart.TheVariants.{Single, Line, Map}

-- what its make stands for
abbrev pub made : AnyChart → Chart
made (Single c) = single c.names
made (Line c) = lined c.size c.first
made (Map c) = charted c.size c.followers c.names
