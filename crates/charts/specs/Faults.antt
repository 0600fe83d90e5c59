-- The number and the place of each fault of a chart.
use Rattle.std.specs.Prelude.{ℕ}
use Rattle.charts.specs.declared.fault.ChartFault.{ChartFault}
use Rattle.charts.specs.declared.fault.ChartFault.TheVariants.{Misfit, Irreflexive, Intransitive, Forgetful}

abbrev pub fault_number : ChartFault → ℕ
fault_number Misfit = 41
fault_number (Irreflexive w) = 42
fault_number (Intransitive w) = 43
fault_number (Forgetful w) = 44

abbrev pub fault_place : ChartFault → ℕ
fault_place Misfit = 0
fault_place (Irreflexive w) = w
fault_place (Intransitive w) = w
fault_place (Forgetful w) = w
