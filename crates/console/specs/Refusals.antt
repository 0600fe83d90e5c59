-- Why a line is refused, by number and place.
use Rattle.std.specs.Prelude.{ℕ, List}
use Rattle.service.specs.Faults.{fault_number, fault_place}
use Rattle.console.specs.declared.refusals.Refused.{Refused}
use Rattle.console.specs.declared.refusals.Refused.TheVariants.{NotTaken, Unknown, Call}
use Rattle.console.specs.Lines.{bad_line}

abbrev pub refused_number : Refused → ℕ
refused_number NotTaken = 51
refused_number Unknown = 52
refused_number (Call fault) = fault_number fault

abbrev pub refused_place : Refused → ℕ
refused_place NotTaken = 0
refused_place Unknown = 0
refused_place (Call fault) = fault_place fault

-- the line that is printed for a refusal
abbrev pub refused_line : Refused → List ℕ
refused_line r = bad_line (refused_number r) (refused_place r)
