-- The answer of look.
use Rattle.std.specs.Prelude.{Ok, Err, Result}
use Rattle.charts.specs.declared.judging.Holding.{Holding}
use Rattle.law.specs.Calls.{Answer, refused, told}
use Rattle.service.specs.Faults.{refusal}
use Rattle.service.specs.declared.fault.Fault.{Fault}

-- what look answers
abbrev pub looked : Result Holding Fault → Answer
looked (Ok h) = told h.rules h.goal
looked (Err f) = refused (refusal f)
