-- The answers of ask and check.
use Rattle.std.specs.Prelude.{Ok, Err, Result}
use Rattle.prover.specs.declared.outcome.Outcome.{Outcome}
use Rattle.prover.specs.declared.outcome.Outcome.TheVariants.{Yes, No, Spent, Long}
use Rattle.prover.specs.declared.verdict.Verdict.{Verdict}
use Rattle.prover.specs.declared.verdict.Verdict.TheVariants.{Accepted, Rejected}
use Rattle.law.specs.Calls.{Answer, refused, long, accepted, rejected}
use Rattle.service.specs.Faults.{refusal}
use Rattle.service.specs.declared.fault.Fault.{Fault}

-- what ask answers
abbrev pub asked : Result Outcome Fault → Answer
asked (Ok (Yes count length)) = Answer.yes count length
asked (Ok (No count)) = Answer.no count
asked (Ok (Spent count)) = Answer.spent count
asked (Ok (Long count length)) = long count length
asked (Err f) = refused (refusal f)

-- what check answers
abbrev pub checked : Result Verdict Fault → Answer
checked (Ok Accepted) = accepted
checked (Ok (Rejected place)) = rejected place
checked (Err f) = refused (refusal f)
