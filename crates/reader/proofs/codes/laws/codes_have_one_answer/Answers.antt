use Rattle.reader.proofs.CodeUnique.{one_reading, one_refusal, never_both, one_answer}
use Rattle.reader.proofs.CodeEarliest.{earliest}
use Rattle.reader.proofs.codes.laws.codes_have_one_answer.Goals as goal

pub returns : goal.returns
returns c = record { reading = one_reading; refusal = one_refusal; apart = never_both; earliest = earliest; total = one_answer }
