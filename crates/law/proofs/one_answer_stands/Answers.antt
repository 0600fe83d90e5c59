-- The theorem is the lemma `one_answer_each`.
use Rattle.law.proofs.OneAnswer.{one_answer_each}
use Rattle.law.proofs.one_answer_stands.Goals as goal

pub returns : goal.returns
returns g c = one_answer_each _
