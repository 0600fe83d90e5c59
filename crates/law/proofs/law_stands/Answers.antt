-- The theorem is the lemma `law_holds`.
use Rattle.law.proofs.Law.{law_holds}
use Rattle.law.proofs.law_stands.Goals as goal

pub returns : goal.returns
returns g c = law_holds _
