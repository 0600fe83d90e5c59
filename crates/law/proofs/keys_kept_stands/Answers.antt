-- The theorem is the lemma `keys_kept`.
use Rattle.law.proofs.KeysKept.{keys_kept}
use Rattle.law.proofs.keys_kept_stands.Goals as goal

pub returns : goal.returns
returns g c = keys_kept _
