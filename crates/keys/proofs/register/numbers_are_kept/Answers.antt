use Rattle.keys.proofs.Numbering.{numbers_kept}
use Rattle.keys.proofs.register.numbers_are_kept.Goals as goal

pub returns : goal.returns
returns g c = numbers_kept _
