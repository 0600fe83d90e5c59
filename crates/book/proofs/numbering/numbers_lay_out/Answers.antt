use Rattle.book.proofs.Building.{numbered_laid_out}
use Rattle.book.proofs.numbering.numbers_lay_out.Goals as goal

pub returns : goal.returns
returns g c = numbered_laid_out _
