use Rattle.book.proofs.Telling.{well_formed}
use Rattle.book.proofs.lookups.book_is_well_formed.Goals as goal

pub returns-clause-bodies : goal.returns-clause-bodies
returns-clause-bodies c = well_formed c.args.book.now
