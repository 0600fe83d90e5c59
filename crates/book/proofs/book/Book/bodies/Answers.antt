use Rattle.book.proofs.Telling.{bodies_told}
use Rattle.book.proofs.book.Book.bodies.Goals as goal

pub returns-clause-used : goal.returns-clause-used
returns-clause-used c = bodies_told c.args.self.now c.args.number.index c.index-self-number.result
