use Rattle.book.proofs.Telling.{head_told}
use Rattle.book.proofs.book.Book.head.Goals as goal

pub returns-clause-used : goal.returns-clause-used
returns-clause-used c = head_told c.args.self.now c.args.number.index c.index-self-number.result
