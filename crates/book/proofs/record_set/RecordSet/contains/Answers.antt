use Rattle.book.proofs.Masks.{bit_decides}
use Rattle.book.proofs.record_set.RecordSet.contains.Goals as goal

pub returns : goal.returns
returns c = bit_decides c.args.self.bits c.args.number.index
