use Rattle.book.proofs.Masks.{has_both}
use Rattle.book.proofs.record_set.RecordSet.common.Goals as goal

pub returns : goal.returns
returns c = has_both c.args.self.bits c.args.other.bits
