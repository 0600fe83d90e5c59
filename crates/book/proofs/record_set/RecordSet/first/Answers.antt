use Rattle.std.proofs.Common.{◌^◌, ◌<◌, arith}
use Rattle.book.proofs.Masks.{trailing_least}
use Rattle.book.proofs.record_set.RecordSet.first.Goals as goal

pub returns : goal.returns
returns c =
    let fits : c.args.self.bits < 2 ^ 128 = omega arith in
    (trailing_least 128 c.args.self.bits (omega arith) fits).0
