use Rattle.std.proofs.Common.{sym}
use Rattle.std.proofs.lemmas.List.{take-map}
use Rattle.book.proofs.key_numbers.KeyNumbers.as_slice.Goals as goal

pub returns : goal.returns
returns c = sym (take-map _ c.args.self.now.count c.args.self.now.at)
