use Rattle.std.proofs.Common.{sym}
use Rattle.std.proofs.lemmas.List.{take-map}
use Rattle.book.proofs.bodies.Bodies.as_slice.Goals as goal

pub returns : goal.returns
returns c = sym (take-map _ c.args.self.now.len c.args.self.now.at)
