use Rattle.book.proofs.Masks.{bit_decides}
use Rattle.prover.proofs.in_force.InForce.has_begun.Goals as goal

pub returns : goal.returns
returns c = bit_decides c.args.self.now.begun c.args.name.index
