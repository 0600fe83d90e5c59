use Rattle.std.proofs.Common.{arith}
use Rattle.console.proofs.lines.ok.Goals as goal
use Rattle.console.proofs.Whole.{finished}

pub returns : goal.returns
returns c = finished (omega arith) c.requires c.extend_from_slice.ensures
