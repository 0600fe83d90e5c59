use Rattle.reader.proofs.CodeHeads.{heads_whole}
use Rattle.reader.proofs.codes.laws.codes_have_heads.Goals as goal

pub returns : goal.returns
returns c = heads_whole
