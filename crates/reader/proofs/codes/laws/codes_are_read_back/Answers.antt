use Rattle.reader.proofs.CodePrint.{read_back}
use Rattle.reader.proofs.codes.laws.codes_are_read_back.Goals as goal

pub returns : goal.returns
returns c = read_back
