use Rattle.reader.proofs.TextAnswer.{outlined}
use Rattle.reader.proofs.naming.NameWritten.outline.Goals as goal

pub returns : goal.returns
returns c = outlined c.args.bytes.now c.read_text.result c.read_text.ensures
