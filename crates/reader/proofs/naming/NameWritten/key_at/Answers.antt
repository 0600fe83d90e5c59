use Rattle.std.proofs.Common.{sym, ap, ◌∙◌, subst}
use Rattle.reader.specs.Names.{named}
use Rattle.reader.specs.TextTotal.{text_reading}
use Rattle.reader.specs.Written.{KeyAt}
use Rattle.reader.proofs.TextAnswer.{key_stands}
use Rattle.reader.proofs.naming.NameWritten.key_at.Goals as goal

pub returns : goal.returns
returns c =
    let bs = c.args.bytes.now in
    subst (λ k. KeyAt (text_reading bs) c.args.place k) (sym (c.new.ensures ∙ ap named c.word_at.ensures)) (key_stands bs c.args.place)
