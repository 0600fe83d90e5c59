use Rattle.std.proofs.Common.{◌++◌, ap, ◌∙◌, drop, replicate}
use Rattle.reader.specs.Limits.{name_bytes}
use Rattle.reader.specs.NameBytes.{one_name, padded_is}
use Rattle.reader.proofs.name.Name.new.Goals as goal

pub returns : goal.returns
returns c =
    let len = c.min-len.result in
    let bytes = ap (λ l. l ++ drop len (replicate name_bytes 0)) c.copy_from_slice.ensures.after ∙ padded_is name_bytes len c.args.word.now c.min-len.ensures in
    one_name _ _ _ _ _ _ _ _ c.min-len.ensures bytes
