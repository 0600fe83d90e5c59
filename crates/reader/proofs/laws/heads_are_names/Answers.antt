use Rattle.reader.proofs.Heads.{heads_named}
use Rattle.reader.specs.NameBytes.{names_spelt}
use Rattle.reader.proofs.laws.heads_are_names.Goals as goal

pub returns : goal.returns
returns c = record { named = heads_named; spelt = names_spelt }
