-- What stands in the draft stands in the sealed book.
use Rattle.service.proofs.Doing.{does_seal}
use Rattle.service.proofs.state.Draft.seal.Goals as goal

pub returns : goal.returns
returns g c = does_seal (record { same = g.K.Key.same; reading = g.K.Written.reading }) c.args.self c.new.result c.new.ensures
