-- At the start nothing stands.
use Rattle.service.proofs.Doing.{does_new}
use Rattle.service.proofs.state.Draft.new.Goals as goal

pub returns : goal.returns
returns g c =
    does_new (record { same = g.K.Key.same; reading = g.K.Written.reading }) (record { register = c.new.result; book = c.empty.result }) _
    c.new.ensures.keys c.new.ensures.slots c.empty.ensures
