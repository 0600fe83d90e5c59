use Rattle.std.proofs.Common.{rules, tests}
use Rattle.std.proofs.lemmas.Iterator.{YieldsList-from_slice}
use Rattle.std.proofs.lemmas.Iterator.Search.{position_from_yields_List}
use Rattle.keys.proofs.Slots.{first_at_position}
use Rattle.keys.proofs.lookup.first_same.Goals as goal

pub returns : goal.returns
returns g c =
    let keys = c.args.keys.now in
    let same = g.K.Key.same in
    first_at_position same keys c.args.key.now c.position.result
    (position_from_yields_List (λ k. same k c.args.key.now) _ _ _ c.position.ensures.ran (YieldsList-from_slice keys (cc)) (λ x b q k. search (rules, tests)))
