use Rattle.std.proofs.Common.{Decides, nat_lt, subst, rules}
use Rattle.std.proofs.lemmas.Bool.Decides.{Decides-at}
use Rattle.std.proofs.lemmas.Iterator.{YieldsList-from_slice}
use Rattle.std.proofs.lemmas.Iterator.Search.{all_from_yields_List}
use Rattle.logic.specs.Sets.{AllBelow}
use Rattle.book.proofs.Listing.{below_tested}
use Rattle.book.proofs.bodies.Bodies.all_below.Goals as goal

pub returns : goal.returns
returns c =
    let n = c.args.count in
    let bs = c.as_slice.result.now in
    let each = all_from_yields_List (λ b. nat_lt b.index n) _ _ c.all.result c.all.ensures.ran (YieldsList-from_slice bs c.iter.ensures.rest) (λ b t f called. search rules) in
    subst (λ ns. Decides c.all.result (AllBelow n ns)) c.as_slice.ensures (Decides-at _ _ each (below_tested n bs))
