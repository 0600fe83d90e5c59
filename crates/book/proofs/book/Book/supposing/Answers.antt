use Rattle.std.proofs.Common.{get_or, ap, ◌∙◌}
use lib.Bits.{bit_or}
use Rattle.logic.specs.Rules.{supposing}
use Rattle.logic.specs.Sets.{mask}
use Rattle.book.proofs.Telling.{bodies_told}
use Rattle.book.proofs.book.Book.supposing.Goals as goal

pub returns-clause-used : goal.returns-clause-used
unfolding supposing
returns-clause-used c =
    let b = c.args.self.now in
    let r = c.args.number in
    let d = c.index-self-number.result in
    λ l. c.union.ensures ∙ ap (bit_or c.args.set.bits) ((get_or b.records r.index d).bodies.same ∙ ap mask (bodies_told b r.index d l))
