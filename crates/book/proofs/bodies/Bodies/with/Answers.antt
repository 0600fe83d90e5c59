use Rattle.std.proofs.Common.{◌^◌, ◌<◌, length, sym, ap, ◌∙◌, arith, length-set}
use lib.Bits.{bit_or}
use Rattle.logic.specs.Sets.{mask}
use Rattle.book.specs.Records.{numbers}
use Rattle.book.proofs.Listing.{mask_last, listed_more, numbers_length}
use Rattle.book.proofs.bodies.Bodies.with.Goals as goal

pub returns-then-self-ge-BODIES : goal.returns-then-self-ge-BODIES
returns-then-self-ge-BODIES c = omega (arith, numbers_length c.args.self, c.args.self.few)

pub invariant_of-result : goal.invariant_of-result
invariant_of-result c =
    let b = c.args.self in
    let n = c.args.number in
    let h : b.len < length b.at = omega (arith, b.whole) in record {
      whole = length-set b.at b.len n ∙ b.whole;
      few = omega arith;
      same = c.insert.ensures ∙ ap (λ S. bit_or S (2 ^ n.index)) b.same ∙ sym (mask_last (numbers b) n.index) ∙ ap mask (sym (listed_more b.at b.len n h));
    }

pub returns : goal.returns
returns c =
    let b = c.args.self in
    let h : b.len < length b.at = omega (arith, b.whole) in
    (omega (arith, numbers_length b), listed_more b.at b.len c.args.number h)
