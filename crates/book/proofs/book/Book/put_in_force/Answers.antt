use Rattle.std.proofs.Common.{ℕ, ◌^◌, ◌<◌, sym, subst}
use lib.Bits.{bit_or, or_lt}
use Rattle.std.proofs.lemmas.Nat.{pow_below}
use Rattle.book.proofs.book.Book.put_in_force.Goals as goal

pub invariant_of-self : goal.invariant_of-self
invariant_of-self c =
    let b = c.args.self.now in
    let r = c.args.number.index in
    let fits : bit_or b.in_force.bits (2 ^ r) < 2 ^ b.count = or_lt b.count b.in_force.bits (2 ^ r) b.standing (pow_below r b.count c.if-number-self.true) in record {
      whole = b.whole;
      each = b.each;
      few = b.few;
      few_names = b.few_names;
      earlier = b.earlier;
      named = b.named;
      used = b.used;
      headed = b.headed;
      all = b.all;
      standing = subst (λ (n : ℕ). n < 2 ^ b.count) (sym c.insert-self.ensures) fits;
    }
