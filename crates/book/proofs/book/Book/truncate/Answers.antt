use Rattle.std.proofs.Common.{◌≡◌, ℕ, ◌^◌, ◌<◌, ◌≤◌, min, max, sym, ap, ◌∙◌, subst, arith, rules}
use Rattle.std.proofs.lemmas.Nat.{pow_pos, mod_below}
use Rattle.book.specs.Books.{needed}
use Rattle.book.specs.Records.{set_at}
use Rattle.book.proofs.Cutting.{cut_earlier, cut_few, cut_named, cut_lists, cut_to, under_to}
use Rattle.book.proofs.book.Book.truncate.Goals as goal

pub invariant_of-self : goal.invariant_of-self
invariant_of-self c =
    let b = c.args.self.now in
    let m = c.min-count.result in
    let e : m ≡ min b.count c.args.mark.records = search rules in
    let le : m ≤ b.count = omega arith in
    let top : c.max-self.result ≡ max c.needed.result c.min.result = search rules in
    let low : c.min.result ≡ min b.names c.args.mark.names = search rules in
    let lists = cut_lists b m le (set_at c.cut.new.sets) c.cut.ensures.sets in
    let need_few = cut_few b m le in record {
      whole = b.whole;
      each = c.cut.ensures.length ∙ b.each;
      few = omega (arith, b.few);
      few_names = omega (arith, b.few_names, c.needed.ensures);
      earlier = cut_earlier b m le;
      named = cut_named b m le c.max-self.result (omega (arith, c.needed.ensures));
      used = lists.used;
      headed = lists.headed;
      all = lists.all;
      standing = subst (λ (n : ℕ). n < 2 ^ m) (sym c.below-self.ensures) (mod_below b.in_force.bits (2 ^ m) (pow_pos m));
    }

pub returns : goal.returns
returns c =
    let b = c.args.self.now in
    let m = c.min-count.result in
    let e : m ≡ min b.count c.args.mark.records = search rules in
    let top : c.max-self.result ≡ max c.needed.result c.min.result = search rules in
    let low : c.min.result ≡ min b.names c.args.mark.names = search rules in
    let records = cut_to b c.args.mark.records m e in
    record {
      records = records;
      names = omega (arith, c.needed.ensures, ap needed records);
      in_force = c.below-self.ensures ∙ under_to b.in_force.bits b.count c.args.mark.records m b.standing e;
    }
