use Rattle.std.proofs.Common.{refl, ◌∙◌, arith, length-set}
use Rattle.book.specs.declared.record.Record.{Record}
use Rattle.book.proofs.Adding.{length_records, added_earlier, added_named, added_lists, standing_more}
use Rattle.book.proofs.book.Book.push.Goals as goal

pub invariant_of-self : goal.invariant_of-self
invariant_of-self c =
    let b = c.args.self.now in
    let x : Record = record { head = c.args.head; bodies = c.args.bodies } in
    let S = c.insert-listed.result in
    let may = c.if-not-may_stand.ensures.0 refl in
    let more = c.insert-listed.ensures in
    let lists = added_lists b x S may more in record {
      whole = length-set b.records b.count x ∙ b.whole;
      each = length-set b.heads x.head.index S ∙ b.each;
      few = omega (arith, may.room, length_records b);
      few_names = b.few_names;
      earlier = added_earlier b x S may more;
      named = added_named b x S may more;
      used = lists.used;
      headed = lists.headed;
      all = lists.all;
      standing = standing_more b.in_force.bits b.count b.standing;
    }
