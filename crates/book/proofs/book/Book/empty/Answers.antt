use Rattle.std.proofs.Common.{[], replicate, refl, arith}
use Rattle.book.specs.Records.{set_at}
use Rattle.book.specs.declared.record_set.RecordSet.{RecordSet}
use Rattle.book.proofs.Kept.{earlier_empty, Lists, lists_none}
use Rattle.book.proofs.SetsAt.{set_at_none}
use Rattle.book.proofs.book.Book.empty.Goals as goal

pub invariant_of-result : goal.invariant_of-result
invariant_of-result c =
    let none : RecordSet = record { bits = 0 } in
    let lists : Lists (set_at (replicate 64 none)) 0 [] = lists_none (set_at (replicate 64 none)) (λ x. set_at_none 64 none x refl) in record {
      whole = refl;
      each = refl;
      few = omega arith;
      few_names = omega arith;
      earlier = earlier_empty;
      named = λ r l. absurd (omega arith);
      used = lists.used;
      headed = lists.headed;
      all = lists.all;
      standing = omega arith;
    }
