use Rattle.std.proofs.Common.{ℕ, subst, arith}
use Rattle.logic.specs.Sets.{Has}
use Rattle.book.specs.Records.{set_at}
use Rattle.book.proofs.Adding.{length_records}
use Rattle.book.proofs.book.Book.with_head.Goals as goal

pub returns : goal.returns
unfolding Has
returns c =
    let b = c.args.self.now in
    λ r. (
      λ h. (omega (arith, length_records b, b.used c.args.name.index r h), b.headed c.args.name.index r h),
      λ h. subst (λ (x : ℕ). Has (set_at b.heads x) r) h.1 (b.all r (omega (arith, length_records b, h.0))),
    )
