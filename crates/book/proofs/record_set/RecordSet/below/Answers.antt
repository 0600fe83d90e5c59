use Rattle.std.proofs.Common.{◌-◌, ◌^◌, ◌<◌, ◌≤◌, sym, ap, ◌∙◌, mod-eq_of_lt, arith}
use native.Mathlib.Nat.{pow-le-pow_right}
use lib.Bits.{bit_and, and_mask}
use Rattle.std.proofs.lemmas.Nat.{one_shl}
use Rattle.book.proofs.record_set.RecordSet.below.Goals as goal

pub returns-then-count-ge-RECORDS : goal.returns-then-count-ge-RECORDS
returns-then-count-ge-RECORDS c =
    let fits : c.args.self.bits < 2 ^ 128 = omega arith in
    let wide : 2 ^ 128 ≤ 2 ^ c.args.count = pow-le-pow_right (omega arith) {i = 128} {j = c.args.count} (omega arith) in
    sym (mod-eq_of_lt (omega arith))

pub returns : goal.returns
returns c =
    ap (λ n. bit_and c.args.self.bits (n - 1)) (one_shl c.args.count 128 (omega arith)) ∙ and_mask c.args.self.bits c.args.count
