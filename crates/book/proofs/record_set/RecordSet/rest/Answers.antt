use Rattle.std.proofs.Common.{◌≡◌, ℕ, ◌+◌, ◌-◌, ◌%◌, ◌^◌, ◌<◌, ◌↔◌, sym, subst, arith}
use lib.Bits.{bit_and}
use Rattle.logic.specs.Sets.{Has}
use Rattle.book.proofs.Masks.{has_cleared, least_some}
use Rattle.book.proofs.record_set.RecordSet.rest.Goals as goal

pub returns-clause-members : goal.returns-clause-members
returns-clause-members c = λ m k l.
    let S = c.args.self.bits in
    let some = least_some S m l in
    let one_less : (S + (2 ^ 128 - 1)) % 2 ^ 128 ≡ S - 1 = omega arith in
    subst (λ (n : ℕ). Has (bit_and S n) k ↔ (Has S k × (m < k))) (sym one_less) (has_cleared S m k l)
