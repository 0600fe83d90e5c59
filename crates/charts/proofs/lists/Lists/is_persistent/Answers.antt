use Rattle.std.proofs.Common.{◌≡◌, ℕ, ◌<◌, true, length, get_or, rules, arith}
use Rattle.std.proofs.lemmas.Bool.{ltb-true, lt-ltb, and_parts, and_from}
use Rattle.std.proofs.lemmas.Bool.Decides.{Decides-like}
use Rattle.std.proofs.lemmas.Iterator.{YieldsList-from_slice}
use Rattle.std.proofs.lemmas.Iterator.Consumers.{YieldsList-from_enumerate}
use Rattle.charts.specs.Bits.{bit}
use Rattle.charts.proofs.Each.{decided_each}
use Rattle.charts.proofs.lists.Lists.is_persistent.Goals as goal

pub returns : goal.returns
returns c =
    let lists = c.args.self.now in
    let fs = lists.followers.now in
    let ns = lists.names.now in
    let w = c.args.release in
    let Kept : ℕ → ℕ → Type 0 = λ v word. bit (get_or fs w 0) v ≡ true → (k : ℕ) → bit (get_or ns w 0) k ≡ true → bit word k ≡ true in
    let here = lt-ltb w (length fs) c.requires in
    Decides-like c.all.result
    (λ all v x f h. let near = and_parts _ _ f in let less = ltb-true v (length fs) near.0 in
    and_from _ _ near.0 (all v (omega arith) (and_parts _ _ near.1).1 x (and_parts _ _ h).1))
    (λ t v l b k h. let less : v < length fs = omega arith in
    (and_parts _ _ (t v k (and_from _ _ (lt-ltb v (length fs) less) (and_from _ _ here b)) (and_from _ _ here h))).1)
    (decided_each Kept ns _ _ c.all.result c.all.ensures.ran (YieldsList-from_enumerate (YieldsList-from_slice ns cc) (cc)) (λ x b q call. (search rules, search rules)))
