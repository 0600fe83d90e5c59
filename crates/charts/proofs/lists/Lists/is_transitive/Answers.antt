use Rattle.std.proofs.Common.{◌≡◌, ℕ, ◌<◌, true, length, get_or, rules, sym, ◌∙◌, arith}
use lib.Bits.{bit_and}
use Rattle.std.proofs.lemmas.Bool.{ltb-true, and_parts}
use Rattle.std.proofs.lemmas.Bool.Decides.{Decides-like}
use Rattle.std.proofs.lemmas.Iterator.{YieldsList-from_slice}
use Rattle.std.proofs.lemmas.Iterator.Consumers.{YieldsList-from_enumerate}
use Rattle.charts.specs.Bits.{bit}
use Rattle.charts.specs.ChartLaws.{live_followers}
use Rattle.charts.specs.Filling.{listed}
use Rattle.charts.proofs.Each.{decided_each}
use Rattle.charts.proofs.lists.Lists.is_transitive.Goals as goal

pub returns : goal.returns
returns c =
    let fs = c.args.self.now.followers.now in
    let live = c.low_bits-live.result in
    let own = bit_and (get_or fs c.args.release 0) live in
    let m = listed fs c.args.self.now.names.now in
    let follow : (v k : ℕ) → v < length fs → bit (bit_and (get_or fs v 0) live) k ≡ m.follows v k =
    λ v k h. live_followers fs c.args.self.now.names.now v live k c.low_bits-live.ensures h in
    let Onward : ℕ → ℕ → Type 0 = λ v word. bit own v ≡ true → (k : ℕ) → bit (bit_and word live) k ≡ true → bit own k ≡ true in
    Decides-like c.all.result
    (λ all v u a b. let h : v < length fs = omega (arith, ltb-true v (length fs) (and_parts _ _ a).0) in
    sym (follow c.args.release u c.requires) ∙ all v h (follow c.args.release v c.requires ∙ a) u (follow v u h ∙ b))
    (λ t v h a u b. follow c.args.release u c.requires ∙ t v u (sym (follow c.args.release v c.requires) ∙ a) (sym (follow v u h) ∙ b))
    (decided_each Onward fs _ _ c.all.result c.all.ensures.ran (YieldsList-from_enumerate (YieldsList-from_slice fs cc) (cc)) (λ x b q call. (search rules, search rules)))
