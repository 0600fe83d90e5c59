use Rattle.std.proofs.Common.{◌≡◌, ℕ, ◌-◌, ◌^◌, List, get_or, Decides, ap, subst, rules}
use lib.Bits.{bit_and}
use Rattle.std.proofs.lemmas.Bool.Decides.{Decides-at, Decides-like}
use Rattle.std.proofs.lemmas.Iterator.{YieldsList-from_slice}
use Rattle.std.proofs.lemmas.Iterator.Consumers.{fold_from_yields_List}
use Rattle.book.specs.declared.number.RecordNumber.{RecordNumber}
use Rattle.charts.specs.Bits.{bit}
use Rattle.charts.specs.Evaluation.{AllSet}
use Rattle.charts.proofs.MaskLaws.{bit_all, common, common_has}
use Rattle.charts.proofs.evaluation.bodies_hold.Goals as goal

pub returns : goal.returns
returns c = λ v h.
    let masks = c.args.masks.now in
    let bodies = c.as_slice.result.now in
    let all = common masks (2 ^ 64 - 1) bodies in
    let folded : c.fold.result ≡ all =
    fold_from_yields_List _ (λ (met : ℕ) (b : RecordNumber). bit_and met (get_or masks b.index 0)) _ _ c.fold.ensures.ran
    (YieldsList-from_slice bodies cc) (λ a x b q call. (search rules, search rules)) in
    Decides-at (bit c.fold.result v) (bit all v) (ap (λ (x : ℕ). bit x v) folded)
    (subst (λ (bs : List ℕ). Decides (bit all v) (AllSet masks bs v)) c.as_slice.ensures
    (Decides-like (bit all v) (λ p. p.1) (λ set. (bit_all v h, set)) (common_has masks v (2 ^ 64 - 1) bodies)))
