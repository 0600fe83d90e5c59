-- What the masks of an evaluation tell of one release.
use Rattle.std.proofs.Common.{◌≡◌, ℕ, ◌<◌, ◌≤◌, Bool, true, List, length, get_or, take, Some, Decides, sym, ap, ◌∙◌, subst, arith}
use Rattle.std.proofs.lemmas.Bool.Decides.{Decides-like, Decides-at}
use Rattle.std.proofs.lemmas.List.{length-take-le, get_or-take}
use Rattle.logic.specs.Sets.{Has}
use Rattle.logic.specs.Rules.{Book}
use Rattle.logic.specs.Charts.{Chart}
use Rattle.charts.specs.Bits.{bit}
use Rattle.charts.specs.Evaluation.{Evaluated}
use Rattle.charts.specs.Judging.{HoldAt}
use Rattle.charts.specs.BitLaws.{bit_zero}

-- the masks of the records of the set S have the release w
abbrev pub AllHave : List ℕ → ℕ → ℕ → Type 0
AllHave masks S w = (k : ℕ) → k < length masks → Has S k → bit (get_or masks k 0) w ≡ true

pub judged : (m : Chart) (book : Book) (masks : List ℕ) → Evaluated m book masks
    → (n S q w : ℕ) (all goal : Bool) → n ≡ length book → n ≤ length masks → w < m.size
    → Decides all (AllHave (take n masks) S w) → goal ≡ bit (get_or masks q 0) w → HoldAt m book S q w (Some (record { rules = all; goal = goal }))
judged m book masks is n S q w all goal same whole l told e = (
  l,
  Decides-like all
      (λ have r h s. (is.holds r w h l).0 (subst (λ (x : ℕ). bit x w ≡ true) (get_or-take n masks r 0 (omega arith)) (have r (omega (arith, long)) s)))
      (λ hold k h s. let below : k < n = omega (arith, long) in
      subst (λ (x : ℕ). bit x w ≡ true) (sym (get_or-take n masks k 0 below)) ((is.holds k w (omega arith) l).1 (hold k (omega arith) s))) told,
  λ h. Decides-at goal (bit (get_or masks q 0) w) e (is.holds q w h l),
  λ h. e ∙ ap (λ (x : ℕ). bit x w) (is.unused q h) ∙ bit_zero w,
)
  where
    long : length (take n masks) ≡ n
    long = length-take-le n masks whole
