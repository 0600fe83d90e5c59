-- What is kept of the bytes that are put in.
use Rattle.std.proofs.Common.{◌≡◌, ℕ, ◌+◌, ◌-◌, ◌≤◌, min, List, ◌++◌, length, take, sym, ap, ◌∙◌, arith, length-take, take_all, append-nil}
use Rattle.std.proofs.Math.Seq.{take-append-add}
use Rattle.std.proofs.lemmas.List.{take-append-le, take_min}
use native.Mathlib.Decide.{dec_le}

-- more of the whole is kept as far as there is room
pub kept_more : (n len k : ℕ) (bytes whole more : List ℕ) → length bytes ≡ n → len ≤ n → k ≡ min (length more) (n - len) → take len bytes ≡ take n whole
    → take len bytes ++ take k more ≡ take n (whole ++ more)
kept_more n len k bytes whole more full fits least kept = go (dec_le (length whole) n)
  where
    counted : min len (length bytes) ≡ min n (length whole)
    counted = sym (length-take len bytes) ∙ ap length kept ∙ length-take n whole

    go : Dec (length whole ≤ n) → take len bytes ++ take k more ≡ take n (whole ++ more)
    go (yes short) =
        let here : len ≡ length whole = let c = counted in omega arith in
        let room : min (n - length whole) (length more) ≡ k = omega arith in
        let there : n ≡ length whole + (n - length whole) = omega arith in
        ap (λ (t : List ℕ). t ++ take k more) (kept ∙ take_all n whole short)
        ∙ ap (λ (t : List ℕ). whole ++ t) (ap (λ j. take j more) (sym room) ∙ take_min (n - length whole) more)
        ∙ sym (ap (λ j. take j (whole ++ more)) there ∙ take-append-add whole more (n - length whole))
    go (no long) =
        let none : k ≡ 0 = let c = counted in omega arith in
        ap (λ j. take len bytes ++ take j more) none ∙ append-nil (take len bytes) ∙ kept ∙ sym (take-append-le n whole more (omega arith))
