-- The mask of the names begun is kept through the search.
use Rattle.std.proofs.Common.{◌≡◌, ℕ, zero, ◌^◌, List, [], ◌∷◌, sym, ap, subst, ⊎_elim, arith}
use lib.Bits.{bit_or}
use Rattle.logic.specs.Sets.{Has, Within}
use Rattle.logic.specs.Search.{Query, On, here, there}
use Rattle.logic.specs.Begun.{Tracks, TracksKept}
use Rattle.logic.proofs.Sets.{has_left, has_right, has_split, has_self, has_only, has_zero, or_grows, within_self, within_join, within_trans}
use Rattle.logic.proofs.Ways.{nothing_on, on_cases}

tracks_start : (S : ℕ) → Tracks [] S zero
tracks_start S = record { grown = λ q o. absurd (nothing_on o); begun = λ x. (λ o. absurd (nothing_on o), λ h. absurd (has_zero x h)) }

tracks_begin : (way : List Query) (S names x : ℕ) → Tracks way S names → Tracks (record { in_force = S; name = x } ∷ way) S (bit_or names (2 ^ x))
tracks_begin way S names x t = record {
  grown = λ q o. ⊎_elim (λ e. subst (λ (p : Query). Within p.in_force S) (sym e) (within_self S)) (t.grown q) (on_cases o);
  begun = λ y. (
    λ o. ⊎_elim
        (λ e. has_right names (2 ^ x) y (subst (λ (n : ℕ). Has (2 ^ x) n) (sym (ap (λ (p : Query). p.name) e)) (has_self x)))
        (λ k. has_left names (2 ^ x) y ((t.begun y).0 k)) (on_cases o),
    λ h. ⊎_elim (λ k. there ((t.begun y).1 k))
        (λ k. subst (λ (n : ℕ). On (record { in_force = S; name = n }) (record { in_force = S; name = x } ∷ way)) (has_only x y k) here)
        (has_split names (2 ^ x) y h),
  );
}

tracks_larger : (way : List Query) (S names B : ℕ) → Tracks way S names → (bit_or S B ≡ S → ⊥) → Tracks way (bit_or S B) zero
tracks_larger way S names B t new = record {
  grown = λ q o. within_trans q.in_force S (bit_or S B) (t.grown q o) (within_join S B);
  begun = λ x. (
    λ o. absurd
        (let w : Within (bit_or S B) S = t.grown (record { in_force = bit_or S B; name = x }) o in
        new (omega (arith, or_grows S B, or_grows (bit_or S B) S, w))),
    λ h. absurd (has_zero x h),
  );
}

tracks_same : (way : List Query) (S names B : ℕ) → Tracks way S names → bit_or S B ≡ S → Tracks way (bit_or S B) names
tracks_same way S names B t e = subst (λ (n : ℕ). Tracks way n names) (sym e) t

pub tracks_kept : TracksKept
tracks_kept = record { start = tracks_start; begin = tracks_begin; larger = tracks_larger; same = tracks_same }
