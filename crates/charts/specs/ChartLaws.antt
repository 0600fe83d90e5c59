-- What holds of charts and their makes.
use Rattle.std.specs.Prelude.{◌≡◌, ℕ, zero, suc, ◌+◌, ◌<◌, ◌≤◌, Bool, true, false, ◌&&◌, T, ◌⊎◌, List, [], ◌∷◌, ◌++◌, length, drop, replicate, ◌==◌, nat_lt, slice_index, refl}
use Rattle.std.proofs.Common.{sym, ap, ◌∙◌, subst, inl, inr, arith}
use Rattle.std.proofs.Math.Bool.{Bool-set, and-false}
use Rattle.std.specs.Bool.{passes}
use mathlib.Core.HLevel.{Π_prop}
use Rattle.std.proofs.Math.Logic.{∥∥₁_elim}
use Rattle.std.specs.Int.Bits.{bit_and}
use Rattle.std.proofs.lemmas.List.{get_or-drop, get_or-replicate}
use Rattle.std.proofs.lemmas.Bool.{lt-ltb, le-ltb, ltb-true, and_parts, cases_lt}
use Rattle.std.proofs.lemmas.Bool.Decides.{nat_tests}
use Rattle.charts.specs.Bits.{bit}
use Rattle.logic.specs.Charts.{Chart, Lawful}
use Rattle.charts.specs.Laws.{Ranged, Reflexive, Transitive, Persistent, ThreeLaws}
use Rattle.charts.specs.Makes.{single, lined, charted}
use Rattle.charts.specs.Filling.{Fresh, listed}
use Rattle.charts.specs.BitLaws.{bit_of_and, bit_zero}

-- ---- the laws are propositions, so a truncated proof of them serves as a proof

reflexive_prop : (m : Chart) → IsProp (Reflexive m)
reflexive_prop m = Π_prop λ w. Π_prop λ _. Bool-set _ _

transitive_prop : (m : Chart) → IsProp (Transitive m)
transitive_prop m = Π_prop λ w. Π_prop λ _. Π_prop λ v. Π_prop λ u. Π_prop λ _. Π_prop λ _. Bool-set _ _

persistent_prop : (m : Chart) → IsProp (Persistent m)
persistent_prop m = Π_prop λ w. Π_prop λ _. Π_prop λ v. Π_prop λ x. Π_prop λ _. Π_prop λ _. Bool-set _ _

pub laws_prop : (m : Chart) → IsProp (ThreeLaws m)
laws_prop m a b = λ i. record {
  reflexive = reflexive_prop m a.reflexive b.reflexive i;
  transitive = transitive_prop m a.transitive b.transitive i;
  persistent = persistent_prop m a.persistent b.persistent i;
}

pub laws_of : (m : Chart) → ∥ ThreeLaws m ∥₁ → ThreeLaws m
laws_of m t = ∥∥₁_elim t (laws_prop m) (λ l. l)

-- ---- the laws make a chart lawful

pub from_T : (b : Bool) → T b → b ≡ true
from_T true t = refl
from_T false t = absurd t

pub lawful : (m : Chart) → Ranged m → Reflexive m → Transitive m → Persistent m → Lawful m
lawful m ranged reflexive transitive persistent = record {
  inside = λ w v f. let e = from_T (m.follows w v) f in (ranged.followed_in w v e, ranged.follower_in w v e);
  itself = λ w h. passes (m.follows w w) (reflexive w h);
  onward = λ u v w f g. let e = from_T (m.follows u v) f in
      passes (m.follows u w) (transitive u (ranged.followed_in u v e) v w e (from_T (m.follows v w) g));
  keeps = λ w v x f c. let e = from_T (m.follows w v) f in
      passes (m.carries v x) (persistent w (ranged.followed_in w v e) v x e (from_T (m.carries w x) c));
}

-- ---- maps

-- zeros read as zero, past their end too
pub getD_zeros : (n k : ℕ) → ◌≡◌ {A = ℕ} (slice_index (replicate n 0) k) 0
getD_zeros zero k = refl
getD_zeros (suc n) zero = refl
getD_zeros (suc n) (suc k) = getD_zeros n k

-- the live bits of word v are the followers of v
pub live_followers : (fs ns : List ℕ) (v live k : ℕ) → ((j : ℕ) → bit live j ≡ nat_lt j (length fs)) → v < length fs
    → bit (bit_and (slice_index fs v) live) k ≡ (listed fs ns).follows v k
live_followers fs ns v live k lives h =
    bit_of_and (slice_index fs v) live k ∙ ap (λ (x : Bool). bit (slice_index fs v) k && x) (lives k)
    ∙ swapped (bit (slice_index fs v) k) (nat_lt k (length fs)) (nat_lt v (length fs)) (lt-ltb v (length fs) h)
  where
    swapped : (x y l : Bool) → l ≡ true → (x && y) ≡ (y && (l && x))
    swapped true true true e = refl
    swapped true true false e = sym e
    swapped true false l e = refl
    swapped false true true e = refl
    swapped false true false e = refl
    swapped false false l e = refl

-- words and zeros after them read as the words
pub padded_reads : (ws : List ℕ) (n m k : ℕ) → slice_index (ws ++ drop m (replicate n 0)) k ≡ slice_index ws k
padded_reads [] n m k = get_or-drop m (replicate n 0) k 0 ∙ getD_zeros n (m + k)
padded_reads (w ∷ ws) n m zero = refl
padded_reads (w ∷ ws) n m (suc k) = padded_reads ws n m k

-- lists that read alike describe one chart
pub same_charted : (n : ℕ) (fs gs ns ms : List ℕ) → ((k : ℕ) → slice_index fs k ≡ slice_index gs k) → ((k : ℕ) → slice_index ns k ≡ slice_index ms k)
    → charted n fs ns ≡ charted n gs ms
same_charted n fs gs ns ms f h = λ i. record {
  size = n;
  follows = λ w v. nat_lt v n && (nat_lt w n && bit (f w i) v);
  carries = λ w x. nat_lt w n && bit (h w i) x;
}

-- a single release that follows itself is a lawful chart
pub one_lawful : (fs ns : List ℕ) → bit (slice_index fs 0) 0 ≡ true → ThreeLaws (charted 1 fs ns)
one_lawful fs ns self = record {
  reflexive = λ w h. let zero_is : 0 ≡ w = omega arith in subst (λ x. (charted 1 fs ns).follows x x ≡ true) zero_is self;
  transitive = λ w h v u a b. subst (λ x. (charted 1 fs ns).follows x u ≡ true) (one v w h a) b;
  persistent = λ w h v x a b. subst (λ y. (charted 1 fs ns).carries y x ≡ true) (sym (one v w h a)) b;
}
  where
    one : (v w : ℕ) → w < 1 → (charted 1 fs ns).follows w v ≡ true → v ≡ w
    one v w h a = omega (arith, ltb-true v 1 (and_parts _ _ a).0)

-- ---- charts that carry nothing

pub single_fresh : Fresh (single 0)
single_fresh = (refl, λ w x. ap (λ (y : Bool). (w == 0) && y) (bit_zero x) ∙ and-false (w == 0))

pub map_fresh : (fs : List ℕ) → Fresh (charted 1 fs (replicate 64 0))
map_fresh fs =
    (refl, λ w x. ap (λ (y : ℕ). nat_lt w 1 && bit y x) (getD_zeros 64 w) ∙ ap (λ (y : Bool). nat_lt w 1 && y) (bit_zero x) ∙ and-false (nat_lt w 1))

pub line_fresh : Fresh (lined 1 (replicate 64 1))
line_fresh = (refl, λ w x. go w x (cases_lt x 64))
  where
    go : (w x : ℕ) → (x < 64) ⊎ (64 ≤ x) → (lined 1 (replicate 64 1)).carries w x ≡ false
    go w x (inl h) = let first : ◌≡◌ {A = ℕ} (slice_index (replicate 64 1) x) 1 = get_or-replicate 64 x 1 0 h in rw first (grind (arith, nat_tests))
    go w x (inr h) = rw (le-ltb x 64 h) (grind (arith, nat_tests))
