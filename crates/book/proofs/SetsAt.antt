-- The set at a place of a list of sets.
use Rattle.std.proofs.Common.{◌≡◌, ℕ, zero, suc, ◌<◌, List, length, set, replicate, refl, ap}
use Rattle.std.proofs.lemmas.List.{get_or-set_same, get_or-set_other}
use Rattle.book.specs.Records.{set_at}
use Rattle.book.specs.declared.record_set.RecordSet.{RecordSet}

abbrev none : RecordSet
none = record { bits = 0 }

pub set_at_same : (sets : List RecordSet) (x : ℕ) (S : RecordSet) → x < length sets → set_at (set sets x S) x ≡ S.bits
set_at_same sets x S h = ap (λ (V : RecordSet). V.bits) (get_or-set_same sets x S none h)

pub set_at_other : (sets : List RecordSet) (x y : ℕ) (S : RecordSet) → (y ≡ x → ⊥) → set_at (set sets x S) y ≡ set_at sets y
set_at_other sets x y S ne = ap (λ (V : RecordSet). V.bits) (get_or-set_other sets x y S none ne)

pub set_at_none : (n : ℕ) (S : RecordSet) (x : ℕ) → S.bits ≡ 0 → set_at (replicate n S) x ≡ 0
set_at_none zero S x e = refl
set_at_none (suc n) S zero e = e
set_at_none (suc n) S (suc x) e = set_at_none n S x e
