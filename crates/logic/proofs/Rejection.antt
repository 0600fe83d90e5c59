-- Bytes are accepted or rejected, never both, and rejected at one place only.
use Rattle.std.proofs.Common.{◌≡◌, ℕ, ◌+◌, Bool, T, ◌⊎◌, List, [], ◌∷◌, ◌++◌, sym, refl, subst, inl, inr}
use native.Mathlib.Decide.{ℕ_discrete}
use Rattle.logic.specs.Rules.{Book, bodies_of}
use Rattle.logic.specs.Trees.{Applies}
use Rattle.logic.specs.Search.{Query}
use Rattle.logic.specs.Check.{Answers, none_waits, rule_byte, restart_byte, body_queries}
use Rattle.logic.proofs.Heights.{dec_applies}
use Rattle.logic.proofs.Tests.{dec_T}
use Rattle.logic.specs.Check.{Rejects, too_many, no_kind, no_record, wrong_kind, no_restart, wrong_record, after_record, after_restart, RejectsRight}

module _ (book : Book) (restart : Bool) (g : ℕ) where
  abbrev Settled : List Query → ℕ → List ℕ → Type 0
  Settled qs i bs = Answers book restart g qs bs ⊎ ((p : ℕ) × Rejects book restart g qs i bs p)

  -- the query after a rule byte or a restart byte
  abbrev by_record : Query → List Query → ℕ → List Query
  by_record q qs r = body_queries book q.in_force (bodies_of book r) ++ qs

  abbrev by_restart : Query → List Query → List Query
  by_restart q qs = record { in_force = q.in_force; name = g } ∷ qs

  -- ---- accepted or rejected

  on_record : (q : Query) (qs : List Query) (i r : ℕ) (bs : List ℕ) → Dec (Applies book q.in_force q.name r)
      → Settled (by_record q qs r) (i + 2) bs → Settled (q ∷ qs) i (1 ∷ r ∷ bs)
  on_record q qs i r bs (yes a) (inl w) = inl (rule_byte r a w)
  on_record q qs i r bs (yes a) (inr w) = inr (w.0, after_record a w.1)
  on_record q qs i r bs (no a) s = inr (i + 1, wrong_record a)

  on_restart : (q : Query) (qs : List Query) (i : ℕ) (bs : List ℕ) → Dec (T restart)
      → Settled (by_restart q qs) (i + 1) bs → Settled (q ∷ qs) i (2 ∷ bs)
  on_restart q qs i bs (yes t) (inl w) = inl (restart_byte t w)
  on_restart q qs i bs (yes t) (inr w) = inr (w.0, after_restart t w.1)
  on_restart q qs i bs (no t) s = inr (i, no_restart t)

  settle : (bs : List ℕ) (qs : List Query) (i : ℕ) → Settled qs i bs
  settle [] [] i = inl none_waits
  settle [] (q ∷ qs) i = inr (i, no_kind)
  settle (c ∷ []) [] i = inr (i, too_many)
  settle (c ∷ r ∷ bs) [] i = inr (i, too_many)
  settle (c ∷ []) (q ∷ qs) i = go (ℕ_discrete c 1) (ℕ_discrete c 2) (settle [] (by_restart q qs) (i + 1))
    where
      go : Dec (c ≡ 1) → Dec (c ≡ 2) → Settled (by_restart q qs) (i + 1) [] → Settled (q ∷ qs) i (c ∷ [])
      go (yes e) d s = subst (λ (k : ℕ). Settled (q ∷ qs) i (k ∷ [])) (sym e) (inr (i + 1, no_record))
      go (no e) (yes f) s = subst (λ (k : ℕ). Settled (q ∷ qs) i (k ∷ [])) (sym f) (on_restart q qs i [] (dec_T restart) s)
      go (no e) (no f) s = inr (i, wrong_kind e f)
  settle (c ∷ r ∷ bs) (q ∷ qs) i =
      go (ℕ_discrete c 1) (ℕ_discrete c 2) (settle bs (by_record q qs r) (i + 2)) (settle (r ∷ bs) (by_restart q qs) (i + 1))
    where
      go : Dec (c ≡ 1) → Dec (c ≡ 2) → Settled (by_record q qs r) (i + 2) bs → Settled (by_restart q qs) (i + 1) (r ∷ bs)
          → Settled (q ∷ qs) i (c ∷ r ∷ bs)
      go (yes e) d s u =
          subst (λ (k : ℕ). Settled (q ∷ qs) i (k ∷ r ∷ bs)) (sym e) (on_record q qs i r bs (dec_applies book q.in_force q.name r) s)
      go (no e) (yes f) s u = subst (λ (k : ℕ). Settled (q ∷ qs) i (k ∷ r ∷ bs)) (sym f) (on_restart q qs i (r ∷ bs) (dec_T restart) u)
      go (no e) (no f) s u = inr (i, wrong_kind e f)

  -- ---- what a rejection comes from

  from_record : {q : Query} {qs : List Query} {i r : ℕ} {bs : List ℕ} {p : ℕ} → Applies book q.in_force q.name r
      → Rejects book restart g (q ∷ qs) i (1 ∷ r ∷ bs) p → Rejects book restart g (by_record q qs r) (i + 2) bs p
  from_record a (wrong_kind e f) = absurd (e refl)
  from_record a (wrong_record b) = absurd (b a)
  from_record a (after_record b w) = w

  from_restart : {q : Query} {qs : List Query} {i : ℕ} {bs : List ℕ} {p : ℕ} → T restart
      → Rejects book restart g (q ∷ qs) i (2 ∷ bs) p → Rejects book restart g (by_restart q qs) (i + 1) bs p
  from_restart t (wrong_kind e f) = absurd (f refl)
  from_restart t (no_restart u) = absurd (u t)
  from_restart t (after_restart u w) = w

  at_too_many : {i c : ℕ} {bs : List ℕ} {p : ℕ} → Rejects book restart g [] i (c ∷ bs) p → i ≡ p
  at_too_many too_many = refl

  at_no_kind : {q : Query} {qs : List Query} {i p : ℕ} → Rejects book restart g (q ∷ qs) i [] p → i ≡ p
  at_no_kind no_kind = refl

  at_no_record : {q : Query} {qs : List Query} {i p : ℕ} → Rejects book restart g (q ∷ qs) i (1 ∷ []) p → i + 1 ≡ p
  at_no_record no_record = refl
  at_no_record (wrong_kind e f) = absurd (e refl)

  at_wrong_kind : {q : Query} {qs : List Query} {i c : ℕ} {bs : List ℕ} {p : ℕ} → ¬ (c ≡ 1) → ¬ (c ≡ 2)
      → Rejects book restart g (q ∷ qs) i (c ∷ bs) p → i ≡ p
  at_wrong_kind e f no_record = absurd (e refl)
  at_wrong_kind e f (wrong_kind e' f') = refl
  at_wrong_kind e f (no_restart t) = refl
  at_wrong_kind e f (wrong_record a) = absurd (e refl)
  at_wrong_kind e f (after_record a w) = absurd (e refl)
  at_wrong_kind e f (after_restart t w) = absurd (f refl)

  at_no_restart : {q : Query} {qs : List Query} {i : ℕ} {bs : List ℕ} {p : ℕ} → ¬ T restart
      → Rejects book restart g (q ∷ qs) i (2 ∷ bs) p → i ≡ p
  at_no_restart t (wrong_kind e f) = refl
  at_no_restart t (no_restart u) = refl
  at_no_restart t (after_restart u w) = absurd (t u)

  at_wrong_record : {q : Query} {qs : List Query} {i r : ℕ} {bs : List ℕ} {p : ℕ} → ¬ Applies book q.in_force q.name r
      → Rejects book restart g (q ∷ qs) i (1 ∷ r ∷ bs) p → i + 1 ≡ p
  at_wrong_record a (wrong_kind e f) = absurd (e refl)
  at_wrong_record a (wrong_record b) = refl
  at_wrong_record a (after_record b w) = absurd (a b)

  -- ---- never both, and one place

  not_both : {qs : List Query} {i : ℕ} {bs : List ℕ} {p : ℕ} → Answers book restart g qs bs → Rejects book restart g qs i bs p → ⊥
  not_both none_waits w = elim w [ ]
  not_both (rule_byte r a u) w = not_both u (from_record a w)
  not_both (restart_byte t u) w = not_both u (from_restart t w)

  same_place : {qs : List Query} {i : ℕ} {bs : List ℕ} {p p' : ℕ} → Rejects book restart g qs i bs p → Rejects book restart g qs i bs p' → p ≡ p'
  same_place too_many w = at_too_many w
  same_place no_kind w = at_no_kind w
  same_place no_record w = at_no_record w
  same_place (wrong_kind e f) w = at_wrong_kind e f w
  same_place (no_restart t) w = at_no_restart t w
  same_place (wrong_record a) w = at_wrong_record a w
  same_place (after_record a u) w = same_place u (from_record a w)
  same_place (after_restart t u) w = same_place u (from_restart t w)

pub rejects_right : RejectsRight
rejects_right = record {
  either = λ book restart g qs i bs. settle book restart g bs qs i;
  never_both = λ book restart g qs i bs p u w. not_both book restart g u w;
  one_place = λ book restart g qs i bs p p' u w. same_place book restart g u w;
}
