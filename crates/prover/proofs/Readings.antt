-- The steps of the check at a place of the bytes.
use Rattle.std.proofs.Common.{◌≡◌, ℕ, ◌+◌, ◌<◌, ◌≤◌, Bool, T, List, [], ◌∷◌, ◌++◌, length, get_or, drop, Some, None, Ok, Err, Option, Result, sym, refl, ap, ◌∙◌, subst, arith}
use Rattle.std.proofs.lemmas.List.{drop_more, drop_all}
use Rattle.std.specs.Option.{ok_or}
use Rattle.logic.proofs.Check.{check_right}
use Rattle.logic.proofs.Rejection.{rejects_right}
use Rattle.logic.specs.Check.{body_queries, Answers, none_waits, rule_byte, restart_byte, Rejects, too_many, no_kind, no_record, wrong_kind, no_restart, wrong_record, after_record, after_restart}
use Rattle.logic.specs.Rules as rules
use Rattle.logic.specs.Rules.{head_of, bodies_of, supposing}
use Rattle.logic.specs.Search.{Query}
use Rattle.logic.specs.Trees.{Applies}
use Rattle.book.specs.declared.number.RecordNumber.{RecordNumber}
use Rattle.prover.specs.Read.{Judged, OfTrees, Took, Applying}
use Rattle.prover.specs.Settings.{query_of}
use Rattle.prover.specs.declared.verdict.Misread.{Misread}
use Rattle.prover.specs.declared.verdict.Verdict.{Verdict}
use Rattle.prover.specs.declared.verdict.Verdict.TheVariants.{Accepted, Rejected}

-- the byte at a place, and those behind it
at_front : (t : List ℕ) (p y : ℕ) → p < length t → get_or t p 0 ≡ y → drop p t ≡ y ∷ drop (p + 1) t
at_front t p y h e = drop_more t p 0 h ∙ ap (λ (z : ℕ). z ∷ drop (p + 1) t) e

at_rule : (t : List ℕ) (p : ℕ) → p + 1 < length t → get_or t p 0 ≡ 1 → drop p t ≡ 1 ∷ get_or t (p + 1) 0 ∷ drop (p + 2) t
at_rule t p h e =
    at_front t p 1 (omega arith) e ∙ ap (λ (l : List ℕ). 1 ∷ l) (drop_more t (p + 1) 0 h)
    ∙ ap (λ (n : ℕ). 1 ∷ get_or t (p + 1) 0 ∷ drop n t) (let f : p + 1 + 1 ≡ p + 2 = omega arith in f)

module _ (book : rules.Book) (restart : Bool) (g : ℕ) (t : List ℕ) (p : ℕ) (q : Query) (qs : List Query) where
  rejected_at : (l : List ℕ) (place : ℕ) → drop p t ≡ l → Rejects book restart g (q ∷ qs) p l place → Rejects book restart g (q ∷ qs) p (drop p t) place
  rejected_at l place e = subst (λ (xs : List ℕ). Rejects book restart g (q ∷ qs) p xs place) (sym e)

  pub read_short : p ≡ length t → Rejects book restart g (q ∷ qs) p (drop p t) p
  read_short e = rejected_at [] p (drop_all p t (omega arith)) no_kind

  pub read_cut : p < length t → get_or t p 0 ≡ 1 → p + 1 ≡ length t → Rejects book restart g (q ∷ qs) p (drop p t) (p + 1)
  read_cut h e l = rejected_at (1 ∷ []) (p + 1) (at_front t p 1 h e ∙ ap (λ (xs : List ℕ). 1 ∷ xs) (drop_all (p + 1) t (omega arith))) no_record

  pub read_unfit : p + 1 < length t → get_or t p 0 ≡ 1 → (Applies book q.in_force q.name (get_or t (p + 1) 0) → ⊥)
      → Rejects book restart g (q ∷ qs) p (drop p t) (p + 1)
  read_unfit h e n = rejected_at _ (p + 1) (at_rule t p h e) (wrong_record n)

  pub read_forbidden : p < length t → get_or t p 0 ≡ 2 → (T restart → ⊥) → Rejects book restart g (q ∷ qs) p (drop p t) p
  read_forbidden h e n = rejected_at _ p (at_front t p 2 h e) (no_restart n)

  pub read_unknown : p < length t → (get_or t p 0 ≡ 1 → ⊥) → (get_or t p 0 ≡ 2 → ⊥) → Rejects book restart g (q ∷ qs) p (drop p t) p
  read_unknown h n m = rejected_at _ p (at_front t p (get_or t p 0) h refl) (wrong_kind n m)

  -- a rule's record, and its bodies' trees behind it
  pub read_rule : (e : ℕ) (v : Verdict) → p + 1 < length t → get_or t p 0 ≡ 1 → e ≡ p + 2 → Applies book q.in_force q.name (get_or t (p + 1) 0)
      → Judged book restart g (body_queries book q.in_force (bodies_of book (get_or t (p + 1) 0)) ++ qs) e (drop e t) v
      → Judged book restart g (q ∷ qs) p (drop p t) v
  read_rule e Accepted h one two a d =
      subst (Answers book restart g (q ∷ qs)) (sym (at_rule t p h one))
      (rule_byte (get_or t (p + 1) 0) a
      (subst (λ (n : ℕ). Answers book restart g (body_queries book q.in_force (bodies_of book (get_or t (p + 1) 0)) ++ qs) (drop n t)) two d))
  read_rule e (Rejected place) h one two a d =
      rejected_at _ place (at_rule t p h one)
      (after_record a
      (subst (λ (n : ℕ). Rejects book restart g (body_queries book q.in_force (bodies_of book (get_or t (p + 1) 0)) ++ qs) n (drop n t) place) two d))

  -- a restart byte, and the goal's tree behind it
  pub read_restart : (v : Verdict) → p < length t → get_or t p 0 ≡ 2 → T restart
      → Judged book restart g (query_of q.in_force g ∷ qs) (p + 1) (drop (p + 1) t) v → Judged book restart g (q ∷ qs) p (drop p t) v
  read_restart Accepted h e r d = subst (Answers book restart g (q ∷ qs)) (sym (at_front t p 2 h e)) (restart_byte r d)
  read_restart (Rejected place) h e r d = rejected_at _ place (at_front t p 2 h e) (after_restart r d)

pub took_restart : (book : rules.Book) (restart : Bool) (g : ℕ) (t : List ℕ) (p : ℕ) (q : Query) (r : Result ℕ Misread) → p < length t → get_or t p 0 ≡ 2
    → T restart → Took book restart g (query_of q.in_force g) t (p + 1) r → Took book restart g q t p r
took_restart book restart g t p q (Ok e) h y n d = (omega arith, d.1, λ qs v z. read_restart book restart g t p q qs v h y n (d.2 qs v z))
took_restart book restart g t p q (Err m) h y n d = λ qs. read_restart book restart g t p q qs (Rejected m.place) h y n (d qs)

-- a record that was looked for applies, or none does, and its byte is where the reading ends
pub applied : (book : rules.Book) (S x r : ℕ) (o : Option RecordNumber) (n : RecordNumber) → o ≡ Some n → Applying book S x r o
    → (n.index ≡ r) × Applies book S x r
applied book S x r o n e d = subst (Applying book S x r) e d

pub unapplied : (book : rules.Book) (S x r p : ℕ) (o : Option RecordNumber) (m : Misread) → Err m ≡ ok_or o (record { place = p })
    → Applying book S x r o → (m ≡ record { place = p }) × (Applies book S x r → ⊥)
unapplied book S x r p (Some n) m e d = absurd (cc)
unapplied book S x r p None m e d = (cc, d)

-- The query at place p succeeds by a rule, and the trees of its bodies before those left were read up to place e: those left
-- decide.
pub record Partly (book : rules.Book) (restart : Bool) (g : ℕ) (t : List ℕ) (p : ℕ) (q : Query) (left : List ℕ) (e : ℕ) : Type 0 where
  pub on : p < e
  pub within : e ≤ length t
  pub rest : (qs : List Query) (v : Verdict) → Judged book restart g (body_queries book q.in_force left ++ qs) e (drop e t) v
      → Judged book restart g (q ∷ qs) p (drop p t) v

module _ (book : rules.Book) (restart : Bool) (g : ℕ) (t : List ℕ) (p : ℕ) (q : Query) where
  -- the two bytes were read
  pub partly_begun : (r : ℕ) (left : List ℕ) → p + 1 < length t → get_or t p 0 ≡ 1 → r ≡ get_or t (p + 1) 0 → Applies book q.in_force q.name r
      → left ≡ bodies_of book r → Partly book restart g t p q left (p + 1 + 1)
  partly_begun r left h one is a all = record {
    on = omega arith;
    within = omega arith;
    rest = λ qs v d. read_rule book restart g t p q qs (p + 1 + 1) v h one (omega arith) (subst (λ (n : ℕ). Applies book q.in_force q.name n) is a)
        (subst (λ (rs : List ℕ). Judged book restart g (body_queries book q.in_force rs ++ qs) (p + 1 + 1) (drop (p + 1 + 1) t) v) (all ∙ ap (bodies_of book) is) d);
  }

  module _ (left : List ℕ) (e : ℕ) (part : Partly book restart g t p q left e) where
    -- none is left
    pub partly_all : left ≡ [] → Took book restart g q t p (Ok e)
    partly_all none = (
      omega (arith, part.on),
      part.within,
      λ qs v d. part.rest qs v (subst (λ (rs : List ℕ). Judged book restart g (body_queries book q.in_force rs ++ qs) e (drop e t) v) (sym none) d),
    )

    -- the tree of the next one is read
    module _ (r V x : ℕ) (more : List ℕ) (first : left ≡ r ∷ more) (set : V ≡ supposing book q.in_force r) (name : x ≡ head_of book r) where
      waits : (qs : List Query) → body_queries book q.in_force left ++ qs ≡ query_of V x ∷ (body_queries book q.in_force more ++ qs)
      waits qs =
          ap (λ (rs : List ℕ). body_queries book q.in_force rs ++ qs) first
          ∙ sym (ap (λ (S : ℕ). query_of S x ∷ (body_queries book q.in_force more ++ qs)) set
          ∙ ap (λ (y : ℕ). query_of (supposing book q.in_force r) y ∷ (body_queries book q.in_force more ++ qs)) name)

      before : (qs : List Query) (v : Verdict) → Judged book restart g (query_of V x ∷ (body_queries book q.in_force more ++ qs)) e (drop e t) v
          → Judged book restart g (q ∷ qs) p (drop p t) v
      before qs v d = part.rest qs v (subst (λ (ws : List Query). Judged book restart g ws e (drop e t) v) (sym (waits qs)) d)

      pub partly_more : (e' : ℕ) → Took book restart g (query_of V x) t e (Ok e') → Partly book restart g t p q more e'
      partly_more e' k = record { on = omega (arith, part.on, k.0); within = k.1; rest = λ qs v d. before qs v (k.2 _ v d) }

      pub partly_failed : (m : Misread) → Took book restart g (query_of V x) t e (Err m) → Took book restart g q t p (Err m)
      partly_failed m k qs = before qs (Rejected m.place) (k _)

-- the end of the bytes, and a byte too many
pub read_end : (book : rules.Book) (restart : Bool) (g : ℕ) (t : List ℕ) (e : ℕ) → length t ≤ e → Judged book restart g [] e (drop e t) Accepted
read_end book restart g t e h = subst (Answers book restart g []) (sym (drop_all e t h)) none_waits

pub read_extra : (book : rules.Book) (restart : Bool) (g : ℕ) (t : List ℕ) (e : ℕ) → e < length t → Judged book restart g [] e (drop e t) (Rejected e)
read_extra book restart g t e h = subst (λ (l : List ℕ). Rejects book restart g [] e l e) (sym (drop_more t e 0 h)) too_many

-- what is accepted is a tree's bytes, and what is rejected is not
pub of_trees : (book : rules.Book) (restart : Bool) (g S : ℕ) (bs : List ℕ) (v : Verdict) → Judged book restart g (query_of S g ∷ []) 0 bs v
    → OfTrees book restart g S bs v
of_trees book restart g S bs Accepted d = (check_right book restart g (query_of S g) bs).0 d
of_trees book restart g S bs (Rejected p) d = λ tree e.
    rejects_right.never_both book restart g (query_of S g ∷ []) 0 bs p ((check_right book restart g (query_of S g) bs).1 (tree, e)) d
