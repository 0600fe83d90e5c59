-- The check of tree bytes, as a relation: queries that wait, and the bytes that answer them.
use Rattle.std.specs.Prelude.{◌≡◌, ℕ, ◌+◌, Bool, T, ◌⊎◌, List, [], ◌∷◌, ◌++◌}
use Rattle.logic.specs.Rules.{Book, head_of, bodies_of, supposing}
use Rattle.logic.specs.Trees.{Applies}
use Rattle.logic.specs.Search.{Query}

-- the queries of the bodies in a list: the bodies of each are put in force, and its head is asked
abbrev pub body_queries : Book → ℕ → List ℕ → List Query
body_queries book S [] = []
body_queries book S (b ∷ bs) = record { in_force = supposing book S b; name = head_of book b } ∷ body_queries book S bs

-- Answers book restart g qs bs: the bytes answer the waiting queries, the first of them first, and no byte is left over
pub data Answers (book : Book) (restart : Bool) (g : ℕ) : List Query → List ℕ → Type 0 where
  none_waits : Answers book restart g [] []
  -- byte 1 and a record that applies: its bodies wait in place of the query
  rule_byte : {q : Query} {qs : List Query} {bs : List ℕ} (r : ℕ) → Applies book q.in_force q.name r
      → Answers book restart g (body_queries book q.in_force (bodies_of book r) ++ qs) bs → Answers book restart g (q ∷ qs) (1 ∷ r ∷ bs)
  -- byte 2, where restart is allowed: the goal's head waits in place of the query
  restart_byte : {q : Query} {qs : List Query} {bs : List ℕ} → T restart
      → Answers book restart g (record { in_force = q.in_force; name = g } ∷ qs) bs → Answers book restart g (q ∷ qs) (2 ∷ bs)

-- Rejects book restart g qs i bs p: the queries wait, the bytes stand from place i on, and they are rejected at place p
pub data Rejects (book : Book) (restart : Bool) (g : ℕ) : List Query → ℕ → List ℕ → ℕ → Type 0 where
  -- no query waits, and a byte is left over
  too_many : {i c : ℕ} {bs : List ℕ} → Rejects book restart g [] i (c ∷ bs) i
  -- the bytes run out where a kind or a record is due
  no_kind : {q : Query} {qs : List Query} {i : ℕ} → Rejects book restart g (q ∷ qs) i [] i
  no_record : {q : Query} {qs : List Query} {i : ℕ} → Rejects book restart g (q ∷ qs) i (1 ∷ []) (i + 1)
  -- a kind is 1, or 2 where restart is allowed
  wrong_kind : {q : Query} {qs : List Query} {i c : ℕ} {bs : List ℕ} → ¬ (c ≡ 1) → ¬ (c ≡ 2) → Rejects book restart g (q ∷ qs) i (c ∷ bs) i
  no_restart : {q : Query} {qs : List Query} {i : ℕ} {bs : List ℕ} → ¬ T restart → Rejects book restart g (q ∷ qs) i (2 ∷ bs) i
  -- the record is not in force, or has another head
  wrong_record : {q : Query} {qs : List Query} {i r : ℕ} {bs : List ℕ} → ¬ Applies book q.in_force q.name r
      → Rejects book restart g (q ∷ qs) i (1 ∷ r ∷ bs) (i + 1)
  -- all is well so far, and a later byte is rejected
  after_record : {q : Query} {qs : List Query} {i r : ℕ} {bs : List ℕ} {p : ℕ} → Applies book q.in_force q.name r
      → Rejects book restart g (body_queries book q.in_force (bodies_of book r) ++ qs) (i + 2) bs p → Rejects book restart g (q ∷ qs) i (1 ∷ r ∷ bs) p
  after_restart : {q : Query} {qs : List Query} {i : ℕ} {bs : List ℕ} {p : ℕ} → T restart
      → Rejects book restart g (record { in_force = q.in_force; name = g } ∷ qs) (i + 1) bs p → Rejects book restart g (q ∷ qs) i (2 ∷ bs) p

-- Bytes are accepted or rejected, never both, and rejected at one place only.
pub record RejectsRight : Type 0 where
  pub either : (book : Book) (restart : Bool) (g : ℕ) (qs : List Query) (i : ℕ) (bs : List ℕ)
      → Answers book restart g qs bs ⊎ ((p : ℕ) × Rejects book restart g qs i bs p)
  pub never_both : (book : Book) (restart : Bool) (g : ℕ) (qs : List Query) (i : ℕ) (bs : List ℕ) (p : ℕ)
      → Answers book restart g qs bs → Rejects book restart g qs i bs p → ⊥
  pub one_place : (book : Book) (restart : Bool) (g : ℕ) (qs : List Query) (i : ℕ) (bs : List ℕ) (p p' : ℕ)
      → Rejects book restart g qs i bs p → Rejects book restart g qs i bs p' → p ≡ p'
