-- The search, as a relation between what is asked and what comes out.
use Rattle.std.specs.Prelude.{◌≡◌, ℕ, zero, suc, ◌<◌, Bool, not, T, List, [], ◌∷◌, ◌++◌, length}
use Rattle.logic.specs.Rules.{Book, head_of, bodies_of, supposing}
use Rattle.logic.specs.Trees.{Applies}

-- a query: the rules in force, and the name that is asked
pub record Query : Type 0 where
  pub in_force : ℕ
  pub name : ℕ

-- the query stands in the list
pub data On (q : Query) : List Query → Type 0 where
  here : {way : List Query} → On q (q ∷ way)
  there : {p : Query} {way : List Query} → On q way → On q (p ∷ way)

-- a search succeeds with the bytes of a tree, or fails, or has spent its budget
pub data Outcome : Type 0 where
  succeeded : List ℕ → Outcome
  failed spent : Outcome

-- what all queries of one search share: the book, whether restart is allowed, the goal's head, the budget
pub record Setting : Type 0 where
  pub book : Book
  pub restart : Bool
  pub goal : ℕ
  pub budget : ℕ

-- Asked s way q n out k: asked with the queries of `way` begun above it, and with n queries counted so far,
-- the query q ends with `out`, and with k queries counted.
mutual
  pub data Asked (s : Setting) : List Query → Query → ℕ → Outcome → ℕ → Type 0 where
    -- begun already on the way down: barred, and not counted
    barred : {way : List Query} {q : Query} {n : ℕ} → On q way → Asked s way q n failed n
    -- the count has come to the budget
    no_budget : {way : List Query} {q : Query} {n : ℕ} → ¬ On q way → n ≡ s.budget → Asked s way q n spent n
    -- the query begins, and counts one
    begun : {way : List Query} {q : Query} {n : ℕ} {out : Outcome} {k : ℕ}
        → ¬ On q way → ¬ (n ≡ s.budget) → Tried s (q ∷ way) q zero (suc n) out k → Asked s way q n out k

  -- Tried s way q i n out k: the records from i on are tried for q, by rising number, and then restart
  pub data Tried (s : Setting) : List Query → Query → ℕ → ℕ → Outcome → ℕ → Type 0 where
    passed : {way : List Query} {q : Query} {i n : ℕ} {out : Outcome} {k : ℕ}
        → i < length s.book → ¬ Applies s.book q.in_force q.name i → Tried s way q (suc i) n out k → Tried s way q i n out k
    rule_succeeds : {way : List Query} {q : Query} {i n : ℕ} {bs : List ℕ} {k : ℕ}
        → i < length s.book → Applies s.book q.in_force q.name i
        → Bodies s way q.in_force (bodies_of s.book i) n (succeeded bs) k → Tried s way q i n (succeeded (1 ∷ i ∷ bs)) k
    rule_fails : {way : List Query} {q : Query} {i n m : ℕ} {out : Outcome} {k : ℕ}
        → i < length s.book → Applies s.book q.in_force q.name i
        → Bodies s way q.in_force (bodies_of s.book i) n failed m → Tried s way q (suc i) m out k → Tried s way q i n out k
    rule_spent : {way : List Query} {q : Query} {i n k : ℕ}
        → i < length s.book → Applies s.book q.in_force q.name i
        → Bodies s way q.in_force (bodies_of s.book i) n spent k → Tried s way q i n spent k
    -- all records have been tried, and there is no restart
    gives_up : {way : List Query} {q : Query} {i n : ℕ} → i ≡ length s.book → T (not s.restart) → Tried s way q i n failed n
    -- all records have been tried, and the goal's head is asked
    restart_succeeds : {way : List Query} {q : Query} {i n : ℕ} {bs : List ℕ} {k : ℕ}
        → i ≡ length s.book → T s.restart
        → Asked s way (record { in_force = q.in_force; name = s.goal }) n (succeeded bs) k → Tried s way q i n (succeeded (2 ∷ bs)) k
    restart_fails : {way : List Query} {q : Query} {i n k : ℕ}
        → i ≡ length s.book → T s.restart
        → Asked s way (record { in_force = q.in_force; name = s.goal }) n failed k → Tried s way q i n failed k
    restart_spent : {way : List Query} {q : Query} {i n k : ℕ}
        → i ≡ length s.book → T s.restart
        → Asked s way (record { in_force = q.in_force; name = s.goal }) n spent k → Tried s way q i n spent k

  -- Bodies s way S bs n out k: the bodies are asked in order, each with its own bodies put in force
  pub data Bodies (s : Setting) : List Query → ℕ → List ℕ → ℕ → Outcome → ℕ → Type 0 where
    all_asked : {way : List Query} {S n : ℕ} → Bodies s way S [] n (succeeded []) n
    body_fails : {way : List Query} {S b : ℕ} {bs : List ℕ} {n k : ℕ}
        → Asked s way (record { in_force = supposing s.book S b; name = head_of s.book b }) n failed k → Bodies s way S (b ∷ bs) n failed k
    body_spent : {way : List Query} {S b : ℕ} {bs : List ℕ} {n k : ℕ}
        → Asked s way (record { in_force = supposing s.book S b; name = head_of s.book b }) n spent k → Bodies s way S (b ∷ bs) n spent k
    rest_succeeds : {way : List Query} {S b : ℕ} {bs : List ℕ} {n m : ℕ} {t ts : List ℕ} {k : ℕ}
        → Asked s way (record { in_force = supposing s.book S b; name = head_of s.book b }) n (succeeded t) m
        → Bodies s way S bs m (succeeded ts) k → Bodies s way S (b ∷ bs) n (succeeded (t ++ ts)) k
    rest_fails : {way : List Query} {S b : ℕ} {bs : List ℕ} {n m : ℕ} {t : List ℕ} {k : ℕ}
        → Asked s way (record { in_force = supposing s.book S b; name = head_of s.book b }) n (succeeded t) m
        → Bodies s way S bs m failed k → Bodies s way S (b ∷ bs) n failed k
    rest_spent : {way : List Query} {S b : ℕ} {bs : List ℕ} {n m : ℕ} {t : List ℕ} {k : ℕ}
        → Asked s way (record { in_force = supposing s.book S b; name = head_of s.book b }) n (succeeded t) m
        → Bodies s way S bs m spent k → Bodies s way S (b ∷ bs) n spent k
