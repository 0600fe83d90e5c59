-- A search that fails is right: the query has no tree.
use Rattle.std.proofs.Common.{◌≡◌, ℕ, zero, suc, ◌≤◌, T, ◌⊎◌, List, [], ◌∷◌, sym, subst, inl, inr, ⊎_elim, zero-le, arith, T_not}
use Rattle.std.proofs.lemmas.Bool.{cases_eq}
use Rattle.logic.specs.Rules.{head_of, bodies_of, supposing}
use Rattle.logic.specs.Trees.{Applies}
use Rattle.logic.specs.Search.{Setting, Query, On, failed, Asked, barred, begun, Tried, passed, rule_fails, gives_up, restart_fails, Bodies, body_fails, rest_fails}
use Rattle.logic.specs.Theorems.{FailureRight}
use Rattle.logic.proofs.Sets.{within_self}
use Rattle.logic.proofs.Tests.{all_of, and_left, and_right}
use Rattle.logic.proofs.Ways.{nothing_on, on_cases}
use Rattle.logic.proofs.Heights.{body_passes, step_cases, succeeds, succeeds_more, height_of}

-- a number from i on is i or comes after it
from : (i r : ℕ) → i ≤ r → (r ≡ i) ⊎ (suc i ≤ r)
from i r l = ⊎_elim (λ e. inl e) (λ no. inr (omega arith)) (cases_eq r i)

module _ (s : Setting) where
  -- the query has a tree of at most h levels
  abbrev Low : ℕ → Query → Type 0
  Low h q = T (succeeds s.book s.restart s.goal h q.in_force q.name)

  raise : (h : ℕ) (q : Query) → Low h q → Low (suc h) q
  raise h q = succeeds_more s.book s.restart s.goal h (suc h) (omega arith) q.in_force q.in_force q.name (within_self q.in_force)

  -- a query that failed below `way`, and yet has a low tree
  record Missed (way : List Query) (h : ℕ) : Type 0 where
    query : Query
    before : ℕ
    after : ℕ
    asked : Asked s way query before failed after
    low : Low h query

  -- where the bodies failed and each has a low tree, one was missed
  bodies_missed : (h : ℕ) {way : List Query} {S : ℕ} {bs : List ℕ} {n k : ℕ} → Bodies s way S bs n failed k
      → T (all_of (body_passes s.book (succeeds s.book s.restart s.goal h) S) bs) → Missed way h
  bodies_missed h (body_fails {S = S} {b = b} {bs = bs} {n = n} {k = k} a) t =
      record {
        query = record { in_force = supposing s.book S b; name = head_of s.book b };
        before = n;
        after = k;
        asked = a;
        low = and_left (body_passes s.book (succeeds s.book s.restart s.goal h) S b) (all_of (body_passes s.book (succeeds s.book s.restart s.goal h) S) bs) t;
      }
  bodies_missed h (rest_fails {S = S} {b = b} {bs = bs} a r) t =
      bodies_missed h r (and_right (body_passes s.book (succeeds s.book s.restart s.goal h) S b) (all_of (body_passes s.book (succeeds s.book s.restart s.goal h) S) bs) t)

  -- each record that applies was tried, and failed
  rule_failed : {way : List Query} {q : Query} {i n k : ℕ} → Tried s way q i n failed k
      → (r : ℕ) → i ≤ r → Applies s.book q.in_force q.name r
      → (m : ℕ) × (l : ℕ) × Bodies s way q.in_force (bodies_of s.book r) m failed l
  rule_failed (passed {q = q} {i = i} lt out next) r le a =
      ⊎_elim (λ e. absurd (out (subst (Applies s.book q.in_force q.name) e a))) (λ l. rule_failed next r l a) (from i r le)
  rule_failed (rule_fails {way = way} {q = q} {i = i} {n = n} {m = m} lt b bf next) r le a =
      ⊎_elim (λ e. (n, m, subst (λ (j : ℕ). Bodies s way q.in_force (bodies_of s.book j) n failed m) (sym e) bf))
      (λ l. rule_failed next r l a) (from i r le)
  rule_failed (gives_up e n) r le a = absurd (omega (arith, a.recorded))
  rule_failed (restart_fails e t next) r le a = absurd (omega (arith, a.recorded))

  restart_failed : {way : List Query} {q : Query} {i n k : ℕ} → Tried s way q i n failed k → T s.restart
      → (m : ℕ) × (l : ℕ) × Asked s way (record { in_force = q.in_force; name = s.goal }) m failed l
  restart_failed (passed lt out next) t = restart_failed next t
  restart_failed (rule_fails lt b bf next) t = restart_failed next t
  restart_failed (gives_up e n) t = absurd (T_not s.restart n t)
  restart_failed (restart_fails {n = n} {k = k} e t next) u = (n, k, next)

  -- a failed query with a tree of h + 1 levels, by its last step: a query below was missed that has one of h
  tried_missed : (h : ℕ) {way : List Query} {q : Query} {n k : ℕ} → Tried s way q zero n failed k → Low (suc h) q → Missed way h
  unfolding succeeds
  tried_missed h {q = q} d t =
      ⊎_elim
      (λ c. bodies_missed h (rule_failed d c.0 zero-le c.1).2 c.2)
      (λ c.
      let f = restart_failed d c.0 in
      record { query = record { in_force = q.in_force; name = s.goal }; before = f.0; after = f.1; asked = f.2; low = c.1 })
      (step_cases s.book s.restart s.goal (succeeds s.book s.restart s.goal h) q.in_force q.name t)

  -- a query on the way has a tree of at most h levels
  abbrev Above : List Query → ℕ → Type 0
  Above way h = (p : Query) × On p way × Low h p

  -- a query that failed and has a low tree: then so has one on its way
  missed_above : (h : ℕ) (way : List Query) (q : Query) (n k : ℕ) → Asked s way q n failed k → Low h q → Above way h
  unfolding succeeds
  missed_above zero way q n k a t = absurd t
  missed_above (suc h) way q n k (barred o) t = (q, o, t)
  missed_above (suc h) way q n k (begun new room d) t =
      let m = tried_missed h d t in
      let a = missed_above h (q ∷ way) m.query m.before m.after m.asked m.low in
      let (p, o, low) = ⊎_elim (λ e. missed_above h way q n k (begun new room d) (subst (Low h) e a.2)) (λ o. (a.0, o, a.2)) (on_cases a.1) in
      (p, o, raise h p low)

pub failure_right : FailureRight
failure_right s q n k a tree =
    let i = height_of s.book s.restart s.goal tree in
    let m = missed_above s i.0 [] q n k a i.1 in
    nothing_on m.1
