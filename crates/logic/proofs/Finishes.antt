-- From some budget on the search comes to an answer: of the finitely many queries each stands at most once on a way down.
use Rattle.std.proofs.Common.{◌≡◌, ℕ, zero, suc, ◌+◌, ◌*◌, ◌/◌, ◌%◌, ◌^◌, ◌<◌, ◌≤◌, max, Bool, not, T, List, [], ◌∷◌, length, sym, subst, ⊎_elim, zero-le, arith, T_not}
use lib.Dec.{not_T}
use Rattle.std.proofs.lemmas.Nat.{mul-add-lt, div-mul-add, mod-mul-add}
use Rattle.logic.specs.Rules.{Book, head_of, bodies_of, WellFormed, supposing}
use Rattle.logic.specs.Search.{Setting, Query, On, here, there, Outcome, failed, spent, succeeded, Asked, barred, no_budget, begun, Tried, passed, rule_succeeds, rule_fails, rule_spent, gives_up, restart_succeeds, restart_fails, restart_spent, Bodies, all_asked, body_fails, body_spent, rest_succeeds, rest_fails, rest_spent}
use Rattle.logic.specs.Theorems.{Answered, with_tree, with_none, Finishes}
use Rattle.logic.proofs.Ends.{ends}
use Rattle.logic.proofs.Rules.{supposing_lt}
use Rattle.logic.proofs.Tests.{is_yes, from_yes, to_yes, count, count_le, same_or_more}
use Rattle.logic.proofs.Ways.{query_same, dec_on}
use Rattle.logic.proofs.Complete.{names, goal_named, head_named}

-- not spent
abbrev Unspent : Outcome → Type 0
Unspent (succeeded t) = Unit {0}
Unspent failed = Unit {0}
Unspent spent = ⊥

-- not spent, and counted up to a limit at most
record Bound (out : Outcome) (count_of limit : ℕ) : Type 0 where
  unspent : Unspent out
  within : count_of ≤ limit

looser : {out : Outcome} {n a b : ℕ} → a ≤ b → Bound out n a → Bound out n b
looser l w = record { unspent = w.unspent; within = omega (arith, w.within) }

-- ---- what is counted at most, where each query counts at most c

bodies_cost : ℕ → List ℕ → ℕ
bodies_cost c [] = 0
bodies_cost c (b ∷ bs) = c + bodies_cost c bs

-- of d records from i on, and of restart
tried_cost : Book → ℕ → ℕ → ℕ → ℕ
tried_cost book c zero i = c
tried_cost book c (suc d) i = bodies_cost c (bodies_of book i) + tried_cost book c d (suc i)

-- of a query with at most f others to begin below it
asked_cost : Book → ℕ → ℕ
asked_cost book zero = 0
asked_cost book (suc f) = suc (tried_cost book (asked_cost book f) (length book) 0)

module _ (s : Setting) (wf : WellFormed s.book) (k : ℕ) (heads : (r : ℕ) → head_of s.book r < k) (goal : s.goal < k) where
  -- a query about a set of the book and a name below k
  record Proper (q : Query) : Type 0 where
    set : q.in_force < 2 ^ length s.book
    named : q.name < k

  body_proper : (S b : ℕ) → S < 2 ^ length s.book → Proper (record { in_force = supposing s.book S b; name = head_of s.book b })
  body_proper S b l = record { set = supposing_lt s.book wf S b l; named = heads b }

  -- ---- how many proper queries are not yet on a way

  abbrev numbered : ℕ → Query
  numbered i = record { in_force = i / k; name = i % k }

  off : List Query → ℕ → Bool
  off way i = not (is_yes (dec_on (numbered i) way))

  open_queries : List Query → ℕ
  open_queries way = count (k * 2 ^ length s.book) (off way)

  all_open : open_queries [] ≤ k * 2 ^ length s.book
  unfolding open_queries
  all_open = count_le (k * 2 ^ length s.book) (off [])

  fewer : (way : List Query) (q : Query) → Proper q → ¬ On q way → open_queries (q ∷ way) < open_queries way
  unfolding off open_queries
  fewer way q p new =
      ⊎_elim (λ same. absurd (stays (same at_q small (not_T (is_yes (dec_on (numbered at_q) way)) (λ y. new (subst (λ (u : Query). On u way) is_q (from_yes (dec_on (numbered at_q) way) y)))))))
      (λ l. l) (same_or_more (k * 2 ^ length s.book) (off (q ∷ way)) (off way) grows)
    where
      at_q : ℕ
      at_q = q.in_force * k + q.name

      small : at_q < k * 2 ^ length s.book
      small = mul-add-lt q.in_force k q.name (2 ^ length s.book) p.set p.named

      is_q : numbered at_q ≡ q
      is_q = query_same (numbered at_q) q (div-mul-add q.in_force k q.name p.named) (mod-mul-add q.in_force k q.name p.named)

      stays : T (off (q ∷ way) at_q) → ⊥
      stays t = T_not (is_yes (dec_on (numbered at_q) (q ∷ way))) t
          (to_yes (dec_on (numbered at_q) (q ∷ way)) (subst (λ (u : Query). On u (q ∷ way)) (sym is_q) here))

      grows : (i : ℕ) → T (off (q ∷ way) i) → T (off way i)
      grows i t = not_T (is_yes (dec_on (numbered i) way))
          (λ y. T_not (is_yes (dec_on (numbered i) (q ∷ way))) t (to_yes (dec_on (numbered i) (q ∷ way)) (there (from_yes (dec_on (numbered i) way) y))))

  -- ---- however a search ends, it is not spent where there is room for its cost

  mutual
    unfolding bodies_cost tried_cost asked_cost

    asked_bound : (f : ℕ) {way : List Query} {q : Query} {n : ℕ} {out : Outcome} {j : ℕ} → open_queries way ≤ f → Proper q
        → n + asked_cost s.book f ≤ s.budget → Asked s way q n out j → Bound out j (n + asked_cost s.book f)
    asked_bound zero {way} {q} o p room (no_budget new e) = absurd (omega (arith, fewer way q p new))
    asked_bound zero {way} {q} o p room (begun new e t) = absurd (omega (arith, fewer way q p new))
    asked_bound (suc f) o p room (no_budget new e) = absurd (omega arith)
    asked_bound (suc f) {way} {q} o p room (begun new e t) =
        looser (omega arith) (tried_bound f (length s.book) (omega (arith, fewer way q p new)) p (omega arith) (omega arith) t)
    asked_bound f o p room (barred on) = record { unspent = tt; within = omega arith }

    -- d records are left to be tried
    tried_bound : (f d : ℕ) {way : List Query} {q : Query} {i n : ℕ} {out : Outcome} {j : ℕ} → open_queries way ≤ f → Proper q → i + d ≡ length s.book
        → n + tried_cost s.book (asked_cost s.book f) d i ≤ s.budget → Tried s way q i n out j
        → Bound out j (n + tried_cost s.book (asked_cost s.book f) d i)
    tried_bound f zero o p e room (passed l a t) = absurd (omega arith)
    tried_bound f zero o p e room (rule_succeeds l a b) = absurd (omega arith)
    tried_bound f zero o p e room (rule_fails l a b t) = absurd (omega arith)
    tried_bound f zero o p e room (rule_spent l a b) = absurd (omega arith)
    tried_bound f zero o p e room (restart_succeeds h t a) =
        record { unspent = tt; within = (asked_bound f o (record { set = p.set; named = goal }) room a).within }
    tried_bound f zero o p e room (restart_fails h t a) = asked_bound f o (record { set = p.set; named = goal }) room a
    tried_bound f zero o p e room (restart_spent h t a) = asked_bound f o (record { set = p.set; named = goal }) room a
    tried_bound f (suc d) o p e room (passed l a t) = looser (omega arith) (tried_bound f d o p (omega arith) (omega arith) t)
    tried_bound f (suc d) o p e room (rule_succeeds l a b) =
        record { unspent = tt; within = omega (arith, (bodies_bound f o p.set (omega arith) b).within) }
    tried_bound f (suc d) o p e room (rule_fails l a b t) =
        let w = bodies_bound f o p.set (omega arith) b in
        looser (omega (arith, w.within)) (tried_bound f d o p (omega arith) (omega (arith, w.within)) t)
    tried_bound f (suc d) o p e room (rule_spent l a b) = looser (omega arith) (bodies_bound f o p.set (omega arith) b)
    tried_bound f (suc d) o p e room (restart_succeeds h t a) = absurd (omega arith)
    tried_bound f (suc d) o p e room (restart_fails h t a) = absurd (omega arith)
    tried_bound f (suc d) o p e room (restart_spent h t a) = absurd (omega arith)
    tried_bound f d o p e room (gives_up h t) = record { unspent = tt; within = omega arith }

    bodies_bound : (f : ℕ) {way : List Query} {S : ℕ} {bs : List ℕ} {n : ℕ} {out : Outcome} {j : ℕ} → open_queries way ≤ f → S < 2 ^ length s.book
        → n + bodies_cost (asked_cost s.book f) bs ≤ s.budget → Bodies s way S bs n out j → Bound out j (n + bodies_cost (asked_cost s.book f) bs)
    bodies_bound f o l room all_asked = record { unspent = tt; within = omega arith }
    bodies_bound f o l room (body_fails {S = S} {b = b} a) = looser (omega arith) (asked_bound f o (body_proper S b l) (omega arith) a)
    bodies_bound f o l room (body_spent {S = S} {b = b} a) = looser (omega arith) (asked_bound f o (body_proper S b l) (omega arith) a)
    bodies_bound f o l room (rest_succeeds {S = S} {b = b} a d) =
        let w = asked_bound f o (body_proper S b l) (omega arith) a in
        record { unspent = tt; within = omega (arith, w.within, (bodies_bound f o l (omega (arith, w.within)) d).within) }
    bodies_bound f o l room (rest_fails {S = S} {b = b} a d) =
        let w = asked_bound f o (body_proper S b l) (omega arith) a in looser (omega (arith, w.within)) (bodies_bound f o l (omega (arith, w.within)) d)
    bodies_bound f o l room (rest_spent {S = S} {b = b} a d) =
        let w = asked_bound f o (body_proper S b l) (omega arith) a in looser (omega (arith, w.within)) (bodies_bound f o l (omega (arith, w.within)) d)

pub finishes : Finishes
finishes book wf restart g q l = (
  asked_cost book (k * 2 ^ length book),
  λ budget room.
      let s : Setting = record { book = book; restart = restart; goal = g; budget = budget } in
      let heads = head_named book (max g q.name) in
      let goal : g < k = omega (arith, named) in
      let (out, n, asked) = ends s [] q 0 zero-le in
      let proper : Proper s wf k heads goal q = record { set = l; named = omega (arith, named) } in
      answer s out n asked (asked_bound s wf k heads goal (k * 2 ^ length book) (all_open s wf k heads goal) proper (omega arith) asked).unspent,
)
  where
    k : ℕ
    k = names book (max g q.name)

    named : max g q.name < k
    named = goal_named book (max g q.name)

    answer : (s : Setting) (o : Outcome) (m : ℕ) → Asked s [] q 0 o m → Unspent o → Answered s q
    answer s (succeeded t) m a u = with_tree t m a
    answer s failed m a u = with_none m a
    answer s spent m a u = absurd u
