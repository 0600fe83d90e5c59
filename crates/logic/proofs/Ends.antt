-- Whatever the budget, a search ends, within its budget: each query that begins counts one.
use Rattle.std.proofs.Common.{◌≡◌, ℕ, zero, suc, ◌+◌, ◌≤◌, T, List, [], ◌∷◌, ◌++◌, length, subst, arith}
use mathlib.Core.Logic.{dite}
use native.Mathlib.Decide.{ℕ_discrete}
use lib.Dec.{not_T}
use Rattle.logic.specs.Rules.{head_of, bodies_of, supposing}
use Rattle.logic.specs.Trees.{Applies}
use Rattle.logic.specs.Search.{Setting, Query, Outcome, failed, spent, succeeded, Asked, barred, no_budget, begun, Tried, passed, rule_succeeds, rule_fails, rule_spent, gives_up, restart_succeeds, restart_fails, restart_spent, Bodies, all_asked, body_fails, body_spent, rest_succeeds, rest_fails, rest_spent}
use Rattle.logic.specs.Theorems.{Ends, Counted}
use Rattle.logic.proofs.Tests.{dec_T}
use Rattle.logic.proofs.Ways.{dec_on}
use Rattle.logic.proofs.Heights.{dec_applies}

-- ---- the count

-- spent, and counted up to the budget b; or not spent
abbrev pub Full : ℕ → Outcome → ℕ → Type 0
Full b (succeeded t) k = Unit {0}
Full b failed k = Unit {0}
Full b spent k = k ≡ b

module _ (s : Setting) where
  -- counted from n to k
  pub record Span (n : ℕ) (out : Outcome) (k : ℕ) : Type 0 where
    pub rises : n ≤ k
    pub stays : k ≤ s.budget
    pub full : Full s.budget out k

  later : {n m : ℕ} {out : Outcome} {k : ℕ} → n ≤ m → Span m out k → Span n out k
  later l w = record { rises = omega (arith, w.rises); stays = w.stays; full = w.full }

  found : {n : ℕ} {out : Outcome} {k : ℕ} (t : List ℕ) → Span n out k → Span n (succeeded t) k
  found t w = record { rises = w.rises; stays = w.stays; full = tt }

  mutual
    pub asked_within : {way : List Query} {q : Query} {n : ℕ} {out : Outcome} {k : ℕ} → n ≤ s.budget → Asked s way q n out k → Span n out k
    asked_within l (barred o) = record { rises = omega arith; stays = l; full = tt }
    asked_within l (no_budget o e) = record { rises = omega arith; stays = l; full = e }
    asked_within l (begun o e d) = later (omega arith) (tried_within (omega arith) d)

    pub tried_within : {way : List Query} {q : Query} {i n : ℕ} {out : Outcome} {k : ℕ} → n ≤ s.budget → Tried s way q i n out k → Span n out k
    tried_within l (passed a b d) = tried_within l d
    tried_within l (rule_succeeds {i = i} {bs = bs} a b d) = found (1 ∷ i ∷ bs) (bodies_within l d)
    tried_within l (rule_fails a b d e) = let w = bodies_within l d in later w.rises (tried_within w.stays e)
    tried_within l (rule_spent a b d) = bodies_within l d
    tried_within l (gives_up e t) = record { rises = omega arith; stays = l; full = tt }
    tried_within l (restart_succeeds {bs = bs} e t d) = found (2 ∷ bs) (asked_within l d)
    tried_within l (restart_fails e t d) = asked_within l d
    tried_within l (restart_spent e t d) = asked_within l d

    pub bodies_within : {way : List Query} {S : ℕ} {bs : List ℕ} {n : ℕ} {out : Outcome} {k : ℕ} → n ≤ s.budget → Bodies s way S bs n out k → Span n out k
    bodies_within l all_asked = record { rises = omega arith; stays = l; full = tt }
    bodies_within l (body_fails a) = asked_within l a
    bodies_within l (body_spent a) = asked_within l a
    bodies_within l (rest_succeeds {t = t} {ts = ts} a d) = let w = asked_within l a in found (t ++ ts) (later w.rises (bodies_within w.stays d))
    bodies_within l (rest_fails a d) = let w = asked_within l a in later w.rises (bodies_within w.stays d)
    bodies_within l (rest_spent a d) = let w = asked_within l a in later w.rises (bodies_within w.stays d)

pub counted : Counted
counted s way q n out k l a =
    let w = asked_within s l a in
    (w.rises, w.stays, λ e. subst (λ (o : Outcome). Full s.budget o k) e w.full)

-- ---- the end

-- some outcome and count are so related
abbrev Ended : (Outcome → ℕ → Type 0) → Type 0
Ended R = (out : Outcome) × (k : ℕ) × R out k

module _ (s : Setting) where
  -- a query ends if no more than f are left to be counted
  module _ (f : ℕ) (way : List Query) (ask : (q : Query) (n : ℕ) → n ≤ s.budget → s.budget ≤ n + f → Ended (Asked s way q n)) where
    bodies_end : (S : ℕ) (bs : List ℕ) (n : ℕ) → n ≤ s.budget → s.budget ≤ n + f → Ended (Bodies s way S bs n)
    unfolding supposing head_of
    bodies_end S [] n l m = (succeeded [], n, all_asked)
    bodies_end S (b ∷ bs) n l m = let r = ask q n l m in go r.0 r.1 r.2 (bodies_end S bs)
      where
        q : Query
        q = record { in_force = supposing s.book S b; name = head_of s.book b }

        join : (t : List ℕ) (j : ℕ) → Asked s way q n (succeeded t) j → (o : Outcome) (k : ℕ) → Bodies s way S bs j o k → Ended (Bodies s way S (b ∷ bs) n)
        join t j a (succeeded ts) k d = (succeeded (t ++ ts), k, rest_succeeds a d)
        join t j a failed k d = (failed, k, rest_fails a d)
        join t j a spent k d = (spent, k, rest_spent a d)

        go : (o : Outcome) (j : ℕ) → Asked s way q n o j → ((j : ℕ) → j ≤ s.budget → s.budget ≤ j + f → Ended (Bodies s way S bs j))
            → Ended (Bodies s way S (b ∷ bs) n)
        go (succeeded t) j a next =
            let w = asked_within s l a in
            let r = next j w.stays (omega (arith, w.rises)) in join t j a r.0 r.1 r.2
        go failed j a next = (failed, j, body_fails a)
        go spent j a next = (spent, j, body_spent a)

    restart_end : (q : Query) (i n : ℕ) → i ≡ length s.book → n ≤ s.budget → s.budget ≤ n + f → Ended (Tried s way q i n)
    unfolding dec_T
    restart_end q i n e l m = dite (dec_T s.restart)
        (λ t. let r = ask goal n l m in mark t r.0 r.1 r.2) (λ t. (failed, n, gives_up e (not_T s.restart t)))
      where
        goal : Query
        goal = record { in_force = q.in_force; name = s.goal }

        mark : T s.restart → (o : Outcome) (k : ℕ) → Asked s way goal n o k → Ended (Tried s way q i n)
        mark t (succeeded bs) k a = (succeeded (2 ∷ bs), k, restart_succeeds e t a)
        mark t failed k a = (failed, k, restart_fails e t a)
        mark t spent k a = (spent, k, restart_spent e t a)

    -- d records are left to be tried, from i on
    tried_end : (q : Query) (d i n : ℕ) → i + d ≡ length s.book → n ≤ s.budget → s.budget ≤ n + f → Ended (Tried s way q i n)
    unfolding bodies_end restart_end dec_applies bodies_of
    tried_end q zero i n e l m = restart_end q i n (omega arith) l m
    tried_end q (suc d) i n e l m =
        dite (dec_applies s.book q.in_force q.name i)
        (λ a. let r = bodies_end q.in_force (bodies_of s.book i) n l m in by a r.0 r.1 r.2 (λ j. tried_end q d (suc i) j (omega arith)))
        (λ a. let r = tried_end q d (suc i) n (omega arith) l m in (r.0, r.1, passed (omega arith) a r.2))
      where
        by : Applies s.book q.in_force q.name i → (o : Outcome) (j : ℕ) → Bodies s way q.in_force (bodies_of s.book i) n o j
            → ((j : ℕ) → j ≤ s.budget → s.budget ≤ j + f → Ended (Tried s way q (suc i) j)) → Ended (Tried s way q i n)
        by a (succeeded t) j b next = (succeeded (1 ∷ i ∷ t), j, rule_succeeds (omega arith) a b)
        by a failed j b next =
            let w = bodies_within s l b in
            let r = next j w.stays (omega (arith, w.rises)) in (r.0, r.1, rule_fails (omega arith) a b r.2)
        by a spent j b next = (spent, j, rule_spent (omega arith) a b)

  asked_end : (f : ℕ) (way : List Query) (q : Query) (n : ℕ) → n ≤ s.budget → s.budget ≤ n + f → Ended (Asked s way q n)
  unfolding tried_end dec_on ℕ_discrete
  asked_end zero way q n l m =
      dite (dec_on q way) (λ on. (failed, n, barred on)) (λ new. (spent, n, no_budget new (omega arith)))
  asked_end (suc f) way q n l m =
      dite (dec_on q way) (λ on. (failed, n, barred on))
      (λ new. dite (ℕ_discrete n s.budget) (λ e. (spent, n, no_budget new e))
      (λ e.
      let r = tried_end f (q ∷ way) (asked_end f (q ∷ way)) q (length s.book) 0 (suc n) (omega arith) (omega arith) (omega arith) in
      (r.0, r.1, begun new e r.2)))

unfoldable pub ends : Ends
unfolding asked_end
ends s way q n l = asked_end s s.budget way q n l (omega arith)
