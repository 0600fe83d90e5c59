-- A search has at most one outcome and count.
use Rattle.std.proofs.Common.{◌≡◌, ℕ, suc, ◌<◌, not, T, List, [], ◌∷◌, ◌++◌, length, sym, refl, ap, ◌∙◌, subst₂, arith, T_not}
use Rattle.logic.specs.Rules.{Book, head_of, bodies_of, supposing}
use Rattle.logic.specs.Trees.{Applies}
use Rattle.logic.specs.Search.{Setting, Query, Outcome, failed, spent, succeeded, Asked, barred, no_budget, begun, Tried, passed, rule_succeeds, rule_fails, rule_spent, gives_up, restart_succeeds, restart_fails, restart_spent, Bodies, all_asked, body_fails, body_spent, rest_succeeds, rest_fails, rest_spent}
use Rattle.logic.specs.Theorems.{Deterministic}

-- the outcome with p before its bytes, where it has any
abbrev prefixed : List ℕ → Outcome → Outcome
prefixed p (succeeded t) = succeeded (p ++ t)
prefixed p failed = failed
prefixed p spent = spent

abbrev Same : Outcome → ℕ → Outcome → ℕ → Type 0
Same o k o' k' = (o ≡ o') × (k ≡ k')

module _ (s : Setting) where
  abbrev book : Book
  book = s.book

  -- ---- what a trial of the records from i on comes from, where record i does or does not apply, or there is none

  -- what follows when the bodies of record i have ended with the first outcome and count
  data Settled (way : List Query) (q : Query) (i : ℕ) : Outcome → ℕ → Outcome → ℕ → Type 0 where
    won : {t : List ℕ} {m : ℕ} → Settled way q i (succeeded t) m (succeeded (1 ∷ i ∷ t)) m
    lost : {m : ℕ} {o : Outcome} {k : ℕ} → Tried s way q (suc i) m o k → Settled way q i failed m o k
    broke : {m : ℕ} → Settled way q i spent m spent m

  record Ruled (way : List Query) (q : Query) (i n : ℕ) (o : Outcome) (k : ℕ) : Type 0 where
    first : Outcome
    count : ℕ
    bodies : Bodies s way q.in_force (bodies_of book i) n first count
    settled : Settled way q i first count o k

  ruled : {way : List Query} {q : Query} {i n : ℕ} {o : Outcome} {k : ℕ} → i < length book → Applies book q.in_force q.name i
      → Tried s way q i n o k → Ruled way q i n o k
  ruled l a (passed l' b d) = absurd (b a)
  ruled l a (rule_succeeds {bs = t} {k = k} l' b d) = record { first = succeeded t; count = k; bodies = d; settled = won }
  ruled l a (rule_fails {m = m} l' b d e) = record { first = failed; count = m; bodies = d; settled = lost e }
  ruled l a (rule_spent {k = k} l' b d) = record { first = spent; count = k; bodies = d; settled = broke }
  ruled l a (gives_up e t) = absurd (omega arith)
  ruled l a (restart_succeeds e t d) = absurd (omega arith)
  ruled l a (restart_fails e t d) = absurd (omega arith)
  ruled l a (restart_spent e t d) = absurd (omega arith)

  passed_on : {way : List Query} {q : Query} {i n : ℕ} {o : Outcome} {k : ℕ} → i < length book → ¬ Applies book q.in_force q.name i
      → Tried s way q i n o k → Tried s way q (suc i) n o k
  passed_on l a (passed l' b d) = d
  passed_on l a (rule_succeeds l' b d) = absurd (a b)
  passed_on l a (rule_fails l' b d e) = absurd (a b)
  passed_on l a (rule_spent l' b d) = absurd (a b)
  passed_on l a (gives_up e t) = absurd (omega arith)
  passed_on l a (restart_succeeds e t d) = absurd (omega arith)
  passed_on l a (restart_fails e t d) = absurd (omega arith)
  passed_on l a (restart_spent e t d) = absurd (omega arith)

  given_up : {way : List Query} {q : Query} {i n : ℕ} {o : Outcome} {k : ℕ} → i ≡ length book → T (not s.restart)
      → Tried s way q i n o k → Same failed n o k
  given_up e t (passed l b d) = absurd (omega arith)
  given_up e t (rule_succeeds l b d) = absurd (omega arith)
  given_up e t (rule_fails l b d f) = absurd (omega arith)
  given_up e t (rule_spent l b d) = absurd (omega arith)
  given_up e t (gives_up f u) = (refl, refl)
  given_up e t (restart_succeeds f u d) = absurd (T_not s.restart t u)
  given_up e t (restart_fails f u d) = absurd (T_not s.restart t u)
  given_up e t (restart_spent f u d) = absurd (T_not s.restart t u)

  record Restarted (way : List Query) (q : Query) (n : ℕ) (o : Outcome) (k : ℕ) : Type 0 where
    first : Outcome
    asked : Asked s way (record { in_force = q.in_force; name = s.goal }) n first k
    marked : prefixed (2 ∷ []) first ≡ o

  restarted : {way : List Query} {q : Query} {i n : ℕ} {o : Outcome} {k : ℕ} → i ≡ length book → T s.restart
      → Tried s way q i n o k → Restarted way q n o k
  restarted e t (passed l b d) = absurd (omega arith)
  restarted e t (rule_succeeds l b d) = absurd (omega arith)
  restarted e t (rule_fails l b d f) = absurd (omega arith)
  restarted e t (rule_spent l b d) = absurd (omega arith)
  restarted e t (gives_up f u) = absurd (T_not s.restart u t)
  restarted e t (restart_succeeds {bs = bs} f u d) = record { first = succeeded bs; asked = d; marked = refl }
  restarted e t (restart_fails f u d) = record { first = failed; asked = d; marked = refl }
  restarted e t (restart_spent f u d) = record { first = spent; asked = d; marked = refl }

  -- ---- what a list of bodies comes from

  data Rest (way : List Query) (S : ℕ) (bs : List ℕ) : Outcome → ℕ → Outcome → ℕ → Type 0 where
    on : {t : List ℕ} {m : ℕ} {o o' : Outcome} {k : ℕ} → Bodies s way S bs m o k → prefixed t o ≡ o' → Rest way S bs (succeeded t) m o' k
    off : {m : ℕ} → Rest way S bs failed m failed m
    out : {m : ℕ} → Rest way S bs spent m spent m

  record Headed (way : List Query) (S b : ℕ) (bs : List ℕ) (n : ℕ) (o : Outcome) (k : ℕ) : Type 0 where
    first : Outcome
    count : ℕ
    asked : Asked s way (record { in_force = supposing book S b; name = head_of book b }) n first count
    rest : Rest way S bs first count o k

  headed : {way : List Query} {S b : ℕ} {bs : List ℕ} {n : ℕ} {o : Outcome} {k : ℕ} → Bodies s way S (b ∷ bs) n o k → Headed way S b bs n o k
  headed (body_fails {k = k} a) = record { first = failed; count = k; asked = a; rest = off }
  headed (body_spent {k = k} a) = record { first = spent; count = k; asked = a; rest = out }
  headed (rest_succeeds {m = m} {t = t} a d) = record { first = succeeded t; count = m; asked = a; rest = on d refl }
  headed (rest_fails {m = m} {t = t} a d) = record { first = succeeded t; count = m; asked = a; rest = on d refl }
  headed (rest_spent {m = m} {t = t} a d) = record { first = succeeded t; count = m; asked = a; rest = on d refl }

  -- ---- the same, where the first part is known to be the same

  settled_won : {way : List Query} {q : Query} {i : ℕ} {t : List ℕ} {m : ℕ} {o : Outcome} {k : ℕ}
      → Settled way q i (succeeded t) m o k → Same (succeeded (1 ∷ i ∷ t)) m o k
  settled_won won = (refl, refl)

  settled_lost : {way : List Query} {q : Query} {i m : ℕ} {o : Outcome} {k : ℕ} → Settled way q i failed m o k → Tried s way q (suc i) m o k
  settled_lost (lost d) = d

  settled_broke : {way : List Query} {q : Query} {i m : ℕ} {o : Outcome} {k : ℕ} → Settled way q i spent m o k → Same spent m o k
  settled_broke broke = (refl, refl)

  rest_off : {way : List Query} {S : ℕ} {bs : List ℕ} {m : ℕ} {o : Outcome} {k : ℕ} → Rest way S bs failed m o k → Same failed m o k
  rest_off off = (refl, refl)

  rest_out : {way : List Query} {S : ℕ} {bs : List ℕ} {m : ℕ} {o : Outcome} {k : ℕ} → Rest way S bs spent m o k → Same spent m o k
  rest_out out = (refl, refl)

  settled_as : {way : List Query} {q : Query} {i : ℕ} {f : Outcome} {m : ℕ} {f' : Outcome} {m' : ℕ} {o : Outcome} {k : ℕ}
      → Same f m f' m' → Settled way q i f' m' o k → Settled way q i f m o k
  settled_as {way} {q} {i} {o = o} {k = k} e = subst₂ (λ g c. Settled way q i g c o k) (sym e.0) (sym e.1)

  rest_as : {way : List Query} {S : ℕ} {bs : List ℕ} {f : Outcome} {m : ℕ} {f' : Outcome} {m' : ℕ} {o : Outcome} {k : ℕ}
      → Same f m f' m' → Rest way S bs f' m' o k → Rest way S bs f m o k
  rest_as {way} {S} {bs} {o = o} {k = k} e = subst₂ (λ g c. Rest way S bs g c o k) (sym e.0) (sym e.1)

  joined_as : (p : List ℕ) {f : Outcome} {k : ℕ} {f' : Outcome} {k' : ℕ} {o : Outcome} → Same f k f' k' → prefixed p f' ≡ o → Same (prefixed p f) k o k'
  joined_as p e j = (ap (prefixed p) e.0 ∙ j, e.1)

  -- where the bodies behind a success have one outcome, so have all of them
  resumed : {way : List Query} {S : ℕ} {bs : List ℕ} {m : ℕ} {f : Outcome} {k : ℕ} {o : Outcome} {k' : ℕ} (t : List ℕ) → Rest way S bs (succeeded t) m o k'
      → ((f' : Outcome) → Bodies s way S bs m f' k' → Same f k f' k') → Same (prefixed t f) k o k'
  resumed t (on {o = o} d e) next = joined_as t (next o d) e

  mutual
    asked_one : {way : List Query} {q : Query} {n : ℕ} {o : Outcome} {k : ℕ} {o' : Outcome} {k' : ℕ}
        → Asked s way q n o k → Asked s way q n o' k' → Same o k o' k'
    asked_one (barred a) (barred b) = (refl, refl)
    asked_one (barred a) (no_budget b c) = absurd (b a)
    asked_one (barred a) (begun b c d) = absurd (b a)
    asked_one (no_budget a e) (barred b) = absurd (a b)
    asked_one (no_budget a e) (no_budget b f) = (refl, refl)
    asked_one (no_budget a e) (begun b c d) = absurd (c e)
    asked_one (begun a b d) (barred c) = absurd (a c)
    asked_one (begun a b d) (no_budget c e) = absurd (b e)
    asked_one (begun a b d) (begun c e f) = tried_one d f

    tried_one : {way : List Query} {q : Query} {i n : ℕ} {o : Outcome} {k : ℕ} {o' : Outcome} {k' : ℕ}
        → Tried s way q i n o k → Tried s way q i n o' k' → Same o k o' k'
    tried_one (passed l a d) y = tried_one d (passed_on l a y)
    tried_one (rule_succeeds l a d) y = let u = ruled l a y in settled_won (settled_as (bodies_one d u.bodies) u.settled)
    tried_one (rule_fails l a d e) y = let u = ruled l a y in tried_one e (settled_lost (settled_as (bodies_one d u.bodies) u.settled))
    tried_one (rule_spent l a d) y = let u = ruled l a y in settled_broke (settled_as (bodies_one d u.bodies) u.settled)
    tried_one (gives_up e t) y = given_up e t y
    tried_one (restart_succeeds e t d) y = let u = restarted e t y in joined_as (2 ∷ []) (asked_one d u.asked) u.marked
    tried_one (restart_fails e t d) y = let u = restarted e t y in joined_as (2 ∷ []) (asked_one d u.asked) u.marked
    tried_one (restart_spent e t d) y = let u = restarted e t y in joined_as (2 ∷ []) (asked_one d u.asked) u.marked

    bodies_one : {way : List Query} {S : ℕ} {bs : List ℕ} {n : ℕ} {o : Outcome} {k : ℕ} {o' : Outcome} {k' : ℕ}
        → Bodies s way S bs n o k → Bodies s way S bs n o' k' → Same o k o' k'
    bodies_one all_asked all_asked = (refl, refl)
    bodies_one (body_fails a) y = let u = headed y in rest_off (rest_as (asked_one a u.asked) u.rest)
    bodies_one (body_spent a) y = let u = headed y in rest_out (rest_as (asked_one a u.asked) u.rest)
    bodies_one (rest_succeeds {t = t} a d) y = let u = headed y in resumed t (rest_as (asked_one a u.asked) u.rest) (λ o z. bodies_one d z)
    bodies_one (rest_fails {t = t} a d) y = let u = headed y in resumed t (rest_as (asked_one a u.asked) u.rest) (λ o z. bodies_one d z)
    bodies_one (rest_spent {t = t} a d) y = let u = headed y in resumed t (rest_as (asked_one a u.asked) u.rest) (λ o z. bodies_one d z)

pub deterministic : Deterministic
deterministic s way q n o o' k k' a b = asked_one s a b
