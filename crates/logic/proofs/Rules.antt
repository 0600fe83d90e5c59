-- A record stands for the rule of its head and of what its bodies stand for.
use Rattle.std.proofs.Common.{◌≡◌, ℕ, zero, suc, ◌^◌, ◌<◌, ◌≤◌, List, [], ◌∷◌, length, sym, refl, ap, ◌∙◌, ⊎_elim, ap₂, not-suc-le-zero, arith}
use lib.Bits.{or_lt}
use Rattle.std.proofs.lemmas.Bool.{cases_lt}
use Rattle.std.proofs.lemmas.List.{get_or_past}
use Rattle.logic.specs.Sets.{AllBelow, mask}
use Rattle.logic.specs.Rules.{Rule, rule, none, more, Record, Book, blank, head_of, bodies_of, WellFormed, supposing, each, rule_at, rule_of}
use Rattle.logic.proofs.Sets.{Member, below_more, mask_lt, member_below}

-- past the end of the book there are no bodies
no_bodies_past : (book : Book) (r : ℕ) → length book ≤ r → bodies_of book r ≡ []
unfolding bodies_of
no_bodies_past book r h = ap (λ (e : Record). e.bodies) (get_or_past book r blank h)

pub bodies_below : (book : Book) → WellFormed book → (r : ℕ) → AllBelow r (bodies_of book r)
bodies_below book wf r = ⊎_elim (wf r) (λ past. rw (no_bodies_past book r past) tt) (cases_lt r (length book))

-- the bodies of each record are records of the book
pub bodies_recorded : (book : Book) → WellFormed book → (r : ℕ) → AllBelow (length book) (bodies_of book r)
bodies_recorded book wf r =
    ⊎_elim (λ l. below_more r (length book) (omega arith) (bodies_of book r) (wf r l)) (λ past. rw (no_bodies_past book r past) tt)
    (cases_lt r (length book))

-- what is true of a record where it is true of its bodies, which come before it, is true of each
pub by_bodies : (book : Book) → WellFormed book → (P : ℕ → Type 0) → ((r : ℕ) → ((b : ℕ) → Member b (bodies_of book r) → P b) → P r) → (r : ℕ) → P r
by_bodies book wf P step r = below (suc r) r (omega arith)
  where
    below : (n r : ℕ) → r < n → P r
    below zero r l = absurd (not-suc-le-zero l)
    below (suc n) r l = step r (λ b m. below n b (omega (arith, member_below r (bodies_below book wf r) m)))

pub supposing_lt : (book : Book) → WellFormed book → (S b : ℕ) → S < 2 ^ length book → supposing book S b < 2 ^ length book
unfolding supposing
supposing_lt book wf S b h = or_lt (length book) S (mask (bodies_of book b)) h (mask_lt (length book) (bodies_of book b) (bodies_recorded book wf b))

pub each_same : (f g : ℕ → Rule) (m : ℕ) → ((b : ℕ) → b < m → f b ≡ g b) → (bs : List ℕ) → AllBelow m bs → each f bs ≡ each g bs
each_same f g m same [] h = refl
each_same f g m same (b ∷ bs) h = ap₂ more (same b h.0) (each_same f g m same bs h.1)

each_none : (f : ℕ → Rule) (bs : List ℕ) → AllBelow zero bs → each f bs ≡ none
each_none f [] h = refl
each_none f (b ∷ bs) h = absurd (not-suc-le-zero h.0)

module _ (book : Book) (wf : WellFormed book) where
  no_bodies : (f : ℕ → Rule) (r : ℕ) → r ≤ zero → each f (bodies_of book r) ≡ none
  no_bodies f r first = each_none f (bodies_of book r) (below_more r zero first (bodies_of book r) (bodies_below book wf r))

  -- a depth of r or more makes no difference
  deep_enough : (n m r : ℕ) → r ≤ n → r ≤ m → rule_at book n r ≡ rule_at book m r
  unfolding rule_at
  deep_enough zero zero r p q = refl
  deep_enough zero (suc m) r p q = ap (rule (head_of book r)) (sym (no_bodies (rule_at book m) r p))
  deep_enough (suc n) zero r p q = ap (rule (head_of book r)) (no_bodies (rule_at book n) r q)
  deep_enough (suc n) (suc m) r p q =
      ap (rule (head_of book r))
      (each_same (rule_at book n) (rule_at book m) r
      (λ b l. deep_enough n m b (omega arith) (omega arith)) (bodies_of book r) (bodies_below book wf r))

  pub rule_of_is : (r : ℕ) → rule_of book r ≡ rule (head_of book r) (each (rule_of book) (bodies_of book r))
  unfolding rule_of rule_at
  rule_of_is r =
      deep_enough r (suc r) r (omega arith) (omega arith)
      ∙ ap (rule (head_of book r))
      (each_same (rule_at book r) (λ b. rule_at book b b) r
      (λ b l. deep_enough r b b (omega arith) (omega arith)) (bodies_of book r) (bodies_below book wf r))
