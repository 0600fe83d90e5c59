-- Trees of bounded height, as a test: what succeeds by a tree of at most h levels.
use Rattle.std.proofs.Common.{◌≡◌, ℕ, zero, suc, ◌<◌, ◌≤◌, max, Bool, false, ◌&&◌, ◌||◌, T, ◌⊎◌, List, [], ◌∷◌, length, inl, inr, ⊎_elim, not-suc-le-zero, arith}
use native.Mathlib.Decide.{ℕ_discrete, dec_lt}
use Rattle.logic.specs.Sets.{Has, Within, mask}
use Rattle.logic.specs.Rules.{Book, head_of, bodies_of, supposing}
use Rattle.logic.specs.Trees.{Tree, Trees, by_rule, by_restart, no_body, body, Applies}
use Rattle.logic.proofs.Sets.{dec_has, within_self, within_both, has_within}
use Rattle.logic.proofs.Tests.{is_yes, from_yes, to_yes, both, and_left, and_right, or_left, or_right, or_cases, some_below, some_found, some_at, all_of, all_map}

unfoldable pub dec_applies : (book : Book) (S x r : ℕ) → Dec (Applies book S x r)
unfolding dec_lt dec_has ℕ_discrete head_of
dec_applies book S x r = go (dec_lt r (length book)) (dec_has S r) (ℕ_discrete (head_of book r) x)
  where
    go : Dec (r < length book) → Dec (Has S r) → Dec (head_of book r ≡ x) → Dec (Applies book S x r)
    go (no h) b c = no (λ a. h a.recorded)
    go (yes l) (no h) c = no (λ a. h a.in_force)
    go (yes l) (yes i) (no h) = no (λ a. h a.heads)
    go (yes l) (yes i) (yes e) = yes (record { recorded = l; in_force = i; heads = e })

-- a body of the set S passes the test of queries
abbrev pub body_passes : Book → (ℕ → ℕ → Bool) → ℕ → ℕ → Bool
body_passes book P S b = P (supposing book S b) (head_of book b)

module _ (book : Book) (restart : Bool) (g : ℕ) where
  by_record : (ℕ → ℕ → Bool) → ℕ → ℕ → ℕ → Bool
  by_record P S x r = is_yes (dec_applies book S x r) && all_of (body_passes book P S) (bodies_of book r)

  -- x succeeds from S by a last step from queries that pass the test P
  pub step : (ℕ → ℕ → Bool) → ℕ → ℕ → Bool
  step P S x = some_below (length book) (by_record P S x) || (restart && P S g)

  -- x succeeds from S by a tree of at most h levels
  unfoldable pub succeeds : ℕ → ℕ → ℕ → Bool
  succeeds zero S x = false
  succeeds (suc h) S x = step (succeeds h) S x

  pub step_rule : (P : ℕ → ℕ → Bool) (S x r : ℕ) → Applies book S x r → T (all_of (body_passes book P S) (bodies_of book r)) → T (step P S x)
  unfolding step by_record
  step_rule P S x r a t =
      or_left (some_below (length book) (by_record P S x)) (restart && P S g)
      (some_at (length book) (by_record P S x) r a.recorded
      (both (is_yes (dec_applies book S x r)) (all_of (body_passes book P S) (bodies_of book r)) (to_yes (dec_applies book S x r) a) t))

  pub step_restart : (P : ℕ → ℕ → Bool) (S x : ℕ) → T restart → T (P S g) → T (step P S x)
  unfolding step
  step_restart P S x s t = or_right (some_below (length book) (by_record P S x)) (restart && P S g) (both restart (P S g) s t)

  pub step_cases : (P : ℕ → ℕ → Bool) (S x : ℕ) → T (step P S x)
      → ((r : ℕ) × Applies book S x r × T (all_of (body_passes book P S) (bodies_of book r))) ⊎ (T restart × T (P S g))
  unfolding step by_record
  step_cases P S x t =
      ⊎_elim
      (λ s.
      let i = some_found (length book) (by_record P S x) s in
      let d = is_yes (dec_applies book S x i.0) in
      let a = all_of (body_passes book P S) (bodies_of book i.0) in
      inl (i.0, from_yes (dec_applies book S x i.0) (and_left d a i.2), and_right d a i.2))
      (λ s. inr (and_left restart (P S g) s, and_right restart (P S g) s))
      (or_cases (some_below (length book) (by_record P S x)) (restart && P S g) t)

  -- a larger set and a weaker test keep what succeeds
  step_map : (P Q : ℕ → ℕ → Bool) → ((S V x : ℕ) → Within S V → T (P S x) → T (Q V x))
      → (S V x : ℕ) → Within S V → T (step P S x) → T (step Q V x)
  unfolding supposing
  step_map P Q k S V x w t =
      ⊎_elim
      (λ c. step_rule Q V x c.0
      (record { recorded = c.1.recorded; in_force = has_within S V c.0 w c.1.in_force; heads = c.1.heads })
      (all_map (body_passes book P S) (body_passes book Q V)
      (λ b. k (supposing book S b) (supposing book V b) (head_of book b) (within_both S V (mask (bodies_of book b)) w))
      (bodies_of book c.0) c.2))
      (λ c. step_restart Q V x c.0 (k S V g w c.1))
      (step_cases P S x t)

  pub succeeds_more : (h k : ℕ) → h ≤ k → (S V x : ℕ) → Within S V → T (succeeds h S x) → T (succeeds k V x)
  unfolding succeeds
  succeeds_more zero k l S V x w t = absurd t
  succeeds_more (suc h) zero l S V x w t = absurd (not-suc-le-zero l)
  succeeds_more (suc h) (suc k) l S V x w t = step_map (succeeds h) (succeeds k) (succeeds_more h k (omega arith)) S V x w t

  -- ---- the test and trees

  all_trees : (P : ℕ → ℕ → Bool) → ((S x : ℕ) → T (P S x) → Tree book restart g S x)
      → (S : ℕ) (bs : List ℕ) → T (all_of (body_passes book P S) bs) → Trees book restart g S bs
  all_trees P k S [] t = no_body
  all_trees P k S (b ∷ bs) t =
      body (k (supposing book S b) (head_of book b) (and_left (body_passes book P S b) (all_of (body_passes book P S) bs) t))
      (all_trees P k S bs (and_right (body_passes book P S b) (all_of (body_passes book P S) bs) t))

  pub tree_of : (h S x : ℕ) → T (succeeds h S x) → Tree book restart g S x
  unfolding succeeds
  tree_of zero S x t = absurd t
  tree_of (suc h) S x t =
      ⊎_elim (λ c. by_rule c.0 c.1 (all_trees (succeeds h) (tree_of h) S (bodies_of book c.0) c.2))
      (λ c. by_restart c.0 (tree_of h S g c.1)) (step_cases (succeeds h) S x t)

  mutual
    unfolding succeeds

    pub height_of : {S x : ℕ} → Tree book restart g S x → (h : ℕ) × T (succeeds h S x)
    height_of {S} {x} (by_rule r a ts) = let i = heights_of ts in (suc i.0, step_rule (succeeds i.0) S x r a i.1)
    height_of {S} {x} (by_restart t tree) = let i = height_of tree in (suc i.0, step_restart (succeeds i.0) S x t i.1)

    pub heights_of : {S : ℕ} {bs : List ℕ} → Trees book restart g S bs → (h : ℕ) × T (all_of (body_passes book (succeeds h) S) bs)
    heights_of {S} no_body = (zero, tt)
    heights_of (body {S = S} {b = b} {bs = bs} t ts) =
        let i = height_of t in
        let j = heights_of ts in
        let m = max i.0 j.0 in (
          m,
          both (body_passes book (succeeds m) S b) (all_of (body_passes book (succeeds m) S) bs)
              (succeeds_more i.0 m (omega arith) (supposing book S b) (supposing book S b) (head_of book b) (within_self (supposing book S b)) i.1)
              (all_map (body_passes book (succeeds j.0) S) (body_passes book (succeeds m) S)
              (λ c. succeeds_more j.0 m (omega arith) (supposing book S c) (supposing book S c) (head_of book c) (within_self (supposing book S c))) bs j.1),
        )
