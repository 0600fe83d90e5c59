-- How the parts of the search follow from one another.
use Rattle.std.proofs.Common.{◌≡◌, ℕ, zero, ◌+◌, ◌^◌, Bool, true, false, List, ◌∷◌, ◌++◌, Ok, Err, Result, sym, ◌∙◌, subst, add-one, arith}
use lib.Bits.{bit_or}
use Rattle.logic.proofs.Begun.{tracks_kept}
use Rattle.logic.specs.Begun.{Tracks}
use Rattle.logic.specs.Rules.{head_of, bodies_of, supposing}
use Rattle.logic.specs.Search.{Query, Setting, On, Outcome, succeeded, failed, spent, Asked, barred, no_budget, begun, Tried}
use Rattle.logic.specs.Sets.{Has, mask}
use Rattle.prover.specs.Settings.{query_of}
use Rattle.prover.specs.Told.{Kept, EachWay, Came, Writes, NameAsked, RulesTried, BodyAsked}
use Rattle.prover.specs.declared.progress.Search.{Search}
use Rattle.prover.specs.declared.progress.Spent.{Spent}
use Rattle.prover.specs.declared.in_force.InForce.{InForce}
use Rattle.prover.proofs.Buffers.{wrote_twice}

-- ---- what is told

-- what holds of each outcome may be said in another way
pub told_as : (P Q : Outcome → Type 0) (u out : List ℕ) (n : ℕ) (out' : List ℕ) (n' : ℕ) (r : Result Bool Spent) → ((o : Outcome) → P o → Q o)
    → Came P u out n out' n' r → Came Q u out n out' n' r
told_as P Q u out n out' n' (Ok true) f h = (h.0, f (succeeded h.0) h.1, h.2)
told_as P Q u out n out' n' (Ok false) f h = (f failed h.0, h.1, h.2)
told_as P Q u out n out' n' (Err _) f h = f spent h

-- it may be said of the same setting, and of what is in force as it was
pub told_same : (P : Setting → InForce → Type 0) (s s' : Setting) (f f' : InForce) → s' ≡ s → f' ≡ f → P s' f' → P s f
told_same P s s' f f' es ef h = subst (λ (g : InForce). P s g) ef (subst (λ (v : Setting). P v f') es h)

-- ---- one part after another

module _ (s t u : Search) where
  pub kept_on : Kept s t → Kept t u → Kept s u
  kept_on k k' = record {
    setting = k'.setting ∙ k.setting;
    buffer = k'.buffer ∙ k.buffer;
    room = k'.room ∙ k.room;
    grown = omega (arith, k.grown, k'.grown);
  }

  pub writes_on : (v w : List ℕ) → Kept s t → Writes s v t → Writes t w u → Writes s (v ++ w) u
  writes_on v w k = wrote_twice s.out.now s.progress.len v t.out.now t.progress.len w u.out.now u.progress.len k.room

-- ---- a name is asked

module _ (s : Setting) (f : InForce) where
  pub asked_barred : (x n : ℕ) → Has f.begun x → NameAsked s f x n n failed
  asked_barred x n h way t = barred ((t.begun x).1 h)

  fresh : (x : ℕ) → (Has f.begun x → ⊥) → EachWay f (λ way. On (query_of f.set.bits x) way → ⊥)
  fresh x h way t o = h ((t.begun x).0 o)

  pub asked_spent : (x n : ℕ) → (Has f.begun x → ⊥) → n ≡ s.budget → NameAsked s f x n n spent
  asked_spent x n h e way t = no_budget (fresh x h way t) e

  pub asked_begun : (x n m : ℕ) (o : Outcome) (g : InForce) → (Has f.begun x → ⊥) → (n ≡ s.budget → ⊥)
      → g ≡ record { set = f.set; begun = bit_or f.begun (2 ^ x) } → RulesTried s g x (n + 1) m o → NameAsked s f x n m o
  asked_begun x n m o g h ne is d way t =
      let q = query_of f.set.bits x in
      let there : Tried s (q ∷ way) q zero (n + 1) o m =
      subst (λ (v : InForce). RulesTried s v x (n + 1) m o) is d (q ∷ way) (tracks_kept.begin way f.set.bits f.begun x t) in
      begun (fresh x h way t) ne (subst (λ (c : ℕ). Tried s (q ∷ way) q zero c o m) (add-one n) there)

  -- ---- a body is asked

  there : (r S y n m : ℕ) (o : Outcome) (way : List Query) → S ≡ supposing s.book f.set.bits r → y ≡ head_of s.book r
      → Asked s way (query_of S y) n o m
      → Asked s way (query_of (supposing s.book f.set.bits r) (head_of s.book r)) n o m
  there r S y n m o way es ey d =
      subst (λ (v : ℕ). Asked s way (query_of v (head_of s.book r)) n o m) es
      (subst (λ (v : ℕ). Asked s way (query_of S v) n o m) ey d)

  -- it puts more in force
  pub body_grown : (r y n m : ℕ) (o : Outcome) (g : InForce) → g.set.bits ≡ supposing s.book f.set.bits r
      → y ≡ head_of s.book r → (g.set.bits ≡ f.set.bits → ⊥) → g.begun ≡ 0 → NameAsked s g y n m o → BodyAsked s f r n m o
  unfolding supposing
  body_grown r y n m o g es ey ne eg d way t =
      let grown : Tracks way (supposing s.book f.set.bits r) 0 =
      tracks_kept.larger way f.set.bits f.begun (mask (bodies_of s.book r)) t (λ e. ne (es ∙ e)) in
      let fits : Tracks way g.set.bits g.begun =
      subst (λ (v : ℕ). Tracks way g.set.bits v) (sym eg) (subst (λ (v : ℕ). Tracks way v 0) (sym es) grown) in
      there r g.set.bits y n m o way es ey (d way fits)
