-- A call has an answer, and at most one, and leaves one buffer.
use Rattle.std.proofs.Common.{◌≡◌, ℕ, Bool, ◌&&◌, ltb, leb, ◌⊎◌, List, [], ◌∷◌, length, sym, refl, ap, ◌∙◌, subst, ap₂, inl, inr, zero-le}
use mathlib.Core.Option.{Option, none, some, none-ne-some, some-injective}
use Rattle.logic.specs.Rules.{Rule, Rules, rule, Book}
use Rattle.logic.specs.Charts.{Holds}
use Rattle.logic.specs.Search.{Setting, Outcome}
use Rattle.logic.specs.Store.{book_of, RulesAsked}
use Rattle.logic.specs.Check.{Answers, Rejects}
use Rattle.logic.proofs.Deterministic.{deterministic}
use Rattle.logic.proofs.Ends.{ends}
use Rattle.logic.proofs.Rejection.{rejects_right}
use Rattle.logic.proofs.Tests.{is_yes, from_yes, to_yes}
use Rattle.reader.specs.Written.{Refusal, Kind}
use Rattle.law.specs.Limits.{largest_budget, tree_bytes}
use Rattle.law.specs.Standing.{Entry, entered, enter}
use Rattle.law.specs.Calls.{Call, ask, check, look, Answer, done, refused, accepted, rejected, told, handed, Tally}
use Rattle.law.specs.Defined.{unless, or_else, refusal_of, goal_query, found, filled, Checked, accepts, rejects, standing, Goal, entering, refusal, Says, Defined, refuses, answers}
use Rattle.law.specs.OneAnswer.{OfLawful, OneAnswer}
use Rattle.law.proofs.Refusals.{tests_same, or_none}
use Rattle.law.proofs.Decided.{dec_holds, dec_all}

-- ---- at most one

-- the rule that was entered
abbrev pub rule_in : {K : Type 0} → Entry K → Rule
rule_in (Entry.refused f) = rule 0 Rules.none
rule_in (entered ks r) = r

searched_same : (restart : Bool) (rules : Rules) (goal : Rule) (budget : ℕ) (out out' : Outcome) (k k' : ℕ)
    → RulesAsked restart rules goal budget out k → RulesAsked restart rules goal budget out' k' → (out ≡ out') × (k ≡ k')
searched_same restart rules goal budget out out' k k' d d' =
    let s : Setting = record { book = book_of rules goal; restart = restart; goal = (goal_query rules goal).name; budget = budget } in
    deterministic s [] (goal_query rules goal) 0 out out' k k' d d'

checked_same : {restart : Bool} {rules : Rules} {goal : Rule} {bs : List ℕ} {a a' : Answer}
    → Checked restart rules goal bs a → Checked restart rules goal bs a' → a ≡ a'
checked_same (accepts v) (accepts w) = refl
checked_same {restart} {rules} {goal} {bs} (accepts v) (rejects {p = p} w) =
    absurd (rejects_right.never_both (book_of rules goal) restart (goal_query rules goal).name (goal_query rules goal ∷ []) 0 bs p v w)
checked_same {restart} {rules} {goal} {bs} (rejects {p = p} w) (accepts v) =
    absurd (rejects_right.never_both (book_of rules goal) restart (goal_query rules goal).name (goal_query rules goal ∷ []) 0 bs p v w)
checked_same {restart} {rules} {goal} {bs} (rejects {p = p} v) (rejects {p = p'} w) =
    ap rejected (rejects_right.one_place (book_of rules goal) restart (goal_query rules goal).name (goal_query rules goal ∷ []) 0 bs p p' v w)

module _ {K : Type 0} (kind : Kind K) (slots : ℕ) where
  -- bytes are entered as one goal
  pub goal_same : (t : Tally) (w : List ℕ) (goal goal' : Rule) → Goal kind slots t w goal → Goal kind slots t w goal' → goal ≡ goal'
  goal_same t w goal goal' g g' = ap rule_in (sym g.1 ∙ g'.1)

  says_same : (t : Tally) (c : Call) (a a' : Answer) (b b' : List ℕ) → Says kind slots t c a b → Says kind slots t c a' b' → (a ≡ a') × (b ≡ b')
  says_same t (ask w budget buffer restart) a a' b b' (goal, g, out, k, d, ea, eb) (goal', g', out', k', d', ea', eb') =
      let rules = (standing kind slots t).rules in
      let e = goal_same t w goal' goal g' g in
      let same = searched_same restart rules goal budget out out' k k' d (subst (λ (r : Rule). RulesAsked restart rules r budget out' k') e d') in
      (ea ∙ ap₂ (found buffer) same.0 same.1 ∙ sym ea', eb ∙ ap (filled buffer) same.0 ∙ sym eb')
  says_same t (check w tree restart) a a' b b' (goal, g, d, eb) (goal', g', d', eb') =
      let rules = (standing kind slots t).rules in
      let e = goal_same t w goal' goal g' g in
      (checked_same d (subst (λ (r : Rule). Checked restart rules r tree a') e d'), eb ∙ sym eb')
  says_same t (look w chart release) a a' b b' (goal, g, all, one, ha, ho, ea, eb) (goal', g', all', one', ha', ho', ea', eb') =
      let e = goal_same t w goal goal' g g' in
      let same_all = tests_same all all' (λ x. ha'.1 (ha.0 x)) (λ x. ha.1 (ha'.0 x)) in
      let same_one =
      tests_same one one' (λ x. ho'.1 (subst (Holds chart release) e (ho.0 x))) (λ x. ho.1 (subst (Holds chart release) (sym e) (ho'.0 x))) in
      (ea ∙ ap₂ told same_all same_one ∙ sym ea', eb ∙ sym eb')
  says_same t _ a a' b b' s s' = (s.0 ∙ sym s'.0, s.1 ∙ sym s'.1)

  pub one : (t : Tally) (c : Call) (a a' : Answer) (b b' : List ℕ) → Defined kind slots t c a b → Defined kind slots t c a' b' → (a ≡ a') × (b ≡ b')
  one t c a a' b b' (refuses {f = f} e) (refuses {f = f'} e') = (ap refused (some-injective f f' (sym e ∙ e')), refl)
  one t c a a' b b' (refuses {f = f} e) (answers e' s) = absurd (none-ne-some f (sym e' ∙ e))
  one t c a a' b b' (answers e s) (refuses {f = f} e') = absurd (none-ne-some f (sym e ∙ e'))
  one t c a a' b b' (answers e s) (answers e' s') = says_same t c a a' b b' s s'

-- ---- and one there is

checks : (restart : Bool) (rules : Rules) (goal : Rule) (bs : List ℕ) → (a : Answer) × Checked restart rules goal bs a
checks restart rules goal bs = go (rejects_right.either book restart g (goal_query rules goal ∷ []) 0 bs)
  where
    book : Book
    book = book_of rules goal

    g : ℕ
    g = (goal_query rules goal).name

    go : Answers book restart g (goal_query rules goal ∷ []) bs ⊎ ((p : ℕ) × Rejects book restart g (goal_query rules goal ∷ []) 0 bs p)
        → (a : Answer) × Checked restart rules goal bs a
    go (inl w) = (accepted, accepts w)
    go (inr w) = (rejected w.0, rejects w.1)

searches : (restart : Bool) (rules : Rules) (goal : Rule) (budget : ℕ) → (out : Outcome) × (k : ℕ) × RulesAsked restart rules goal budget out k
searches restart rules goal budget =
    let s : Setting = record { book = book_of rules goal; restart = restart; goal = (goal_query rules goal).name; budget = budget } in
    ends s [] (goal_query rules goal) 0 zero-le

module _ {K : Type 0} (kind : Kind K) (slots : ℕ) where
  -- what is not refused is entered
  pub is_entered : (e : Entry K) → refusal_of e ≡ none → (ks : List K) × (r : Rule) × (e ≡ entered ks r)
  is_entered (Entry.refused f) h = absurd (none-ne-some f (sym h))
  is_entered (entered ks r) h = (ks, r, refl)

  goal_in : (t : Tally) (w : List ℕ) → entering kind slots t w ≡ none → (goal : Rule) × Goal kind slots t w goal
  goal_in t w h = let (ks, r, e) = is_entered (enter kind slots (standing kind slots t) w) h in (r, (ks, e))

  abbrev Speaks : Tally → Call → Type 0
  Speaks t c = (a : Answer) × (b : List ℕ) × Says kind slots t c a b

  speaks : (t : Tally) (c : Call) → OfLawful c → refusal kind slots t c ≡ none → Speaks t c
  speaks t (ask w budget buffer restart) l h =
      let after_budget = (or_none (unless (leb 1 budget && leb budget largest_budget) 32) (or_else (unless (leb (length buffer) tree_bytes) 33) (entering kind slots t w)) h).1 in
      let (goal, g) = goal_in t w (or_none (unless (leb (length buffer) tree_bytes) 33) (entering kind slots t w) after_budget).1 in
      let (out, k, d) = searches restart (standing kind slots t).rules goal budget in
      (found buffer out k, filled buffer out, (goal, g, out, k, d, refl, refl))
  speaks t (check w tree restart) l h =
      let (goal, g) = goal_in t w (or_none (unless (leb (length tree) tree_bytes) 33) (entering kind slots t w) h).1 in
      let (a, d) = checks restart (standing kind slots t).rules goal tree in
      (a, [], (goal, g, d, refl))
  speaks t (look w chart release) l h =
      let (goal, g) = goal_in t w (or_none (entering kind slots t w) (unless (ltb release chart.size) 34) h).0 in
      let all = dec_all chart l (standing kind slots t).rules release in
      let one' = dec_holds chart l goal release in
      let told_of = told (is_yes all) (is_yes one') in
      (told_of, [], (goal, g, is_yes all, is_yes one', (from_yes all, to_yes all), (from_yes one', to_yes one'), refl, refl))
  speaks t _ l h = (done, [], (refl, refl))

  abbrev Answered : Tally → Call → Type 0
  Answered t c = (a : Answer) × (b : List ℕ) × Defined kind slots t c a b

  pub answered : (t : Tally) (c : Call) → OfLawful c → Answered t c
  answered t c l = go (refusal kind slots t c) refl
    where
      go : (f : Option Refusal) → refusal kind slots t c ≡ f → Answered t c
      go (some f) e = (refused f, handed c, refuses e)
      go none e = let (a, b, s) = speaks t c l e in (a, b, answers e s)

pub one_answer_each : (K : Type 0) → OneAnswer K
one_answer_each K = record { answer = answered; one_answer = one }
