-- What happens in a run, and what leaves the tally as it is.
use Rattle.std.proofs.Common.{◌≡◌, ℕ, true, List, [], ◌∷◌, ◌++◌, refl, ap, subst}
use mathlib.Core.Option.{Option, none, some}
use Rattle.reader.specs.Written.{Refusal, Kind}
use Rattle.law.specs.Calls.{Call, add, seal, reopen, suppose, withdraw, Answer, done, Tally, Takes, taken, unless_refused}
use Rattle.law.specs.Defined.{refusal, Says, Defined, refuses, answers, next}
use Rattle.law.specs.Runs.{Event, IsRefused, Keeps, AllKeep, Run, step, Happens, first, later, RunRight}
use Rattle.law.specs.Kept.{TallyRight}
use Rattle.std.proofs.lemmas.Bool.{both_ways}
use Rattle.law.proofs.Kept.{start_right, next_right}

module _ {K : Type 0} (kind : Kind K) (slots : ℕ) where
  -- what happens is taken, is answered as defined, and what follows is a run
  pub record Step (t : Tally) (e : Event) (rest : List Event) : Type 0 where
    pub takes : Takes t e.call
    pub defined : Defined kind slots t e.call e.answer e.buffer
    pub follows : Run kind slots (next kind slots t e.call) rest

  pub next_step : {t : Tally} {e : Event} {rest : List Event} → Run kind slots t (e ∷ rest) → Step t e rest
  next_step (step takes d r) = record { takes = takes; defined = d; follows = r }

  pub happened : {from t : Tally} {e : Event} {run rest : List Event} → Run kind slots from run → Happens kind slots from run t e rest → Step t e rest
  happened r first = next_step r
  happened r (later h) = happened (next_step r).follows h

  -- an answer that is no refusal
  pub unrefused : {t : Tally} {c : Call} {a : Answer} {b : List ℕ} → Defined kind slots t c a b → (IsRefused a → ⊥)
      → (refusal kind slots t c ≡ none) × Says kind slots t c a b
  unrefused (refuses e) h = absurd (h tt)
  unrefused (answers e s) h = (e, s)

  -- a refused call leaves the tally
  refused_stays : (t : Tally) (c : Call) (a : Answer) (b : List ℕ) → Defined kind slots t c a b → IsRefused a
      → (Says kind slots t c a b → a ≡ done) → next kind slots t c ≡ t
  refused_stays t c a b (refuses e) h k = ap (unless_refused t c) e
  refused_stays t c a b (answers e s) h k = absurd (subst IsRefused (k s) h)

  -- so does a call that takes nothing, refused or not
  same_taken : (t : Tally) (c : Call) (f : Option Refusal) → taken t c ≡ t → unless_refused t c f ≡ t
  same_taken t c none e = e
  same_taken t c (some f) e = refl

  pub stays : (t : Tally) (c : Call) (a : Answer) (b : List ℕ) → t.sealed ≡ true → Takes t c → Defined kind slots t c a b → Keeps c a
      → next kind slots t c ≡ t
  stays t (add r) a b s takes d k = absurd (both_ways _ takes s)
  stays t seal a b s takes d k = absurd (both_ways _ takes s)
  stays t reopen a b s takes d k = absurd k
  stays t (suppose r) a b s takes d k = refused_stays t (suppose r) a b d k (λ x. x.0)
  stays t withdraw a b s takes d k = refused_stays t withdraw a b d k (λ x. x.0)
  stays t c a b s takes d k = same_taken t c (refusal kind slots t c) refl

  -- past calls that keep the rules in force, the tally is the same
  pub past : (t : Tally) (between rest : List Event) → t.sealed ≡ true → AllKeep between → Run kind slots t (between ++ rest) → Run kind slots t rest
  past t [] rest s keep r = r
  past t (e ∷ es) rest s keep r =
      let f = next_step r in
      let same = stays t e.call e.answer e.buffer s f.takes f.defined keep.0 in
      past t es rest s keep.1 (subst (λ (u : Tally). Run kind slots u (es ++ rest)) same f.follows)

  -- the tally stays right along a run
  right_along : {from t : Tally} {e : Event} {run rest : List Event} → TallyRight kind slots from → Run kind slots from run
      → Happens kind slots from run t e rest → TallyRight kind slots t
  right_along s r first = s
  right_along {from} s r (later {d = d} h) =
      let f = next_step r in
      right_along (next_right kind slots from d.call f.takes s) f.follows h

pub run_right : (K : Type 0) → RunRight K
run_right K kind slots run r t e rest h = right_along kind slots (start_right kind slots) r h
