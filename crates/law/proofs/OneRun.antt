-- Each list of calls has one run.
use Rattle.std.proofs.Common.{◌≡◌, ℕ, List, [], ◌∷◌, sym, refl, ap, subst, ap₂}
use mathlib.Core.List.{nil≢cons, cons-ne-nil, head-eq_of_cons-eq, tail-eq_of_cons-eq}
use Rattle.reader.specs.Written.{Kind}
use Rattle.law.specs.Calls.{Call, Tally}
use Rattle.law.specs.Defined.{Defined, next}
use Rattle.law.specs.Runs.{Event, Run, ended, step}
use Rattle.law.specs.OneRun.{AllTaken, calls, OneRun}
use Rattle.law.proofs.OneAnswer.{one, answered}
use Rattle.law.proofs.Runs.{next_step}

same_event : (e e' : Event) → e.call ≡ e'.call → e.answer ≡ e'.answer → e.buffer ≡ e'.buffer → e ≡ e'
same_event e e' p q r = λ i. record { call = p i; answer = q i; buffer = r i }

module _ {K : Type 0} (kind : Kind K) (slots : ℕ) where
  runs : (t : Tally) (cs : List Call) → AllTaken kind slots t cs → (es : List Event) × (calls es ≡ cs) × Run kind slots t es
  runs t [] h = ([], refl, ended)
  runs t (c ∷ cs) (takes, l, h) =
      let (a, b, d) = answered kind slots t c l in
      let (es, e, r) = runs (next kind slots t c) cs h in
      (record { call = c; answer = a; buffer = b } ∷ es, ap (λ (u : List Call). c ∷ u) e, step takes d r)

  one_run : (t : Tally) (es es' : List Event) → Run kind slots t es → Run kind slots t es' → calls es ≡ calls es' → es ≡ es'
  one_run t [] [] r r' e = refl
  one_run t [] (x' ∷ es') r r' e = absurd (nil≢cons e)
  one_run t (x ∷ es) [] r r' e = absurd (cons-ne-nil x.call (calls es) e)
  one_run t (x ∷ es) (x' ∷ es') r r' e =
      let s = next_step kind slots r in
      let s' = next_step kind slots r' in
      let c : x'.call ≡ x.call = sym (head-eq_of_cons-eq e) in
      let same = one kind slots t x.call x.answer x'.answer x.buffer x'.buffer s.defined
      (subst (λ (d : Call). Defined kind slots t d x'.answer x'.buffer) c s'.defined) in
      let follows = subst (λ (d : Call). Run kind slots (next kind slots t d) es') c s'.follows in
      ap₂ (λ (u : Event) (us : List Event). u ∷ us) (same_event x x' (sym c) same.0 same.1)
      (one_run (next kind slots t x.call) es es' s.follows follows (tail-eq_of_cons-eq e))

pub one_run_each : (K : Type 0) → OneRun K
one_run_each K = record { run = runs; one_run = one_run }
