-- What carrying out a call comes to, from what the call does.
use Rattle.std.proofs.Common.{◌≡◌, ℕ, zero, suc, ◌<◌, ◌≤◌, List, [], ◌∷◌, map, length, get_or, sym, refl, ap, ◌∙◌, subst, arith, Bor, Some, None, Option as Maybe}
use Rattle.std.specs.Slice.{IsItemAt}
use mathlib.Core.Option.{Option, none, some}
use Rattle.std.proofs.lemmas.List.{nil_from_length}
use Rattle.logic.specs.Charts.{Chart}
use Rattle.reader.specs.Written.{Kind}
use Rattle.law.specs.Calls as law
use Rattle.law.specs.Calls.{Tally, Takes}
use Rattle.service.specs.Calls.{room_of, chart_of, chart_at, look_at, call_of, answer_of}
use Rattle.service.specs.Represents.{Represents, Does}
use Rattle.service.specs.Replaying.{Came, CarriesOut, Looks}
use Rattle.service.specs.declared.calls.Answer.{Answer}
use Rattle.service.specs.declared.calls.Call.{Call}
use Rattle.service.specs.declared.calls.Call.TheVariants as call
use Rattle.service.specs.declared.state.Sealed.{Sealed}
use Rattle.service.specs.declared.state.State.{State}
use Rattle.service.specs.declared.state.State.TheVariants.{Shut}

-- no bytes at all
pub no_bytes : (bytes : List ℕ) → length bytes ≤ 0 → bytes ≡ []
no_bytes bytes l = nil_from_length bytes (omega arith)

module _ {K : Type 0} (kind : Kind K) where
  -- a call that does what is defined
  pub carried : (k : law.Call) (s s' : State K) (x : law.Answer) (b : List ℕ) → Does kind k s x b s' → (a : Answer) → answer_of a ≡ some x
      → (slots : ℕ) (t : Tally) (bytes after : List ℕ) → after ≡ b → Represents kind slots t s → Came kind slots t (some k) bytes (answer_of a) after s'
  carried k s s' x b does a e slots t bytes after same h =
      subst (λ (o : Option law.Answer). Came kind slots t (some k) bytes o after s') (sym e)
      (subst (λ (l : List ℕ). Came kind slots t (some k) bytes (some x) l s') (sym same)
      (let (takes, defined, rep) = does slots t h in (k, refl, takes, defined, rep)))

  -- a call of which the bytes that it is handed, if any, are none
  pub carries_none : (charts : List Chart) (c c' : Call) → c ≡ c' → room_of c' ≡ 0 → (k : law.Call) → ((bytes : List ℕ) → call_of charts c' bytes ≡ some k)
      → (bytes : List ℕ) (s s' : State K) (x : law.Answer) → Does kind k s x [] s' → (a : Answer) → answer_of a ≡ some x
      → CarriesOut kind charts c bytes s a bytes s'
  carries_none charts c c' is none_due k called bytes s s' x does a e slots t few h =
      subst (λ (y : Call). Came kind slots t (call_of charts y bytes) bytes (answer_of a) bytes s') (sym is)
      (subst (λ (o : Option law.Call). Came kind slots t o bytes (answer_of a) bytes s') (sym (called bytes))
      (carried k s s' x [] does a e slots t bytes bytes (no_bytes bytes (omega (arith, few, ap room_of is, none_due))) h))

  -- a look, which is handed none
  pub carries_look : (charts : List Chart) (c : Call) (goal : Bor (List ℕ)) (n release : ℕ) → c ≡ call.Look goal n release → (bytes : List ℕ) (s s' : Sealed K) (a : Answer)
      → Looks kind goal.now release (chart_at charts n) s a s' → CarriesOut kind charts c bytes (Shut s) a bytes (Shut s')
  carries_look charts c goal n release is bytes s s' a looks slots t few h =
      subst (λ (y : Call). Came kind slots t (call_of charts y bytes) bytes (answer_of a) bytes (Shut s')) (sym is)
      (subst (λ (l : List ℕ). Came kind slots t (look_at goal.now release (chart_at charts n)) l (answer_of a) l (Shut s'))
      (sym (no_bytes bytes (omega (arith, few, ap room_of is)))) (looks slots t h))

-- ---- charts by their places

chart_there : {C : Type 0} (value : C → Chart) (charts : List C) (n : ℕ) (d : C) → n < length charts
    → chart_at (map value charts) n ≡ some (value (get_or charts n d))
chart_there value [] n d l = absurd (omega (arith, l))
chart_there value (c ∷ cs) zero d l = refl
chart_there value (c ∷ cs) (suc n) d l = chart_there value cs n d (omega (arith, l))

chart_absent : {C : Type 0} (value : C → Chart) (charts : List C) (n : ℕ) → length charts ≤ n → chart_at (map value charts) n ≡ none
chart_absent value [] n l = refl
chart_absent value (c ∷ cs) zero l = absurd (omega (arith, l))
chart_absent value (c ∷ cs) (suc n) l = chart_absent value cs n (omega (arith, l))

-- a chart that is looked up by its place
pub chart_got : {C : Type 0} (value : C → Chart) (charts : List C) (n : ℕ) (o : Maybe (Bor C)) → IsItemAt charts n o
    → chart_of value o ≡ chart_at (map value charts) n
chart_got value charts n None item = sym (chart_absent value charts n item.3)
chart_got {C} value charts n (Some x) item = sym (chart_there value charts n x.now item.3.0 ∙ ap (λ (y : C). some (value y)) (sym item.1))
