-- From what a call does to what the console answers.
use Rattle.std.proofs.Common.{◌≡◌, ℕ, Bool, true, false, List, take, Ok, Err, Result, Some, Option, IsErrAnd, sym, refl, ap, ◌∙◌, subst, arith, Bor}
use mathlib.Core.Option.{none, some}
use Rattle.reader.specs.declared.name.Name.{Name}
use Rattle.prover.specs.Settings.{allowed}
use Rattle.prover.specs.declared.task.Restart.{Restart}
use Rattle.prover.specs.declared.task.Restart.TheVariants.{Allowed, Forbidden}
use Rattle.law.specs.Calls.{Call, Answer, of_sealed}
use Rattle.law.specs.Defined.{next}
use Rattle.service.specs.Represents.{Does}
use Rattle.service.specs.declared.state.Draft.{Draft}
use Rattle.service.specs.declared.state.Sealed.{Sealed}
use Rattle.service.specs.declared.state.State.{State}
use Rattle.service.specs.declared.state.State.TheVariants.{Open, Shut}
use Rattle.console.specs.declared.refusals.Refused.{Refused}
use Rattle.console.specs.declared.orders.Order.{Order}
use Rattle.console.specs.declared.orders.Order.TheVariants as variant
use Rattle.console.specs.Answers.{Prints, asks}
use Rattle.console.specs.Console.{names, call_of, shown, Answered, made, not_taken, other}
use Rattle.console.specs.Lines.{bad_line}
use Rattle.console.specs.Limits.{line_bytes}
use Rattle.console.specs.Orders.{Ordered, ordered, order_of, order_read}
use Rattle.console.proofs.Answering.{kept_answered}

-- the call is made, and its answer printed
pub made_prints : (o : Ordered) (c : Call) (a : Answer) (b p : List ℕ) (s s' : State Name)
    → call_of o ≡ some c → Does names c s a b s' → p ≡ shown a b → Prints o s p s'
made_prints o c a b p s s' is does printed slots t stands =
    let d = does slots t stands in
    (next names slots t c, subst (λ (q : List ℕ). Answered slots t o q (next names slots t c)) (sym printed) (made is d.0 d.1), d.2)

-- what a `?` hands on of a refusal
pub handed_on : {T : Type 0} {f : Refused} (r : Result T Refused) → IsErrAnd r (λ e. e ≡ f) → r ≡ Err f
handed_on (Ok x) is = absurd is
handed_on (Err e) is = ap Err is

-- the call of the order that was read
pub ordered_call : {r : Option Order} {o o' : Order} {c : Call} → r ≡ Some o → o ≡ o' → call_of (order_of o') ≡ some c → call_of (order_read r) ≡ some c
ordered_call read is call = ap (λ x. call_of (order_read x)) read ∙ ap (λ x. call_of (order_of x)) is ∙ call

-- the call of a goal that is asked
pub asked_call : (restart : Restart) (goal : Bor (List ℕ)) → call_of (order_of (variant.Ask restart goal)) ≡ some (asks goal.now (allowed restart))
asked_call Forbidden goal = refl
asked_call Allowed goal = refl

-- no call is ordered
pub other_prints : (o : Ordered) (p : List ℕ) (s : State Name) → call_of o ≡ none → p ≡ bad_line 52 0 → Prints o s p s
other_prints o p s is printed slots t stands =
    (t, subst (λ (q : List ℕ). Answered slots t o q t) (sym printed) (other is), stands)

-- a call of the other state
pub record Elsewhere (sealed : Bool) (o : Ordered) : Type 0 where
  pub call : Call
  pub is : call_of o ≡ some call
  pub of : of_sealed call ≡ sealed

false_true : false ≡ true → ⊥
false_true e = let z : ◌≡◌ {A = ℕ} 0 1 = cc in omega arith

pub draft_not_taken : (o : Ordered) (p : List ℕ) (d : Draft Name) → Elsewhere true o → p ≡ bad_line 51 0 → Prints o (Open d) p (Open d)
draft_not_taken o p d e printed slots t stands =
    (t, subst (λ (q : List ℕ). Answered slots t o q t) (sym printed) (not_taken e.is (λ k. false_true (sym stands.unsealed ∙ k ∙ e.of))), stands)

pub sealed_not_taken : (o : Ordered) (p : List ℕ) (s : Sealed Name) → Elsewhere false o → p ≡ bad_line 51 0 → Prints o (Shut s) p (Shut s)
sealed_not_taken o p s e printed slots t stands =
    (t, subst (λ (q : List ℕ). Answered slots t o q t) (sym printed) (not_taken e.is (λ k. false_true (sym e.of ∙ sym k ∙ stands.shut))), stands)

-- the orders that a draft leaves
pub not_of_draft : (o : Order) → ((x : Bor (List ℕ)) → o ≡ variant.Add x → ⊥) → (o ≡ variant.Seal → ⊥) → Elsewhere true (order_of o)
not_of_draft (variant.Add rule) a b = absurd (a rule refl)
not_of_draft variant.Seal a b = absurd (b refl)
not_of_draft (variant.Suppose rule) a b = record { call = _; is = refl; of = refl }
not_of_draft variant.Withdraw a b = record { call = _; is = refl; of = refl }
not_of_draft (variant.Ask Forbidden goal) a b = record { call = _; is = refl; of = refl }
not_of_draft (variant.Ask Allowed goal) a b = record { call = _; is = refl; of = refl }

-- the orders that a sealed book leaves
pub not_of_sealed : (o : Order) → ((x : Bor (List ℕ)) → o ≡ variant.Suppose x → ⊥) → (o ≡ variant.Withdraw → ⊥)
    → ((r : Restart) (x : Bor (List ℕ)) → o ≡ variant.Ask r x → ⊥)
    → Elsewhere false (order_of o)
not_of_sealed (variant.Add rule) a b d = record { call = _; is = refl; of = refl }
not_of_sealed variant.Seal a b d = record { call = _; is = refl; of = refl }
not_of_sealed (variant.Suppose rule) a b d = absurd (a rule refl)
not_of_sealed variant.Withdraw a b d = absurd (b refl)
not_of_sealed (variant.Ask restart goal) a b d = absurd (d restart goal refl)

-- the bytes that are kept of a line decide its answer
prints_kept : (o : Ordered) (kept whole : List ℕ) (s s' : State Name) (p : List ℕ) → o ≡ ordered kept → kept ≡ take line_bytes whole
    → Prints o s p s' → Prints (ordered whole) s p s'
prints_kept o kept whole s s' p is cut prints slots t stands =
    let r = prints slots t stands in
    (r.0, kept_answered slots t kept whole cut (subst (λ (x : Ordered). Answered slots t x p r.0) is r.1), r.2)

pub answered : (o : Ordered) (kept whole : List ℕ) (s s' : State Name) (line p : List ℕ)
    → o ≡ ordered kept → kept ≡ take line_bytes whole → p ≡ line
    → Prints o s line s' → Prints (ordered whole) s p s'
answered o kept whole s s' line p is cut end prints =
    prints_kept o kept whole s s' p is cut (subst (λ (l : List ℕ). Prints o s l s') (sym end) prints)
