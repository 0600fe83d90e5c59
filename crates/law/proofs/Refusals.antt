-- Tests, and what it says of them that nothing is refused.
use Rattle.std.proofs.Common.{◌≡◌, ℕ, Bool, true, false, T, sym, refl, ap, ◌∙◌, subst}
use mathlib.Core.Option.{Option, none, some, none-ne-some}
use Rattle.reader.specs.Written.{Refusal}
use Rattle.law.specs.Defined.{unless, or_else}

pub passes : {x : Bool} → x ≡ true → T x
passes e = subst T (sym e) tt

pub passed : (x : Bool) → T x → x ≡ true
passed true t = refl
passed false t = absurd t

-- the tests that say the same of one fact are the same
pub tests_same : (x y : Bool) → (T x → T y) → (T y → T x) → x ≡ y
tests_same true true f g = refl
tests_same true false f g = absurd (f tt)
tests_same false true f g = absurd (g tt)
tests_same false false f g = refl

-- where nothing is refused, the test passes
pub unless_none : (x : Bool) (n : ℕ) → unless x n ≡ none → x ≡ true
unless_none true n e = refl
unless_none false n e = absurd (none-ne-some (record { number = n; place = 0 }) (sym e))

-- and neither of two refusals stands
pub or_none : (f g : Option Refusal) → or_else f g ≡ none → (f ≡ none) × (g ≡ none)
or_none none g e = (refl, e)
or_none (some f) g e = absurd (none-ne-some f (sym e))

pub none_or : {f g : Option Refusal} → f ≡ none → g ≡ none → or_else f g ≡ none
none_or {f} {g} d e = ap (λ (x : Option Refusal). or_else x g) d ∙ e

pub passed_unless : {x : Bool} (n : ℕ) → x ≡ true → unless x n ≡ none
passed_unless n e = ap (λ (y : Bool). unless y n) e
