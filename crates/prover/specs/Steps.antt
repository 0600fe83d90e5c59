-- The bytes of the two steps.
use Rattle.std.specs.Prelude.{◌≡◌, ℕ, ◌≢◌, Ok, Err, Result}
use Rattle.prover.specs.declared.step.NoStep.{NoStep}
use Rattle.prover.specs.declared.step.Step.{Step}
use Rattle.prover.specs.declared.step.Step.TheVariants.{Rule, Restart}

-- the byte that stands for a step
abbrev pub byte_of : Step → ℕ
byte_of Rule = 1
byte_of Restart = 2

-- the step that a byte stands for, or there is none
abbrev pub Decodes : ℕ → Result Step NoStep → Type 0
Decodes n (Ok s) = n ≡ byte_of s
Decodes n (Err _) = (n ≢ 1) × (n ≢ 2)
