-- Each call has an answer, and only one.
use Rattle.std.specs.Prelude.{◌≡◌, ℕ, List}
use Rattle.logic.specs.Charts.{Lawful}
use Rattle.reader.specs.Written.{Kind}
use Rattle.law.specs.Calls.{Call, add, seal, reopen, suppose, withdraw, ask, check, look, Answer, Tally}
use Rattle.law.specs.Defined.{Defined}

-- a chart that is looked at is lawful
abbrev pub OfLawful : Call → Type 0
OfLawful (add rule) = Unit {0}
OfLawful seal = Unit {0}
OfLawful reopen = Unit {0}
OfLawful (suppose rule) = Unit {0}
OfLawful withdraw = Unit {0}
OfLawful (ask goal budget buffer restart) = Unit {0}
OfLawful (check goal tree restart) = Unit {0}
OfLawful (look goal chart release) = Lawful chart

pub record OneAnswer (K : Type 0) : Type 0 where
  -- A call has an answer,
  pub answer : (kind : Kind K) (slots : ℕ) (t : Tally) (c : Call) → OfLawful c → (a : Answer) × (b : List ℕ) × Defined kind slots t c a b
  -- and at most one, and leaves one buffer.
  pub one_answer : (kind : Kind K) (slots : ℕ) (t : Tally) (c : Call) (a a' : Answer) (b b' : List ℕ)
      → Defined kind slots t c a b → Defined kind slots t c a' b' → (a ≡ a') × (b ≡ b')
