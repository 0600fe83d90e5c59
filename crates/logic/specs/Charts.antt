-- Charts: releases, which release follows which, and the names that each carries.
use Rattle.std.specs.Prelude.{ℕ, ◌<◌, Bool, ◌&&◌, T, length, nat_le, nat_lt}
use Rattle.logic.specs.Sets.{Has}
use Rattle.logic.specs.Rules.{Rule, Rules, rule, none, more, Book, rule_of}

-- releases are the numbers below size
pub record Chart : Type 0 where
  pub size : ℕ
  pub follows : ℕ → ℕ → Bool
  pub carries : ℕ → ℕ → Bool

-- a line of n releases: each follows itself and all lower ones; the number x is carried from release `first x` on
abbrev pub line : ℕ → (ℕ → ℕ) → Chart
line n first = record { size = n; follows = λ w v. nat_le w v && nat_lt v n; carries = λ w x. nat_le (first x) w && nat_lt w n }

-- v is a follower of w
abbrev pub Follows : Chart → ℕ → ℕ → Type 0
Follows chart w v = T (chart.follows w v)

-- the release w carries the name x
abbrev pub Carries : Chart → ℕ → ℕ → Type 0
Carries chart w x = T (chart.carries w x)

pub record Lawful (chart : Chart) : Type 0 where
  -- only releases follow, and only releases are followed
  pub inside : (w v : ℕ) → Follows chart w v → (w < chart.size) × (v < chart.size)
  -- a release follows itself
  pub itself : (w : ℕ) → w < chart.size → Follows chart w w
  -- what follows a follower follows
  pub onward : (u v w : ℕ) → Follows chart u v → Follows chart v w → Follows chart u w
  -- what a release carries each follower carries
  pub keeps : (w v x : ℕ) → Follows chart w v → Carries chart w x → Carries chart v x

-- a rule holds at w if each follower of w at which all its bodies hold carries its head
abbrev mutual
  pub Holds : Chart → ℕ → Rule → Type 0
  Holds chart w (rule h bs) = (v : ℕ) → Follows chart w v → AllHold chart v bs → Carries chart v h

  pub AllHold : Chart → ℕ → Rules → Type 0
  AllHold chart w none = Unit {0}
  AllHold chart w (more b bs) = Holds chart w b × AllHold chart w bs

-- at w each record of the set S holds
abbrev pub SetHolds : Book → Chart → ℕ → ℕ → Type 0
SetHolds book chart w S = (r : ℕ) → r < length book → Has S r → Holds chart w (rule_of book r)
