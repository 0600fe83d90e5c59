-- What a line orders: its mark, and the rule behind the mark and one blank.
use Rattle.std.specs.Prelude.{ℕ, cond, List, [], ◌∷◌, ◌==◌, Some, None, Option}
use Rattle.prover.specs.declared.task.Restart.TheVariants.{Allowed, Forbidden}
use Rattle.console.specs.declared.orders.Order.{Order}
use Rattle.console.specs.declared.orders.Order.TheVariants as variant

-- a rule or a goal is bytes; `ask` says whether restart is allowed
pub data Ordered : Type 0 where
  add suppose ask ask_again : List ℕ → Ordered
  seal withdraw unknown : Ordered

-- a mark that stands alone
abbrev pub alone : Ordered → List ℕ → Ordered
alone o [] = o
alone o (b ∷ bs) = unknown

-- a mark with one blank and a rule behind it
abbrev pub with_rule : (List ℕ → Ordered) → List ℕ → Ordered
with_rule f [] = unknown
with_rule f (b ∷ rule) = cond (b == 32) (f rule) unknown

-- the marks are ! < + > ? *
abbrev pub marked : ℕ → List ℕ → Ordered
marked m rest =
    cond (m == 33) (alone seal rest)
    (cond (m == 60) (alone withdraw rest)
    (cond (m == 43) (with_rule add rest)
    (cond (m == 62) (with_rule suppose rest)
    (cond (m == 63) (with_rule ask rest)
    (cond (m == 42) (with_rule ask_again rest) unknown)))))

abbrev pub ordered : List ℕ → Ordered
ordered [] = unknown
ordered (m ∷ rest) = marked m rest

-- the order that the code holds
abbrev pub order_of : Order → Ordered
order_of (variant.Add rule) = add rule.now
order_of variant.Seal = seal
order_of (variant.Suppose rule) = suppose rule.now
order_of variant.Withdraw = withdraw
order_of (variant.Ask Forbidden goal) = ask goal.now
order_of (variant.Ask Allowed goal) = ask_again goal.now

-- what a line orders of which this order was read, or none
abbrev pub order_read : Option Order → Ordered
order_read None = unknown
order_read (Some o) = order_of o
