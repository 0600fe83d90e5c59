use Rattle.std.proofs.Common.{◌≡◌, take}
use Rattle.book.specs.Numbers.{record_indices}
use Rattle.book.specs.Records.{numbers}
use Rattle.book.proofs.entering.take.Given as goal

-- The bodies so far are the first of those that are taken.
abbrev pub invariant-loop-body : goal.invariant-loop-body
invariant-loop-body l = numbers l.bodies ≡ take l.body-index (record_indices l.body-items)
