use Rattle.std.proofs.Common.{◌≡◌, length}
use Rattle.keys.specs.Kept.{Front}
use Rattle.keys.specs.Registers.{keys_in, slots_of, room}
use Rattle.reader.specs.Written.{WrittenRule, reads, IsOutline, mentions}
use Rattle.book.specs.KeyLists.{numbers_in}
use Rattle.book.proofs.AllNumbered.{SoFar}
use Rattle.book.proofs.numbering.enter_keys.Given as goal

-- The keys so far stand behind those of the register, and where the bytes are read as a rule, they have its keys' numbers.
abbrev pub invariant-loop-place : goal.invariant-loop-place
invariant-loop-place g l =
    (slots_of l.register ≡ slots_of l.initial.register)
    × Front (keys_in l.initial.register) (keys_in l.register)
    × (l.numbers.count ≡ l.place-index)
    × (l.numbers.names ≡ length (keys_in l.register))
    × ((w : WrittenRule g.row.K.Denot) → g.K.Written.reading l.bytes ≡ reads w → IsOutline w l.outline
    → SoFar g.K.Key.same (room (slots_of l.initial.register)) (keys_in l.initial.register) (mentions w) (keys_in l.register) (numbers_in l.numbers) l.place-index)
