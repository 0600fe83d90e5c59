use Rattle.std.proofs.Common.{◌≡◌}
use Rattle.reader.specs.CodeSteps.{Sound, input}
use Rattle.reader.proofs.codes.read_codes.Given as goal

abbrev pub invariant-loop-byte : goal.invariant-loop-byte
invariant-loop-byte l = Sound l.reader × (input l.reader ≡ l.bytes) × (l.reader.place ≡ l.byte-index)
