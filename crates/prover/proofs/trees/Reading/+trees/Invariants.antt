use Rattle.std.proofs.Common.{◌+◌, ◌-◌, ◌*◌, length, drop}
use Rattle.book.specs.Books.{records_of}
use Rattle.book.specs.Numbers.{record_indices}
use Rattle.prover.specs.Settings.{allowed, query_of}
use Rattle.prover.proofs.Readings.{Partly}
use Rattle.prover.proofs.trees.Reading.+trees.Given as goal

-- the unread bytes fall
abbrev pub decreases-read_rule : goal.decreases-read_rule
decreases-read_rule l = 2 * (length l.self.now.bytes.now - l.at)

abbrev pub decreases-read_tree : goal.decreases-read_tree
decreases-read_tree l = 2 * (length l.self.now.bytes.now - l.at) + 1

abbrev pub invariant-read_rule-loop-body : goal.invariant-read_rule-loop-body
invariant-read_rule-loop-body l =
    Partly (records_of l.self.book.now) (allowed l.self.restart) l.self.goal.index l.self.bytes.now l.at (query_of l.query.set.bits l.query.name.index)
    (drop l.body-index (record_indices l.body-items)) l.end
