use Rattle.std.proofs.Common.{◌+◌, ◌-◌, ◌*◌, drop}
use Rattle.book.specs.Numbers.{record_indices}
use Rattle.prover.proofs.Trails.{Trail, Walk}
use Rattle.prover.proofs.progress.Search.+queries.Given as goal

-- Each begun query takes one from the budget; between two queries the calls go down one level.
abbrev pub decreases-query : goal.decreases-query
decreases-query l = 5 * (l.self.now.progress.budget - l.self.now.progress.count)

abbrev pub decreases-try_body : goal.decreases-try_body
decreases-try_body l = 5 * (l.self.now.progress.budget - l.self.now.progress.count) + 1

abbrev pub decreases-try_restart : goal.decreases-try_restart
decreases-try_restart l = 5 * (l.self.now.progress.budget - l.self.now.progress.count) + 1

abbrev pub decreases-try_rule : goal.decreases-try_rule
decreases-try_rule l = 5 * (l.self.now.progress.budget - l.self.now.progress.count) + 2

abbrev pub decreases-try_rules : goal.decreases-try_rules
decreases-try_rules l = 5 * (l.self.now.progress.budget - l.self.now.progress.count) + 3

abbrev pub invariant-try_rule-loop-body : goal.invariant-try_rule-loop-body
invariant-try_rule-loop-body l =
    Trail l.fn.force l.fn.number.index l.fn.self (drop l.body-index (record_indices l.body-items)) l.force l.self

abbrev pub invariant-try_rules-loop-number : goal.invariant-try_rules-loop-number
invariant-try_rules-loop-number l = record {
  can_next : (goal.iterator-try_rules-loop-number).can_next l.number-iterator;
  is_finite : (goal.iterator-try_rules-loop-number).is_finite l.number-iterator;
  walk : Walk l.fn.force l.fn.name.index l.fn.self l.number-iterator.left.bits l.force l.self;
}
