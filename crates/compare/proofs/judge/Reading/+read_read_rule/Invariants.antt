use Rattle.std.proofs.Common.{◌+◌, ◌*◌}
use Rattle.compare.proofs.judge.Reading.+read_read_rule.Given as goal

abbrev pub decreases-read : goal.decreases-read
decreases-read l = 2 * l.left

abbrev pub decreases-read_rule : goal.decreases-read_rule
decreases-read_rule l = 2 * l.left + 1
