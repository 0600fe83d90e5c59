use Rattle.std.proofs.Common.{◌+◌, ◌*◌}
use Rattle.compare.proofs.slow.Walk.+ask_try_all_try_one.Given as goal

abbrev pub decreases-ask : goal.decreases-ask
decreases-ask l = 3 * l.left

abbrev pub decreases-try_all : goal.decreases-try_all
decreases-try_all l = 3 * l.left + 2

abbrev pub decreases-try_one : goal.decreases-try_one
decreases-try_one l = 3 * l.left + 1
