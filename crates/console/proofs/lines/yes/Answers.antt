use Rattle.std.proofs.Common.{rules}
use Rattle.console.proofs.lines.yes.Goals as goal
use Rattle.console.proofs.Whole.{◌⨾◌, finished, yes_fits}

pub returns : goal.returns
returns c =
    finished (yes_fits c.args.count c.args.tree.now (search rules) c.requires.short) c.requires.bare
    (c.extend_from_slice.ensures ⨾ c.decimal.ensures ⨾ c.extend_from_slice-2.ensures ⨾ c.hex.ensures ⨾ c.extend_from_slice-3.ensures)
