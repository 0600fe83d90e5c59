use Rattle.std.proofs.Common.{rules}
use Rattle.console.proofs.lines.counted.Goals as goal
use Rattle.console.proofs.Whole.{◌⨾◌, finished, count_fits}

pub returns : goal.returns
returns c =
    finished (count_fits c.args.word.now c.args.count c.requires.short (search rules)) c.requires.bare
    (c.extend_from_slice.ensures ⨾ c.extend_from_slice-2.ensures ⨾ c.decimal.ensures ⨾ c.extend_from_slice-3.ensures)
