use Rattle.std.proofs.Common.{ap₂, ◌∙◌, rules}
use Rattle.console.specs.Lines.{bad_line}
use Rattle.console.proofs.lines.bad.Goals as goal
use Rattle.console.proofs.Whole.{◌⨾◌, finished, bad_fits}

pub returns : goal.returns
returns c =
    finished (bad_fits c.into.result c.place.result (search rules) (search rules)) c.requires
    (c.extend_from_slice.ensures ⨾ c.decimal.ensures ⨾ c.extend_from_slice-2.ensures ⨾ c.decimal-2.ensures ⨾ c.extend_from_slice-3.ensures)
    ∙ ap₂ bad_line (c.into.ensures ∙ c.number.ensures) c.place.ensures
