use Rattle.std.proofs.Common.{arith}
use Rattle.std.proofs.lemmas.Result.{err_from_is_err_and}
use Rattle.reader.specs.Codes.{oversize, offends}
use Rattle.reader.proofs.CodeLemmas.{refused_short}
use Rattle.reader.proofs.codes.read_codes.Goals as goal

pub returns-in-Err : goal.returns-in-Err
returns-in-Err c =
    let said = c.in-Err.ensures in
    rw said.refused (oversize said.size)

pub returns-in_err-step : goal.returns-in_err-step
returns-in_err-step c =
    let p = err_from_is_err_and c.from_residual.result c.from_residual.ensures.1 in
    let e = c.in_err-step.ensures in
    rw (p.1, p.2) (offends c.in_default.ensures.size (rw c.loop-byte.invariant.1 at e))

pub returns-in_default-state : goal.returns-in_default-state
returns-in_default-state c = refused_short _ c.loop-byte.reader _ c.loop-byte.invariant.0 c.loop-byte.invariant.1 (omega (arith, c.loop-byte-test.false, c.loop-byte.invariant.2)) c.in_default-state.not-After c.fault.ensures
