use Rattle.std.proofs.Common.{sym, subst}
use Rattle.std.proofs.lemmas.Result.{err_from_is_err_and}
use denote.Enum.Bare.{same_false}
use Rattle.reader.specs.contracts.lexer.Token.{the_type}
use Rattle.reader.specs.Text.{Refused, oversize, bad, extra}
use Rattle.reader.proofs.text.read_text.Goals as goal

pub returns-in-Err : goal.returns-in-Err
returns-in-Err c =
    let said = c.in-Err.ensures in
    rw said.refused (oversize said.size)

pub returns-in_err-rule : goal.returns-in_err-rule
returns-in_err-rule c =
    let p = err_from_is_err_and c.from_residual.result c.from_residual.ensures.1 in
    let made = c.new-reader.ensures in
    let e = c.in_err-rule.ensures in
    rw (p.1, p.2) (bad c.in_default.ensures.size made.next (rw made.input at e))

pub returns-else-eq : goal.returns-else-eq
returns-else-eq c =
    let made = c.new-reader.ensures in
    let read = c.in_ok-rule.ensures in
    subst (λ f. Refused c.args.bytes.now f.reason f.place) (sym c.fault.ensures) (extra c.in_default.ensures.size made.next (rw made.input at read.reads) read.stops (same_false the_type _ _ (sym c.if-eq.ensures)))
