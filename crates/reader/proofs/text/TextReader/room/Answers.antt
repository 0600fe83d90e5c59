use Rattle.std.proofs.Common.{suc, ◌-◌, sym, subst, arith}
use Rattle.reader.specs.declared.fault.Reason.TheVariants.{Ninth}
use Rattle.reader.specs.Limits.{deepest}
use Rattle.reader.specs.Text.{BadBody, deep, ninth}
use Rattle.reader.proofs.text.TextReader.room.Goals as goal

pub returns-then-rest-eq0-clause-refused : goal.returns-then-rest-eq0-clause-refused
returns-then-rest-eq0-clause-refused c begins =
    let r = c.args.self.now in
    subst (λ f. BadBody r.bytes.now (suc (deepest - c.args.rest)) c.args.count r.next f.reason f.place) (sym c.fault.ensures) (deep begins (omega (arith, c.if-rest-eq0.true)))

pub returns-then-count-eq-BODIES-clause-refused : goal.returns-then-count-eq-BODIES-clause-refused
returns-then-count-eq-BODIES-clause-refused c begins =
    let r = c.args.self.now in
    subst (λ f. BadBody r.bytes.now (suc (deepest - c.args.rest)) c.args.count r.next f.reason f.place) (sym c.fault-then-count-eq-BODIES.ensures)
    (subst (λ n. BadBody r.bytes.now (suc (deepest - c.args.rest)) n r.next Ninth r.next.start) (sym c.if-count-eq-BODIES.true) (ninth begins (omega (arith, c.if-rest-eq0.false))))
