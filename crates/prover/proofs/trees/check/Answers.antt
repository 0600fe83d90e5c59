use Rattle.std.proofs.Common.{[]}
use Rattle.book.specs.Books.{records_of}
use Rattle.prover.specs.Settings.{allowed}
use Rattle.prover.specs.declared.verdict.Verdict.TheVariants.{Accepted, Rejected}
use Rattle.prover.proofs.Readings.{read_end, read_extra, of_trees}
use Rattle.prover.proofs.trees.check.Goals as goal

pub returns-in-Err : goal.returns-in-Err
returns-in-Err c =
    let d = c.in-Err.ensures [] in
    record {
      judged = d;
      trees = of_trees (records_of c.args.book.now) (allowed c.args.restart) c.args.goal.index c.args.set.bits c.args.bytes.now (Rejected c.in-Err.field-0.place) d;
    }

pub returns-in-Ok : goal.returns-in-Ok
returns-in-Ok c =
    let book = records_of c.args.book.now in
    let restart = allowed c.args.restart in
    let g = c.args.goal.index in
    let d = c.in-Ok.ensures.2 [] (Rejected c.in-Ok.end) (read_extra book restart g c.args.bytes.now c.in-Ok.end c.if-end-bytes.true) in
    record { judged = d; trees = of_trees book restart g c.args.set.bits c.args.bytes.now (Rejected c.in-Ok.end) d }

pub returns-in-Ok-2 : goal.returns-in-Ok-2
returns-in-Ok-2 c =
    let book = records_of c.args.book.now in
    let restart = allowed c.args.restart in
    let g = c.args.goal.index in
    let d = c.in-Ok.ensures.2 [] Accepted (read_end book restart g c.args.bytes.now c.in-Ok.end c.if-end-bytes.false) in
    record { judged = d; trees = of_trees book restart g c.args.set.bits c.args.bytes.now Accepted d }
