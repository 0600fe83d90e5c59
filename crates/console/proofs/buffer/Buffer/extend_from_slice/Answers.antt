use Rattle.std.proofs.Common.{◌++◌, length, take, ap, ◌∙◌, arith, length-take}
use Rattle.std.proofs.lemmas.Slice.{take-put_mid}
use Rattle.console.proofs.buffer.Buffer.extend_from_slice.Goals as goal
use Rattle.console.proofs.Kept.{kept_more}

pub returns : goal.returns
returns g c =
    let before = c.args.self.now in
    let more = c.args.more.now in
    let least = c.min-kept.ensures in
    let long = ap length c.copy_from_slice.ensures.after ∙ length-take c.min-kept.result more in
    record {
      keeps = λ whole kept.
          take-put_mid before.len _ before.bytes c.copy_from_slice.new.self _ (omega arith) (omega (arith, before.whole, before.fits))
          ∙ ap (λ t. take before.len before.bytes ++ t) c.copy_from_slice.ensures.after
          ∙ kept_more g.row.N before.len c.min-kept.result before.bytes whole more before.whole before.fits least kept;
    }
