use Rattle.std.proofs.Common.{◌≡◌, ◌+◌, sym, refl, subst, arith}
use Rattle.reader.specs.CodeSteps.{InHead, Stands, input}
use Rattle.reader.proofs.CodeLemmas.{head_read, head_more}
use Rattle.reader.proofs.codes.CodeReader.head.Goals as goal
use Rattle.reader.proofs.codes.CodeReader.head.Goals.{then-left-gt1, else-left-gt1}

pub returns : goal.returns
returns c =
    let r = c.args.self.now in
    let h = c.requires.head in
    let stands : Stands (input r) r.stack.items r.outline (r.place + 1) c.if-left-gt1.self = elim c.if-left-gt1.branch [
      | then-left-gt1 w ↦ subst (Stands (input r) r.stack.items r.outline (r.place + 1)) (sym w.self-is) (head_more _ _ _ _ _ h w.if-left-gt1.true)
      | else-left-gt1 w ↦ (
          let last : c.args.left ≡ 1 = omega (arith, h.some, w.if-left-gt1.false) in
          subst (Stands (input r) r.stack.items r.outline (r.place + 1)) (sym w.self-is) (head_read _ _ _ _ (subst (InHead (input r) r.stack.items r.outline r.place) last h) c.requires.more))
    ] in
    record { same = refl; place = refl; sound = stands }
