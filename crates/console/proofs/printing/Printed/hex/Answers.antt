use Rattle.std.proofs.Common.{ℕ, List, ◌≡◌, subst, ◌∙◌}
use Rattle.std.specs.Prelude.{OnOk}
use Rattle.hex.specs.Hex.{encode_lower}
use Rattle.console.specs.Texts.{Gains}
use Rattle.console.proofs.printing.Printed.hex.Goals as goal
use Rattle.console.proofs.Hex.{hex_same}

pub returns : goal.returns
returns c =
    let written = subst (λ r. OnOk r (c.encode_to_slice.new.output ≡ encode_lower c.args.bytes.now)) c.unwrap.ensures c.encode_to_slice.ensures.written in
    subst (λ (more : List ℕ). Gains c.args.self.now more c.extend_from_slice.new.self) (written ∙ hex_same c.args.bytes.now c.type_inv.bytes)
    c.extend_from_slice.ensures
