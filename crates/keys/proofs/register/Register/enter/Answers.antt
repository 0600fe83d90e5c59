use Rattle.std.proofs.Common.{refl, arith}
use Rattle.keys.proofs.Slots.{enters_old, enters_new, enters_full}
use Rattle.keys.proofs.register.Register.enter.Goals as goal

pub returns-in-Some-clause-result : goal.returns-in-Some-clause-result
returns-in-Some-clause-result g c =
    let s = c.args.self.now in
    enters_old g.K.Key.same s.slots.now s.used.count c.args.key s.used.few _ c.in-Some.ensures.0 c.in-Some.ensures.1

pub returns-then-used-room-clause-result : goal.returns-then-used-room-clause-result
returns-then-used-room-clause-result g c =
    let s = c.args.self.now in
    enters_new g.K.Key.same s.slots.now s.used.count c.args.key s.used.few _ refl c.in_default.ensures (omega arith) (omega arith)

pub returns-else-used-room-clause-result : goal.returns-else-used-room-clause-result
returns-else-used-room-clause-result g c =
    let s = c.args.self.now in
    enters_full g.K.Key.same s.slots.now s.used.count c.args.key s.used.few _ c.args.place refl c.in_default.ensures (omega arith)
