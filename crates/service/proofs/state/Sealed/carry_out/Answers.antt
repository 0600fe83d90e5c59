-- The chart that is looked at is the one at the place, where there is one.
use Rattle.std.proofs.Common.{subst}
use mathlib.Core.Option.{Option}
use Rattle.logic.specs.Charts.{Chart}
use Rattle.service.specs.Replaying.{Looks}
use Rattle.service.proofs.Carrying.{carries_look, chart_got}
use Rattle.service.proofs.state.Sealed.carry_out.Goals as goal

pub returns-in-Look : goal.returns-in-Look
returns-in-Look g c =
    let s = c.args.self.now in
    carries_look (record { same = g.K.Key.same; reading = g.K.Written.reading }) _ c.args.call.now c.in-Look.goal c.in-Look.chart
    c.in-Look.release c.in-Look.is c.args.tree.now s c.look_at.new.self c.look_at.result
    (subst (λ (o : Option Chart). Looks (record { same = g.K.Key.same; reading = g.K.Written.reading }) c.in-Look.goal.now c.in-Look.release o s
    c.look_at.result c.look_at.new.self) (chart_got g.C.Chart.value c.args.charts.now c.in-Look.chart c.get.result c.get.ensures.lookup) c.look_at.ensures)
