-- Each call more is carried out by the state, or the state turns.
use Rattle.std.proofs.Common.{◌≡◌, ◌+◌, ◌-◌, ◌<◌, ◌≤◌, map, length, drop, Some, inl, inr, sym, ap, ◌∙◌, arith, length-take, length-drop}
use Rattle.std.proofs.lemmas.List.{get_or_default, get_or-take}
use Rattle.law.proofs.Law.{law_holds}
use Rattle.service.specs.declared.state.State.TheVariants.{Open}
use Rattle.service.proofs.Replayed.{start, one_more, goes_on, replays, length_putMid}
use Rattle.service.proofs.replaying.replay.Goals as goal
use Rattle.service.proofs.replaying.replay.Goals.{in-Some, in-None}

pub loop-i-init : goal.loop-i-init
loop-i-init g c = (
  omega arith,
  λ slots h.
      start (record { same = g.K.Key.same; reading = g.K.Written.reading }) (map g.C.Chart.value c.args.charts.now) slots c.args.trees.now
      c.args.answers.now c.args.calls.now (Open c.new.result) h,
)

pub returns-clause-replays : goal.returns-clause-replays
returns-clause-replays g c =
    replays (record { same = g.K.Key.same; reading = g.K.Written.reading }) (map g.C.Chart.value c.args.charts.now) (length c.args.slots.now)
    c.args.trees.now c.args.answers.now c.args.calls.now c.loop-i.i c.loop-i.byte c.loop-i.answers c.loop-i.trees c.loop-i.state
    (c.loop-i.invariant.1 _ c.new.ensures)
    (omega (arith, c.min-count.ensures, c.loop-i-test.false, c.loop-i.auto.i-end, length-take c.min-count.result c.args.calls.now)) c.loop-i.invariant.0

pub loop-i-preserved : goal.loop-i-preserved
loop-i-preserved g c =
    let k = c.loop-i.byte + c.min.result - c.loop-i.byte in
    let within : c.loop-i.byte + c.min.result ≤ length c.loop-i.trees = omega (arith, c.min.ensures, c.loop-i.invariant.0) in
    let long : k ≡ length c.carry_out.new.tree =
    omega (arith, c.carry_out.auto.tree, within, length-take k (drop c.loop-i.byte c.loop-i.trees), length-drop c.loop-i.byte c.loop-i.trees) in
    let below : c.loop-i.i < length c.args.calls.now =
    omega (arith, c.loop-i-test.true, c.min-count.ensures, length-take c.min-count.result c.args.calls.now) in (
      omega (arith, within, length_putMid c.loop-i.byte k c.loop-i.trees c.carry_out.new.tree c.loop-i.invariant.0 (omega (arith, within)) long),
      λ slots h.
          one_more _ (map g.C.Chart.value c.args.charts.now) slots c.args.trees.now c.args.answers.now c.args.calls.now c.loop-i.i c.loop-i.byte
          c.loop-i.answers c.loop-i.trees c.loop-i.state _ _ _ _ c.carry_out.new.tree (c.loop-i.invariant.1 slots h) below
          (omega (arith, c.loop-i-test.true, c.min-count.ensures, length-take c.min-count.result c.args.calls.now, c.loop-i.auto.answers))
          c.loop-i.invariant.0
          (λ d. get_or_default c.args.calls.now c.loop-i.i d _ below ∙ sym (get_or-take c.min-count.result c.args.calls.now c.loop-i.i _ (omega (arith, c.loop-i-test.true, length-take c.min-count.result c.args.calls.now))))
          (omega (arith, c.min.ensures, c.room.ensures))
          (goes_on _ (map g.C.Chart.value c.args.charts.now) slots c.args.trees.now c.args.answers.now c.args.calls.now _ _ _ _ _ _ _ _ c.carry_out.ensures
          (elim c.match-carry_out.branch [
            | in-Some w ↦ inl (w.in-Some.is ∙ ap Some (sym w.answers-is), w.state-is)
            | in-None w ↦ inr (w.in-None.is, w.answers-is, rw w.state-is w.turn-state.ensures)
          ]))
          c.carry_out.auto.tree,
    )

pub returns-clause-law : goal.returns-clause-law
returns-clause-law g c = law_holds _ (record { same = g.K.Key.same; reading = g.K.Written.reading }) (length c.args.slots.now)
