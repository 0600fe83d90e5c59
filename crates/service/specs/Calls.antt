-- Calls and answers of the code as those that the law speaks of.
use Rattle.std.specs.Prelude.{ℕ, zero, suc, List, [], ◌∷◌, Some, None, Option as Maybe}
use Rattle.std.specs.Borrow.{Bor}
use Rattle.std.proofs.Math.Option.{Option, none, some}
use Rattle.logic.specs.Charts.{Chart}
use Rattle.prover.specs.Settings.{allowed}
use Rattle.law.specs.Calls as law
use Rattle.service.specs.Faults.{refusal}
use Rattle.service.specs.declared.calls.Answer.{Answer}
use Rattle.service.specs.declared.calls.Answer.TheVariants.{Done, Refused, Yes, No, Spent, Long, Accepted, Rejected, Told, NotTaken}
use Rattle.service.specs.declared.calls.Call.{Call}
use Rattle.service.specs.declared.calls.Call.TheVariants as call

-- how many bytes of the trees a call is to be handed
abbrev pub room_of : Call → ℕ
room_of (call.Add rule) = 0
room_of call.Seal = 0
room_of call.Reopen = 0
room_of (call.Suppose rule) = 0
room_of call.Withdraw = 0
room_of (call.Ask goal restart budget room) = room
room_of (call.Check goal restart tree) = 0
room_of (call.Look goal chart release) = 0

-- the chart at a place, where there is one
abbrev pub chart_at : List Chart → ℕ → Option Chart
chart_at [] n = none
chart_at (c ∷ cs) zero = some c
chart_at (c ∷ cs) (suc n) = chart_at cs n

-- the value of a chart, where there is one
abbrev pub chart_of : {C : Type 0} → (C → Chart) → Maybe (Bor C) → Option Chart
chart_of value None = none
chart_of value (Some c) = some (value c.now)

-- a look at this chart, where there is one
abbrev pub look_at : List ℕ → ℕ → Option Chart → Option law.Call
look_at goal release none = none
look_at goal release (some chart) = some (law.look goal chart release)

-- the call, where it is handed these bytes of the trees; none, where it names no chart
abbrev pub call_of : List Chart → Call → List ℕ → Option law.Call
call_of charts (call.Add rule) bytes = some (law.add rule.now)
call_of charts call.Seal bytes = some law.seal
call_of charts call.Reopen bytes = some law.reopen
call_of charts (call.Suppose rule) bytes = some (law.suppose rule.now)
call_of charts call.Withdraw bytes = some law.withdraw
call_of charts (call.Ask goal restart budget room) bytes = some (law.ask goal.now budget bytes (allowed restart))
call_of charts (call.Check goal restart tree) bytes = some (law.check goal.now tree.now (allowed restart))
call_of charts (call.Look goal chart release) bytes = look_at goal.now release (chart_at charts chart)

-- the answer, if the call was taken
abbrev pub answer_of : Answer → Option law.Answer
answer_of Done = some law.done
answer_of (Refused f) = some (law.refused (refusal f))
answer_of (Yes count length) = some (law.Answer.yes count length)
answer_of (No count) = some (law.Answer.no count)
answer_of (Spent count) = some (law.Answer.spent count)
answer_of (Long count length) = some (law.long count length)
answer_of Accepted = some law.accepted
answer_of (Rejected place) = some (law.rejected place)
answer_of (Told rules goal) = some (law.told rules goal)
answer_of NotTaken = none
