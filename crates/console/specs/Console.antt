-- What the console prints for a line, told from the tally alone, and the tally after it.
use Rattle.std.specs.Prelude.{◌≡◌, ℕ, true, false, List, take, codes}
use Rattle.std.proofs.Math.Option.{Option, none, some}
use Rattle.reader.specs.declared.name.Name.{Name}
use Rattle.reader.specs.Names.{same_name}
use Rattle.reader.specs.TextTotal.{text_reading}
use Rattle.reader.specs.Written.{Kind}
use Rattle.law.specs.Calls.{Call, Answer, done, refused, long, accepted, rejected, told, Tally, Takes}
use Rattle.law.specs.Defined.{Defined, next, zeros}
use Rattle.console.specs.Limits.{budget, room}
use Rattle.console.specs.Lines.{ok_line, bad_line, count_line, yes_line}
use Rattle.console.specs.Orders.{Ordered, add, seal, suppose, withdraw, ask, ask_again, unknown}

-- the console's kind of key: names, in the text form
abbrev pub names : Kind Name
names = record { same = same_name; reading = text_reading }

-- the call that a line orders, if it orders one
abbrev pub call_of : Ordered → Option Call
call_of (add rule) = some (Call.add rule)
call_of seal = some Call.seal
call_of (suppose rule) = some (Call.suppose rule)
call_of withdraw = some Call.withdraw
call_of (ask goal) = some (Call.ask goal budget (zeros room) false)
call_of (ask_again goal) = some (Call.ask goal budget (zeros room) true)
call_of unknown = none

-- the line that is printed for an answer and the buffer after it; no line orders a check or a look
abbrev pub shown : Answer → List ℕ → List ℕ
shown done buffer = ok_line
shown (refused f) buffer = bad_line f.number f.place
shown (Answer.yes k n) buffer = yes_line k (take n buffer)
shown (Answer.no k) buffer = count_line (codes "no") k
shown (Answer.spent k) buffer = count_line (codes "spent") k
shown (long k n) buffer = count_line (codes "long") k
shown accepted buffer = ok_line
shown (rejected p) buffer = ok_line
shown (told a b) buffer = ok_line

-- Answered slots t order printed t': what is printed for the order at the tally t, and the tally t' after it
pub data Answered (slots : ℕ) (t : Tally) : Ordered → List ℕ → Tally → Type 0 where
  -- the call is made, and its answer is the defined one
  made : {o : Ordered} {c : Call} {a : Answer} {b : List ℕ} → call_of o ≡ some c → Takes t c → Defined names slots t c a b
      → Answered slots t o (shown a b) (next names slots t c)
  -- a line that this state does not take
  not_taken : {o : Ordered} {c : Call} → call_of o ≡ some c → (Takes t c → ⊥) → Answered slots t o (bad_line 51 0) t
  -- any other line
  other : {o : Ordered} → call_of o ≡ none → Answered slots t o (bad_line 52 0) t
