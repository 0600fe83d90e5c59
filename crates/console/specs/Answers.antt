-- What the console's functions do to the book that they are handed.
use Rattle.std.specs.Prelude.{◌≡◌, ℕ, Bool, List, Some, None, Option, Ok, Err, Result}
use Rattle.reader.specs.declared.name.Name.{Name}
use Rattle.law.specs.Calls.{Call, Answer, Tally}
use Rattle.law.specs.Defined.{zeros}
use Rattle.service.specs.Represents.{Represents, Does}
use Rattle.service.specs.declared.state.Draft.{Draft}
use Rattle.service.specs.declared.state.State.{State}
use Rattle.service.specs.declared.state.State.TheVariants.{Open}
use Rattle.console.specs.declared.refusals.Refused.{Refused}
use Rattle.console.specs.Console.{names, shown, Answered}
use Rattle.console.specs.Limits.{budget, room}
use Rattle.console.specs.Lines.{ok_line}
use Rattle.console.specs.Orders.{Ordered, seal}
use Rattle.console.specs.Refusals.{refused_line}
use Rattle.console.specs.Texts.{Printed, text}

-- the order is answered by the printed bytes, whatever tally the book stands for and however many slots its register has
abbrev pub Prints : Ordered → State Name → List ℕ → State Name → Type 0
Prints o s printed s' =
    (slots : ℕ) (t : Tally) → Represents names slots t s → (t' : Tally) × Answered slots t o printed t' × Represents names slots t' s'

-- what was printed, or the line for the refusal
abbrev pub line_of : {T : Type 0} → Printed → Result T Refused → List ℕ
line_of p (Ok x) = text p
line_of p (Err r) = refused_line r

-- the line for what is done or refused
abbrev pub change_line : {T : Type 0} → Result T Refused → List ℕ
change_line (Ok x) = ok_line
change_line (Err r) = refused_line r

-- the order is answered over a draft, whose seal is left to the caller; line x is the line that x stands for
abbrev pub DraftAnswers : {X : Type 0} → (X → List ℕ) → Ordered → Draft Name → Option X → Draft Name → Type 0
DraftAnswers line o d None d' = (o ≡ seal) × (d' ≡ d)
DraftAnswers line o d (Some x) d' = Prints o (Open d) (line x) (Open d')

-- a goal as the console asks it
abbrev pub asks : List ℕ → Bool → Call
asks goal restart = Call.ask goal budget (zeros room) restart

-- the goal is asked, and the answer printed
abbrev pub Asks : List ℕ → Bool → State Name → List ℕ → State Name → Type 0
Asks goal restart s printed s' =
    (a : Answer) × (b : List ℕ) × Does names (asks goal restart) s a b s' × (printed ≡ shown a b)
