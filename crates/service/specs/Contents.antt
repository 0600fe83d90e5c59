-- What a register and a book hold together.
use Rattle.std.specs.Prelude.{◌≡◌, ℕ, List, [], length, take, Ok, Err, Result}
use Rattle.logic.specs.Sets.{mask}
use Rattle.logic.specs.Rules as rules
use Rattle.logic.specs.Store.{stores, numbers, number_of, book_of}
use Rattle.keys.specs.Registers.{keys_in, slots_of}
use Rattle.book.specs.Books.{Shows, CutBack}
use Rattle.book.specs.declared.book.Mark.{Mark}
use Rattle.book.specs.declared.number.RecordNumber.{RecordNumber}
use Rattle.reader.specs.Written.{Kind}
use Rattle.law.specs.Standing.{Standing, Entry, entered, enter}
use Rattle.service.specs.Faults.{refusal}
use Rattle.service.specs.declared.fault.Fault.{Fault}
use Rattle.service.specs.declared.state.Draft.{Draft}

-- the keys that have a number, the records in use, and those of them in force
pub record Contents (K : Type 0) : Type 0 where
  pub keys : List K
  pub records : rules.Book
  pub in_force : ℕ

-- what stands, as it is held
abbrev pub held : {K : Type 0} → Standing K → Contents K
held s = record { keys = s.keys; records = stores [] s.rules; in_force = mask (numbers [] s.rules) }

-- what stands with a rule behind it that is not in force
abbrev pub held_with : {K : Type 0} → Standing K → List K → rules.Rule → Contents K
held_with s ks r = record { keys = ks; records = book_of s.rules r; in_force = mask (numbers [] s.rules) }

-- the register, which has so many slots, and the book hold this
pub record Holds {K : Type 0} (slots : ℕ) (c : Contents K) (d : Draft K) : Type 0 where
  pub slots_are : slots_of d.register ≡ slots
  pub keys_are : keys_in d.register ≡ c.keys
  pub book_is : Shows d.book c.records (length c.keys) c.in_force

-- where s stands, a rule is taken in: its record has this number and is not yet in force; or it is refused, and nothing has changed
abbrev pub TakenIn : {K : Type 0} → ℕ → Standing K → Entry K → Result RecordNumber Fault → Draft K → Type 0
TakenIn slots s (entered ks r) (Ok n) d = (n.index ≡ number_of (stores [] s.rules) r) × Holds slots (held_with s ks r) d
TakenIn slots s (entered ks r) (Err e) d = ⊥
TakenIn slots s (Entry.refused f) (Ok n) d = ⊥
TakenIn slots s (Entry.refused f) (Err e) d = (f ≡ refusal e) × Holds slots (held s) d

-- the rule is taken in, whatever stands
abbrev pub TakesIn : {K : Type 0} → Kind K → List ℕ → Result RecordNumber Fault → Draft K → Draft K → Type 0
TakesIn {K} kind w r d d' =
    (slots : ℕ) (s : Standing K) → Holds slots (held s) d → TakenIn slots s (enter kind slots s w) r d'

-- the register and the book are cut back to a mark
pub record GivenBack {K : Type 0} (d : Draft K) (m : Mark) (d' : Draft K) : Type 0 where
  pub slots : slots_of d'.register ≡ slots_of d.register
  pub keys : keys_in d'.register ≡ take m.names (keys_in d.register)
  pub book : CutBack d.book m.records m.names d'.book
