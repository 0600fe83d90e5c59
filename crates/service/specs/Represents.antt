-- Which tally a book stands for, and what each call does.
use Rattle.std.specs.Prelude.{◌≡◌, ℕ, true, false, List, [], map, length, Ok, Err, Result}
use Rattle.logic.specs.Store.{stores}
use Rattle.reader.specs.Written.{Kind}
use Rattle.book.specs.declared.book.Mark.{Mark}
use Rattle.law.specs.Calls.{Call, Answer, done, refused, Tally}
use Rattle.law.specs.Standing.{Standing, nothing, enter_all, stood}
use Rattle.law.specs.Defined.{standing}
use Rattle.law.specs.Does as law
use Rattle.service.specs.Contents.{held, Holds}
use Rattle.service.specs.Faults.{refusal}
use Rattle.service.specs.declared.fault.Fault.{Fault}
use Rattle.service.specs.declared.state.Draft.{Draft}
use Rattle.service.specs.declared.state.Sealed.{Sealed}
use Rattle.service.specs.declared.state.State.{State}
use Rattle.service.specs.declared.state.State.TheVariants.{Open, Shut}

-- how many records and names are in use where s stands
abbrev pub mark_of : {K : Type 0} → Standing K → Mark
mark_of s = record { records = length (stores [] s.rules); names = length s.keys }

module _ {K : Type 0} (kind : Kind K) (slots : ℕ) where
  -- what stands before the suppositions
  abbrev pub unsupposed : Tally → Standing K
  unsupposed t = enter_all kind slots nothing t.added

  -- a draft holds what stands, and nothing is supposed
  pub record DraftHolds (t : Tally) (d : Draft K) : Type 0 where
    pub unsealed : t.sealed ≡ false
    pub bare : t.supposed ≡ []
    pub holds : Holds slots (held (standing kind slots t)) d

  -- a sealed book holds what stands, and its marks are where it stood before each supposition
  pub record SealedHolds (t : Tally) (s : Sealed K) : Type 0 where
    pub shut : t.sealed ≡ true
    pub marked : s.marks.items ≡ map mark_of (stood kind slots (unsupposed t) t.supposed)
    pub holds : Holds slots (held (standing kind slots t)) s.draft

  -- the book stands for the tally
  abbrev pub Represents : Tally → State K → Type 0
  Represents t (Open d) = DraftHolds t d
  Represents t (Shut s) = SealedHolds t s

-- what every call does, whatever tally the book stands for and however many slots its register has
abbrev pub Does : {K : Type 0} → Kind K → Call → State K → Answer → List ℕ → State K → Type 0
Does kind c s a b s' = (slots : ℕ) → law.Does kind slots (Represents kind slots) c s a b s'

-- the answer of a call that gives nothing but a refusal
abbrev pub told : Result (Unit {0}) Fault → Answer
told (Ok u) = done
told (Err f) = refused (refusal f)
