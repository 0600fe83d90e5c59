-- What a form reads bytes as: a rule over the keys at the places of its heads, or a refusal.
use Rattle.std.specs.Prelude.{ℕ}
use Rattle.reader.specs.declared.fault.Reason.{Reason}
use Rattle.reader.specs.Faults.{number_of}
use Rattle.reader.specs.Keyed.{keyed}
use Rattle.reader.specs.Tree.{Rule}
use Rattle.reader.specs.Written.{Reading, reads, unread}

-- a form says which key stands at a place, which rule over places the bytes are, and why and where they are refused
pub data ReadAs {K : Type 0} (key : ℕ → K) (Reads : Rule → Type 0) (Refused : Reason → ℕ → Type 0) : Reading K → Type 0 where
  accepted : {t : Rule} → Reads t → ReadAs key Reads Refused (reads (keyed key t))
  refused : {r : Reason} {p : ℕ} → Refused r p → ReadAs key Reads Refused (unread (record { number = number_of r; place = p }))
