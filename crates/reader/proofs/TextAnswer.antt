-- A text is read as one thing only, and the outline and the keys are those of what it is read as.
use Rattle.std.proofs.Common.{ℕ, List, Result, refl, MatchResult}
use Rattle.reader.specs.declared.fault.ReaderFault.{ReaderFault}
use Rattle.reader.specs.declared.outline.Outline.{Outline}
use Rattle.reader.specs.Names.{name_at, Named}
use Rattle.reader.specs.Text.{Reads, ReadsAs, Refused}
use Rattle.reader.specs.TextTotal.{text_read, text_reading, OneAnswer}
use Rattle.reader.specs.Written.{Outlined, KeyAt}
use Rattle.reader.proofs.Heads.{heads_named}
use Rattle.reader.proofs.Readings as readings
use Rattle.reader.proofs.TextUnique.{one_reading, one_refusal, never_both}

pub one_answer : OneAnswer
one_answer bs r a = readings.same_answer (name_at bs) (Reads bs) (Refused bs) (one_reading bs) (one_refusal bs) (never_both bs) r (text_reading bs) a (text_read bs).1

pub outlined : (bs : List ℕ) (r : Result Outline ReaderFault) → MatchResult r (ReadsAs bs) (λ f. Refused bs f.reason f.place) → Outlined (text_reading bs) r
outlined bs r h = readings.outlined (name_at bs) (Reads bs) (Refused bs) (one_reading bs) (one_refusal bs) (never_both bs) (text_reading bs) (text_read bs).1 r h

pub key_stands : (bs : List ℕ) (p : ℕ) → KeyAt (text_reading bs) p (name_at bs p)
key_stands bs p = readings.key_at (name_at bs) (Reads bs) (Refused bs) (Named bs) (heads_named bs) (text_reading bs) (text_read bs).1 p (name_at bs p) (λ _. refl)
