-- What stands at the place of a record in use is the record of the book.
use Rattle.std.proofs.Common.{◌≡◌, ℕ, ◌<◌, ◌≤◌, length, get_or, sym, ap, arith}
use Rattle.logic.specs.Rules as rules
use Rattle.logic.specs.Rules.{head_of, bodies_of, blank, WellFormed}
use Rattle.book.specs.Books.{records_of}
use Rattle.book.specs.Limits.{most_records}
use Rattle.book.specs.Records.{numbers, record_of}
use Rattle.book.specs.declared.book.Book.{Book}
use Rattle.book.specs.declared.record.Record.{Record}
use Rattle.book.proofs.Adding.{length_records}
use Rattle.book.proofs.Kept.{all_below}
use Rattle.book.proofs.Stored.{stored_at}

told : (b : Book) (r : ℕ) (d : Record) → r < length (records_of b) → record_of (get_or b.records r d) ≡ get_or (records_of b) r blank
told b r d h = sym (stored_at b.count r b.records d (omega (arith, length_records b)) (omega (arith, length_records b, b.few, b.whole)))

pub head_told : (b : Book) (r : ℕ) (d : Record) → r < length (records_of b) → (get_or b.records r d).head.index ≡ head_of (records_of b) r
unfolding head_of
head_told b r d h = ap (λ (e : rules.Record). e.head) (told b r d h)

pub bodies_told : (b : Book) (r : ℕ) (d : Record) → r < length (records_of b) → numbers (get_or b.records r d).bodies ≡ bodies_of (records_of b) r
unfolding bodies_of
bodies_told b r d h = ap (λ (e : rules.Record). e.bodies) (told b r d h)

-- ---- bodies come earlier

pub well_formed : (b : Book) → WellFormed (records_of b)
well_formed b r l = all_below r (bodies_of (records_of b) r) (b.earlier r)

-- the bodies of a record in use are in use
pub body_used : (b : Book) (r i : ℕ) → r < length (records_of b) → i < length (bodies_of (records_of b) r)
    → get_or (bodies_of (records_of b) r) i 0 < length (records_of b)
body_used b r i h l = omega (arith, b.earlier r i l)

pub records_few : (b : Book) → length (records_of b) ≤ most_records
records_few b = omega (arith, length_records b, b.few)
