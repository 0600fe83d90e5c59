-- One more record keeps what is kept of a book.
use Rattle.std.proofs.Common.{◌≡◌, ℕ, ◌+◌, ◌^◌, ◌<◌, [], ◌∷◌, ◌++◌, length, set, sym, ◌∙◌, subst, arith}
use lib.Bits.{bit_or}
use Rattle.std.proofs.lemmas.Nat.{pow_below}
use Rattle.book.specs.Books.{records_of, MayStand}
use Rattle.book.specs.Records.{stored, set_at, record_of, numbers}
use Rattle.book.specs.declared.book.Book.{Book}
use Rattle.book.specs.declared.record.Record.{Record}
use Rattle.book.specs.declared.record_set.RecordSet.{RecordSet}
use Rattle.book.proofs.Kept.{Earlier, earlier_push, Named, named_push, Lists, lists_push}
use Rattle.book.proofs.SetsAt.{set_at_same, set_at_other}
use Rattle.book.proofs.Stored.{length_stored, stored_push}

pub lists_of : (b : Book) → Lists (set_at b.heads) b.count (records_of b)
lists_of b = record { used = b.used; headed = b.headed; all = b.all }

pub length_records : (b : Book) → length (records_of b) ≡ b.count
length_records b = length_stored b.count b.records (omega (arith, b.whole, b.few))

module _ (b : Book) (x : Record) (S : RecordSet) (may : MayStand b x.head.index (numbers x.bodies))
    (more : S.bits ≡ bit_or (set_at b.heads x.head.index) (2 ^ b.count)) where
  pub added : stored (b.count + 1) (set b.records b.count x) ≡ records_of b ++ record_of x ∷ []
  added = stored_push b.count b.records x (omega (arith, b.whole, may.room, length_records b))

  pub added_earlier : Earlier (stored (b.count + 1) (set b.records b.count x))
  added_earlier = subst Earlier (sym added) (earlier_push (records_of b) (record_of x) b.earlier may.earlier)

  pub added_named : Named b.names (b.count + 1) (stored (b.count + 1) (set b.records b.count x))
  added_named =
      subst (Named b.names (b.count + 1)) (sym added)
      (named_push b.names b.count (records_of b) (record_of x) (length_records b) b.named may.named)

  pub added_lists : Lists (set_at (set b.heads x.head.index S)) (b.count + 1) (stored (b.count + 1) (set b.records b.count x))
  added_lists =
      let h : x.head.index < length b.heads = omega (arith, b.each, x.head.below) in
      subst (Lists (set_at (set b.heads x.head.index S)) (b.count + 1)) (sym added)
      (lists_push (set_at b.heads) (set_at (set b.heads x.head.index S)) b.count (records_of b) (record_of x) (length_records b) (lists_of b)
      (set_at_same b.heads x.head.index S h ∙ more) (λ y ne. set_at_other b.heads x.head.index y S ne))

pub standing_more : (S c : ℕ) → S < 2 ^ c → S < 2 ^ (c + 1)
standing_more S c h = omega (arith, pow_below c (c + 1) (omega arith))
