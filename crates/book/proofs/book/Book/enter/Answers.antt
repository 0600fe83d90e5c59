use Rattle.std.proofs.Common.{◌≤◌, length, sym, ◌∙◌, ap, subst, arith}
use Rattle.std.proofs.lemmas.Bool.{false≢true}
use Rattle.book.specs.Books.{records_of, names_of, in_force_of, Shows}
use Rattle.book.specs.Entries.{Refuses}
use Rattle.book.proofs.Adding.{length_records}
use Rattle.book.proofs.BookEntry.{records_many, given_back, refused}
use Rattle.book.proofs.book.Book.enter.Goals as goal
use Rattle.book.proofs.book.Book.enter.Goals.{then-is_none, else-is_none}

pub returns-then-self-ends-gt-RECORDS-clause-entered : goal.returns-then-self-ends-gt-RECORDS-clause-entered
returns-then-self-ends-gt-RECORDS-clause-entered c = λ r laid.
    let b = c.args.self.now in
    omega (arith, records_many r (records_of b) _ _ laid, ap length c.ends-ends.ensures, length_records b, c.if-self-ends-gt-RECORDS.true)

pub returns-clause-refused : goal.returns-clause-refused
returns-clause-refused c =
    let b = c.args.self.now in
    let few : c.names.result ≤ 64 = omega (arith, c.names.ensures, c.args.numbers.now.few_names) in
    subst (Refuses b c.if-is_none.self) (sym c.ok_or.ensures.value)
    (refused b c.if-is_none.self c.enter_rules-entered.result
    (λ none.
    elim c.if-is_none.branch [
      | then-is_none w ↦ subst (λ b'. Shows b' (records_of b) (names_of b) (in_force_of b)) (sym w.self-is)
          (given_back b c.admit.new.self c.enter_rules-entered.new.self c.names.result few c.admit.ensures c.enter_rules-entered.ensures.longer w.truncate.new.self
          c.mark-mark.result.records c.mark-mark.result.names c.mark-mark.ensures.records c.mark-mark.ensures.names w.truncate.ensures)
      | else-is_none w ↦ absurd (false≢true (sym none ∙ w.if-is_none.ensures))
    ]))
