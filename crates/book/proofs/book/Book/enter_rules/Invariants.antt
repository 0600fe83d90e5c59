use Rattle.book.specs.Numbers.{record_indices}
use Rattle.book.specs.KeyLists.{numbers_in}
use Rattle.book.proofs.RulesEnding.{RulesEnded}
use Rattle.book.proofs.book.Book.enter_rules.Given as goal

abbrev pub invariant-loop-end : goal.invariant-loop-end
invariant-loop-end l = RulesEnded l.initial.self l.self (record_indices l.waiting.items) (numbers_in l.numbers) l.ends l.end-index
