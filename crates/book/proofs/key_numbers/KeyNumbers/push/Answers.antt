use Rattle.std.proofs.Common.{◌∙◌, arith, length-set}
use Rattle.book.proofs.KeyLists.{one_more, named_more}
use Rattle.book.proofs.key_numbers.KeyNumbers.push.Goals as goal

pub invariant_of-self : goal.invariant_of-self
invariant_of-self c =
    let s = c.args.self.now in record {
      whole = length-set s.at s.count c.args.number ∙ s.whole;
      few = omega arith;
      few_names = omega arith;
      named = named_more s.at s.count (omega arith) c.args.number s.names c.args.names (omega arith) (omega arith) s.named;
    }

pub returns-clause-numbers : goal.returns-clause-numbers
returns-clause-numbers c =
    let s = c.args.self.now in
    one_more s.at s.count (omega arith) c.args.number
