use Rattle.std.proofs.Common.{arith}
use Rattle.book.specs.KeyLists.{numbers_in}
use Rattle.book.specs.Numbers.{record_indices}
use Rattle.book.proofs.RuleEnding.{below_names, ends_rule}
use Rattle.book.proofs.book.Book.enter_rule.Goals as goal

pub returns : goal.returns
returns c =
    let ks = c.args.numbers.now in
    let got = c.in_ok-head.ensures in
    let taken = c.in_ok-bodies.ensures in
    ends_rule (numbers_in ks) (record_indices c.args.waiting.now.items) _ c.args.end c.args.self.now _ c.in_ok-head.head.index _
    got.0 got.1 taken.0 taken.1 taken.2 c.requires.room
    (omega (arith, got.1, below_names ks c.args.end.mention got.0, c.requires.named)) c.requires.earlier c.push.result c.push.ensures
