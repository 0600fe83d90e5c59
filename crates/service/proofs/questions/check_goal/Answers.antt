-- The set and the head are those of the goal's record.
use Rattle.std.proofs.Common.{ap, ◌∙◌}
use Rattle.logic.specs.Rules.{supposing}
use Rattle.book.specs.Books.{records_of}
use Rattle.service.proofs.questions.check_goal.Goals as goal

pub returns : goal.returns
returns c = record {
  name = c.head.result.index;
  set = c.supposing-set.result.bits;
  of = λ l. record {
    set = c.supposing-set.ensures.used l ∙ ap (λ f. supposing (records_of c.args.book.now) f c.args.number.index) c.in_force.ensures;
    name = c.head.ensures.used l;
  };
  judged = c.check.ensures.judged;
}
