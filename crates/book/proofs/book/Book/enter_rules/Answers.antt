use Rattle.std.proofs.Common.{length, get_or, ap, ◌∙◌, arith, length-take}
use Rattle.book.specs.Entries.{others}
use Rattle.book.specs.Numbers.{record_indices}
use Rattle.book.specs.KeyLists.{numbers_in}
use Rattle.std.proofs.lemmas.List.{length-map, map_push}
use Rattle.book.proofs.RulesEnding.{none_ended, one_ended}
use Rattle.book.proofs.book.Book.enter_rules.Goals as goal

pub loop-end-init : goal.loop-end-init
loop-end-init c = none_ended c.args.self.now _ (numbers_in c.args.numbers.now) c.args.ends.now (ap record_indices c.new-waiting.ensures)

pub push-requires : goal.push-requires
push-requires c =
    let inv = c.loop-end.invariant in
    let e = c.in_ok-number.ensures in
    let ws = record_indices c.loop-end.waiting.items in
    omega (arith, length-map c.enter_rule.new.waiting.items (λ n. n.index), ap length e.waiting_are, length-take (others ws (get_or c.args.ends.now c.loop-end.end-index (record { mention = 0; bodies = 0 })).bodies) ws, inv.few, c.requires.room, c.loop-end-test.true)

pub loop-end-preserved : goal.loop-end-preserved
loop-end-preserved c =
    one_ended c.args.self.now c.loop-end.self (record_indices c.loop-end.waiting.items) (numbers_in c.args.numbers.now) c.args.ends.now c.loop-end.end-index
    (record { mention = 0; bodies = 0 }) c.loop-end.invariant c.loop-end-test.true _ _ _ _ c.in_ok-number.ensures
    (ap record_indices c.push.ensures.items ∙ map_push _ c.enter_rule.new.waiting.items c.in_ok-number.number)
