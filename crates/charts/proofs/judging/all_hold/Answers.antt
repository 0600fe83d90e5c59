use Rattle.std.proofs.Common.{◌≡◌, ◌<◌, true, length, get_or, sym, subst, rules}
use Rattle.std.proofs.lemmas.Bool.Decides.{Decides-like}
use Rattle.book.specs.declared.record_set.RecordSet.{RecordSet}
use Rattle.logic.specs.Sets.{Has}
use Rattle.charts.specs.Bits.{bit}
use Rattle.charts.proofs.Members.{decided_members}
use Rattle.charts.proofs.judging.all_hold.Goals as goal

pub returns : goal.returns
returns c =
    let masks = c.args.masks.now in
    let ran = c.all.ensures.ran in
    Decides-like c.all.result
    (λ all k l h. all k (subst (λ (set : RecordSet). Has set.bits k) (sym c.into_iter.ensures.into_iter_gives) h) l)
    (λ all k h l. all k l (subst (λ (set : RecordSet). Has set.bits k) c.into_iter.ensures.into_iter_gives h))
    (decided_members (λ k. k < length masks → bit (get_or masks k 0) c.args.release ≡ true) _ c.all.result (λ x b q call. (search rules, search rules))
    ran.0 c.into_iter.result _ ran.1 ran.2 ran.3 ran.4 ran.5)
