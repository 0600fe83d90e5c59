use Rattle.std.proofs.Common.{◌≡◌, ◌-◌, ◌+◌, true, ap, ◌∙◌, subst, arith, get_or, length, length-drop, length-take, take, drop}
use Rattle.std.proofs.lemmas.List.Edits.{get_or-between}
use Rattle.reader.proofs.lexer.run_end.Goals as goal

pub returns-clause-passes : goal.returns-clause-passes
returns-clause-passes g c k ge lt =
    let bs = c.args.bytes.now in
    let i = c.args.from in
    let run = c.run_length.ensures in
    let there : i + (k - i) ≡ k = omega arith in
    let here : get_or (take (length bs - i) (drop i bs)) (k - i) 0 ≡ get_or bs k 0 =
    get_or-between bs i (length bs) (k - i) 0 (omega (arith, run.within, length-take (length bs - i) (drop i bs), length-drop i bs)) ∙ ap (λ j. get_or bs j 0) there in
    subst (λ b. goal.F-post g c.args.test b true) here (run.passes (k - i) (omega arith))
