use Rattle.std.proofs.Common.{rules, tests, ◌≡◌, ◌-◌, ap, ◌∙◌, arith, drop, length, length-drop, take, take_all}
use Rattle.std.proofs.lemmas.List.{drop_min}
use Rattle.reader.specs.Names.{word}
use Rattle.reader.specs.NameBytes.{word_run}
use Rattle.reader.proofs.naming.word_at.Goals as goal

pub returns : goal.returns
returns c =
    let bs = c.args.bytes.now in
    let m = c.min.result in
    let run = c.run_length.ensures in
    let rest : take (length bs - m) (drop m bs) ≡ drop c.args.place bs =
    take_all (length bs - m) (drop m bs) (omega (arith, length-drop m bs)) ∙ ap (λ k. drop k bs) c.min.ensures ∙ drop_min c.args.place bs in
    word_run _ _ run.within (λ k lt. let here = run.passes k lt in search (rules, tests)) (λ lt. let past = run.stops lt in search (rules, tests)) ∙ ap word rest
