use Rattle.std.proofs.Common.{rules, tests}
use Rattle.reader.proofs.lexer.lex.Goals as goal

pub returns : goal.returns
returns c =
    let run = c.run_end-start.ensures in
    record { from = run.from; spaces = λ k ge lt. let at = run.passes k ge lt in search (rules, tests); what = c.token_at-token.ensures }
