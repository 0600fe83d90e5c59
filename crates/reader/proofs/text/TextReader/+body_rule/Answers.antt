use Rattle.std.proofs.Common.{suc, ◌-◌, sym, refl, subst, arith, Result, Ok, Err, MatchResult, OnOk, IfErr}
use Rattle.std.proofs.lemmas.Result.{err_from_is_err_and, MatchResult-weaker}
use Rattle.reader.specs.Limits.{deepest}
use Rattle.reader.specs.Text.{BadBody}
use Rattle.reader.specs.TextSteps.{input}
use Rattle.reader.proofs.TextLemmas.{advanced_fresh, loop_takes, loop_few, loop_again, loop_bad, loop_over, tokens_told, body_bad, body_unclosed, body_closed, body_name}
use Rattle.reader.proofs.text.TextReader.+body_rule.Goals as goal

-- what holds of each of two answers
apart : {E : Type 0} (P Q N : Type 0) (R : E → Type 0) (r : Result (Unit {0}) E) → MatchResult r (λ _. P) (λ _. N) → OnOk r Q → IfErr r R → MatchResult r (λ _. P × Q) (λ e. N × R e)
apart P Q N R (Ok _) m q e = (m, q)
apart P Q N R (Err _) m q e = (m, e)

pub body-returns-in_err-rule-in-Open-clause-cases : goal.body-returns-in_err-rule-in-Open-clause-cases
body-returns-in_err-rule-in-Open-clause-cases t c =
    let p = err_from_is_err_and c.from_residual-in_err-rule-in-Open.result c.from_residual-in_err-rule-in-Open.ensures.1 in
    let room = c.in_ok-room-in-Open.ensures in
    let adv = c.advance.ensures in
    rw (p.1, p.2) (body_bad _ _ _ _ _ _ room.deep c.requires.depth room.few c.in-Open.is adv c.in_err-rule-in-Open.ensures)

pub body-returns-in_ok-room-in-Name-clause-cases : goal.body-returns-in_ok-room-in-Name-clause-cases
body-returns-in_ok-room-in-Name-clause-cases t c =
    let room = c.in_ok-room-in-Name.ensures in
    let head = c.name-number.ensures in
    let said = c.end.ensures in
    body_name _ _ _ c.name-number.new.self _ room.deep c.requires.depth c.requires.fresh head refl refl (record { mentioned = said.heads_count; closed = said.count; heads = said.heads; rules = said.added })

pub body-returns-in_ok-rule-in-Open-clause-cases : goal.body-returns-in_ok-rule-in-Open-clause-cases
body-returns-in_ok-rule-in-Open-clause-cases t c =
    let room = c.in_ok-room-in-Open.ensures in
    let adv = c.advance.ensures in
    let read = c.in_ok-rule-in-Open.ensures in
    let shut = c.close.ensures in
    MatchResult-weaker c.close.result (apart _ _ _ _ c.close.result shut.closes shut.next shut.refused)
    (λ _ ok. body_closed _ _ c.advance.new.self c.rule.new.self _ room.deep c.requires.depth c.in-Open.is adv read ok.0 ok.1)
    (λ f bad. subst (λ g. BadBody (input c.args.self.now) (suc (deepest - c.args.rest)) c.args.count c.args.self.now.next g.reason g.place) (sym bad.1) (body_unclosed _ _ _ c.advance.new.self c.rule.new.self room.deep c.requires.depth room.few c.in-Open.is adv read bad.0))

pub body-returns-in_default : goal.body-returns-in_default
body-returns-in_default t c = record { few = tt; cases = c.no_head.ensures.body c.in_default.not-Open _ _ }

pub rule-body-requires : goal.rule-body-requires
rule-body-requires t c =
    let l = c.loop-self.invariant in
    let on = (tokens_told _ _ _ c.eq.ensures).0 c.loop-self-test.true in
    (omega (arith, c.decreases), (advanced_fresh _ _ l.few (loop_takes _ _ _ _ _ l on) c.advance.ensures, (c.requires.depth, loop_few _ _ _ _ _ l)))

pub rule-returns-in_err-body : goal.rule-returns-in_err-body
rule-returns-in_err-body t c =
    let p = err_from_is_err_and c.from_residual-in_err-body.result c.from_residual-in_err-body.ensures.1 in
    let on = (tokens_told _ _ _ c.eq.ensures).0 c.loop-self-test.true in
    let head = c.in_ok-number.ensures in
    rw (p.1, p.2) (loop_bad _ _ _ c.head.new.self c.loop-self.self c.advance.new.self _ _ _ _ head.named head.same head.follows c.loop-self.invariant on c.advance.ensures c.in_err-body.ensures.cases)

pub rule-loop-self-preserved : goal.rule-loop-self-preserved
rule-loop-self-preserved t c =
    let on = (tokens_told _ _ _ c.eq.ensures).0 c.loop-self-test.true in
    let read = c.in_ok-body.ensures in
    loop_again _ _ c.loop-self.self c.advance.new.self _ _ _ c.loop-self.invariant on c.advance.ensures read.cases read.few

pub rule-end-requires-clause-few : goal.rule-end-requires-clause-few
rule-end-requires-clause-few t c = loop_few _ _ _ _ _ c.loop-self.invariant

pub rule-returns : goal.rule-returns
rule-returns t c =
    let over = (tokens_told _ _ _ c.eq.ensures).1 c.loop-self-test.false in
    let said = c.end.ensures in
    loop_over _ _ _ c.head.new.self c.loop-self.self _ _ _ c.in_ok-number.ensures c.loop-self.invariant over refl refl (record { mentioned = said.heads_count; closed = said.count; heads = said.heads; rules = said.added })
