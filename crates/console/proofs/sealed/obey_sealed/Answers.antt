use Rattle.std.proofs.Common.{◌≡◌, false, [], ok_or, ap, ◌∙◌, refl, sym, subst}
use Rattle.law.specs.Calls.{Call, refused, done}
use Rattle.prover.specs.Settings.{allowed}
use Rattle.service.specs.Faults.{refusal}
use Rattle.service.specs.declared.state.State.TheVariants.{Shut}
use Rattle.console.specs.Answers.{asks, line_of}
use Rattle.console.specs.Console.{call_of}
use Rattle.console.specs.Orders.{order_read}
use Rattle.console.specs.Refusals.{refused_line}
use Rattle.console.specs.Texts.{text}
use Rattle.console.specs.declared.refusals.Refused.TheVariants.{Unknown}
use Rattle.console.proofs.sealed.obey_sealed.Goals as goal
use Rattle.console.proofs.Ordering.{Elsewhere, ordered_call, asked_call, made_prints, other_prints, sealed_not_taken, not_of_sealed, handed_on}

pub returns-in_err-rule-clause-answers : goal.returns-in_err-rule-clause-answers
returns-in_err-rule-clause-answers c =
    let none_read = c.in_err-rule.ensures.ok_part in
    let unknown : c.in_err-rule.field-0.0 ≡ Unknown = cc (c.in_err-rule.ensures.value, ap (λ o. ok_or o Unknown) none_read) in
    other_prints (order_read c.args.order) _ (Shut c.args.sealed.now) (ap (λ o. call_of (order_read o)) none_read)
    (ap (line_of c.args.printed.now) (handed_on c.from_residual.result c.from_residual.ensures.1) ∙ ap refused_line unknown)

pub returns-in_err-suppose-in-Suppose-clause-answers : goal.returns-in_err-suppose-in-Suppose-clause-answers
returns-in_err-suppose-in-Suppose-clause-answers c =
    made_prints (order_read c.args.order) (Call.suppose c.in-Suppose.rule.now) (refused (refusal c.in_err-suppose-in-Suppose.field-0.0)) [] _
    (Shut c.args.sealed.now) (Shut c.suppose.new.self) (ordered_call c.in_ok-rule.ensures.ok_part c.in-Suppose.is refl)
    c.in_err-suppose-in-Suppose.ensures
    (ap (line_of c.args.printed.now) (handed_on c.from_residual-in_err-suppose-in-Suppose.result c.from_residual-in_err-suppose-in-Suppose.ensures.1))

pub returns-in_ok-suppose-in-Suppose-clause-answers : goal.returns-in_ok-suppose-in-Suppose-clause-answers
returns-in_ok-suppose-in-Suppose-clause-answers c =
    made_prints (order_read c.args.order) (Call.suppose c.in-Suppose.rule.now) done [] (text c.ok.new.line)
    (Shut c.args.sealed.now) (Shut c.suppose.new.self) (ordered_call c.in_ok-rule.ensures.ok_part c.in-Suppose.is refl)
    c.in_ok-suppose-in-Suppose.ensures c.ok.ensures

pub returns-in_err-withdraw-in-Withdraw-clause-answers : goal.returns-in_err-withdraw-in-Withdraw-clause-answers
returns-in_err-withdraw-in-Withdraw-clause-answers c =
    made_prints (order_read c.args.order) Call.withdraw (refused (refusal c.in_err-withdraw-in-Withdraw.field-0.0)) [] _
    (Shut c.args.sealed.now) (Shut c.withdraw.new.self) (ordered_call c.in_ok-rule.ensures.ok_part c.in-Withdraw.is refl)
    c.in_err-withdraw-in-Withdraw.ensures
    (ap (line_of c.args.printed.now) (handed_on c.from_residual-in_err-withdraw-in-Withdraw.result c.from_residual-in_err-withdraw-in-Withdraw.ensures.1))

pub returns-in_ok-withdraw-in-Withdraw-clause-answers : goal.returns-in_ok-withdraw-in-Withdraw-clause-answers
returns-in_ok-withdraw-in-Withdraw-clause-answers c =
    made_prints (order_read c.args.order) Call.withdraw done [] (text c.ok-in-Withdraw.new.line)
    (Shut c.args.sealed.now) (Shut c.withdraw.new.self) (ordered_call c.in_ok-rule.ensures.ok_part c.in-Withdraw.is refl)
    c.in_ok-withdraw-in-Withdraw.ensures c.ok-in-Withdraw.ensures

pub returns-in_err-ask-in-Ask-clause-answers : goal.returns-in_err-ask-in-Ask-clause-answers
returns-in_err-ask-in-Ask-clause-answers c =
    let r = c.in_err-ask-in-Ask.ensures.answers in
    made_prints (order_read c.args.order) (asks c.in-Ask.goal.now (allowed c.in-Ask.restart)) r.0 r.1 _
    (Shut c.args.sealed.now) (Shut c.ask.new.sealed)
    (ordered_call c.in_ok-rule.ensures.ok_part c.in-Ask.is (asked_call c.in-Ask.restart c.in-Ask.goal)) r.2
    (ap (line_of c.ask.new.printed) (handed_on c.from_residual-in_err-ask-in-Ask.result c.from_residual-in_err-ask-in-Ask.ensures.1) ∙ r.3)

pub returns-in_ok-ask-in-Ask-clause-answers : goal.returns-in_ok-ask-in-Ask-clause-answers
returns-in_ok-ask-in-Ask-clause-answers c =
    let r = c.in_ok-ask-in-Ask.ensures.answers in
    made_prints (order_read c.args.order) (asks c.in-Ask.goal.now (allowed c.in-Ask.restart)) r.0 r.1 (text c.ask.new.printed)
    (Shut c.args.sealed.now) (Shut c.ask.new.sealed)
    (ordered_call c.in_ok-rule.ensures.ok_part c.in-Ask.is (asked_call c.in-Ask.restart c.in-Ask.goal)) r.2 r.3

pub returns-in_default-clause-answers : goal.returns-in_default-clause-answers
returns-in_default-clause-answers c =
    sealed_not_taken (order_read c.args.order) _ c.args.sealed.now
    (subst (λ o. Elsewhere false (order_read o)) (sym c.in_ok-rule.ensures.ok_part)
    (not_of_sealed c.in_ok-rule.field-0 c.in_default.not-Suppose c.in_default.not-Withdraw c.in_default.not-Ask))
    refl
