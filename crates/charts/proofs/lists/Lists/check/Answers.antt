use Rattle.std.proofs.Common.{sym, subst, arith, rules}
use Rattle.std.proofs.lemmas.Result.{err_from_is_err_and, on_ok_weaker, IfErr-weaker}
use Rattle.charts.specs.Faults.{fault_number, fault_place}
use Rattle.charts.specs.Filling.{listed, MapFits, Refused}
use Rattle.charts.specs.Filling.Refused.{irreflexive, intransitive, forgetful}
use Rattle.charts.specs.Laws.{ReflexiveAt, TransitiveAt, PersistentAt}
use Rattle.charts.proofs.Lowest.{all_from, lowest_from}
use Rattle.charts.proofs.lists.Lists.check.Goals as goal

pub returns-in_err-all_pass-clause-refused : goal.returns-in_err-all_pass-clause-refused
returns-in_err-all_pass-clause-refused c =
    let p = err_from_is_err_and c.from_residual.result c.from_residual.ensures.1 in
    let fs = c.args.self.now.followers.now in
    let ns = c.args.self.now.names.now in
    let fits : MapFits fs ns = omega arith in
    let low = c.in_err-all_pass.ensures.lowest in
    rw (p.1, p.2) (subst (λ e. Refused fs ns (fault_number e) (fault_place e)) (sym low.2)
    (irreflexive fits (lowest_from (ReflexiveAt (listed fs ns)) (λ k b answer. search rules) low.1)))

pub returns-in_err-all_pass-2-clause-refused : goal.returns-in_err-all_pass-2-clause-refused
returns-in_err-all_pass-2-clause-refused c =
    let p = err_from_is_err_and c.from_residual-in_err-all_pass-2.result c.from_residual-in_err-all_pass-2.ensures.1 in
    let fs = c.args.self.now.followers.now in
    let ns = c.args.self.now.names.now in
    let fits : MapFits fs ns = omega arith in
    let low = c.in_err-all_pass-2.ensures.lowest in
    rw (p.1, p.2) (subst (λ e. Refused fs ns (fault_number e) (fault_place e)) (sym low.2)
    (intransitive fits (all_from (ReflexiveAt (listed fs ns)) (λ k b answer. search rules) c.in_ok-all_pass.ensures.all)
    (lowest_from (TransitiveAt (listed fs ns)) (λ k b answer. search rules) low.1)))

pub returns-clause-lawful : goal.returns-clause-lawful
returns-clause-lawful c =
    let m = listed c.args.self.now.followers.now c.args.self.now.names.now in
    on_ok_weaker c.all_pass-3.result (λ all. record {
      reflexive = all_from (ReflexiveAt m) (λ k b answer. search rules) c.in_ok-all_pass.ensures.all;
      transitive = all_from (TransitiveAt m) (λ k b answer. search rules) c.in_ok-all_pass-2.ensures.all;
      persistent = all_from (PersistentAt m) (λ k b answer. search rules) all;
    }) c.all_pass-3.ensures.all

pub returns-clause-refused : goal.returns-clause-refused
returns-clause-refused c =
    let fs = c.args.self.now.followers.now in
    let ns = c.args.self.now.names.now in
    let fits : MapFits fs ns = omega arith in
    IfErr-weaker c.all_pass-3.result _ _ (λ fault low. subst (λ e. Refused fs ns (fault_number e) (fault_place e)) (sym low.2)
    (forgetful fits (all_from (ReflexiveAt (listed fs ns)) (λ k b answer. search rules) c.in_ok-all_pass.ensures.all)
    (all_from (TransitiveAt (listed fs ns)) (λ k b answer. search rules) c.in_ok-all_pass-2.ensures.all)
    (lowest_from (PersistentAt (listed fs ns)) (λ k b answer. search rules) low.1))) c.all_pass-3.ensures.lowest
