use Rattle.std.proofs.Common.{sym, subst, ⊎_elim}
use Rattle.reader.specs.Text.{BadRule, no_head, long_head, BadBody, no_body, long_body}
use Rattle.reader.proofs.text.TextReader.no_head.Goals as goal

pub returns-in-Long : goal.returns-in-Long
returns-in-Long c =
    let r = c.args.self.now in
    record {
      rule = λ d. subst (λ f. BadRule r.bytes.now d r.next f.reason f.place) (sym c.fault.ensures) (long_head c.in-Long.is);
      body = λ _ d n. subst (λ f. BadBody r.bytes.now d n r.next f.reason f.place) (sym c.fault.ensures) (long_body c.in-Long.is);
    }

pub returns-in_default : goal.returns-in_default
returns-in_default c =
    let r = c.args.self.now in
    let none = ⊎_elim c.requires c.in_default.not-Long in
    record {
      rule = λ d. subst (λ f. BadRule r.bytes.now d r.next f.reason f.place) (sym c.fault-in_default.ensures) (no_head none);
      body = λ shut d n. subst (λ f. BadBody r.bytes.now d n r.next f.reason f.place) (sym c.fault-in_default.ensures) (no_body none shut);
    }
