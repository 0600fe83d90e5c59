-- The first mark tells how far back to cut; where there is none, nothing is supposed.
use Rattle.std.proofs.Common.{sym, ap, ◌∙◌, slice_get}
use Rattle.service.proofs.Supposing.{does_reopen, does_reopen_bare}
use Rattle.service.proofs.state.Sealed.reopen.Goals as goal

pub returns-in-Some : goal.returns-in-Some
returns-in-Some g c =
    let s = c.args.self in
    does_reopen (record { same = g.K.Key.same; reading = g.K.Written.reading }) g.met.K.Key.reflexive s.draft c.give_back.new.self
    s.marks c.in-Some.first
    (sym (ap (λ l. slice_get l 0) c.deref.ensures.0) ∙ sym c.first.ensures.value ∙ sym c.in-Some.ensures) c.give_back.ensures

pub returns-in_default : goal.returns-in_default
returns-in_default g c =
    let s = c.args.self in
    does_reopen_bare (record { same = g.K.Key.same; reading = g.K.Written.reading }) s.draft s.marks
    (sym (ap (λ l. slice_get l 0) c.deref.ensures.0) ∙ sym c.first.ensures.value ∙ sym c.in_default.ensures)
