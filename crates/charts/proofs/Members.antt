-- What `all` tells of the records of a set.
use Rattle.std.proofs.Common.{◌≡◌, ℕ, Bool, true, false, List, [], ◌∷◌, Option, Some, None, Decides, MatchOption, refl, sym, ap, ◌∙◌, subst, ⊎_elim, arith}
use Rattle.std.proofs.lemmas.Bool.{false≢true, both_ways, cases_eq}
use Rattle.std.proofs.lemmas.Bool.Decides.{Decides-like}
use Rattle.std.specs.Fn.{Called, Mut}
use Rattle.std.specs.Iterator.{YieldsThen}
use Rattle.std.specs.List.{FoldsTo}
use Rattle.logic.specs.Sets.{Has}
use Rattle.logic.proofs.Sets.{has_zero}
use Rattle.book.specs.Sets.{LeastTaken}
use Rattle.book.specs.declared.members.Members.{Members}
use Rattle.book.specs.declared.number.RecordNumber.{RecordNumber}

module _ {F : Type 0} {g : Mut F (RecordNumber × Unit {0}) Bool} (Q : ℕ → Type 0) (f : F) (r : Bool)
    (decides : (x : RecordNumber) (b : Bool) (q : F) → Called g f (x, tt) b q → (q ≡ f) × Decides b (Q x.index)) where
  -- the test decides Q at each record
  pub decided_members : (xs : List RecordNumber) (s u : Members) (o : Option RecordNumber) (j : F)
      → YieldsThen (λ s o t. LeastTaken s.left.bits o t.left.bits) s xs o u
      → FoldsTo (λ p x q. Called g p (x, tt) true q) f xs j
      → MatchOption o (r ≡ true) (λ x. (r ≡ false) × ((h : F) × Called g j (x, tt) false h))
      → Decides r ((k : ℕ) → Has s.left.bits k → Q k)
  decided_members [] s u None j (t, same, (empty, end)) calls told =
      ((λ _ k h. absurd (has_zero k (subst (λ (S : ℕ). Has S k) (ap (λ (m : Members). m.left.bits) same ∙ empty) h))), λ _. told)
  decided_members [] s u (Some x) j (t, same, (least, left)) calls (fails, (h, call)) = (
    (λ e. absurd (both_ways r fails e)),
    λ all. absurd (false≢true ((decides x false h (subst (λ (p : F). Called g p (x, tt) false h) (sym calls) call)).1.1
        (all x.index (subst (λ (m : Members). Has m.left.bits x.index) (sym same) least.member)))),
  )
  decided_members (x ∷ xs) s u o j (t, (mid, (least, left), rest), last) (q, call, calls) told =
      let d = decides x true q call in
      Decides-like r
      (λ all k h. ⊎_elim (λ (e : x.index ≡ k). subst Q e (d.1.0 refl)) (λ ne. all k ((left k).1 (h, omega (arith, least.lowest k h)))) (cases_eq x.index k))
      (λ all k h. all k ((left k).0 h).0)
      (decided_members xs mid u o j (t, rest, last) (subst (λ (p : F). FoldsTo (λ p x q. Called g p (x, tt) true q) p xs j) d.0 calls) told)
