-- What a form's own laws say of what bytes are read as.
use Rattle.std.proofs.Common.{◌≡◌, ℕ, Ok, Err, Result, sym, refl, ap, ◌∙◌, subst, MatchResult}
use Rattle.std.specs.List.{All}
use Rattle.std.proofs.lemmas.List.Elements.{All-nil, All-cons, All-head, All-tail, All-append, All-weaker}
use Rattle.reader.proofs.AllLists.{all_left, all_right}
use Rattle.reader.specs.declared.fault.Reason.{Reason}
use Rattle.reader.specs.declared.fault.ReaderFault.{ReaderFault}
use Rattle.reader.specs.declared.outline.Outline.{Outline}
use Rattle.reader.specs.Keyed.{keyed, keyed_all}
use Rattle.reader.specs.Outlines.{Outlines}
use Rattle.reader.specs.Readings.{ReadAs, accepted, refused}
use Rattle.reader.specs.Tree.{Rule, Rules, rule, none, ◌▸◌, places, places_all}
use Rattle.reader.specs.Written.{Reading, reads, WrittenBodies, no_body, body, Mention, mentions, mentions_all, IsOutline, Outlined, KeyAt}
use Rattle.reader.proofs.Keyed.{outline_keyed}

module _ {K : Type 0} (key : ℕ → K) (Reads : Rule → Type 0) (Refused : Reason → ℕ → Type 0) where
  abbrev OneReading : Type 0
  OneReading = (t t' : Rule) → Reads t → Reads t' → t ≡ t'

  abbrev OneRefusal : Type 0
  OneRefusal = (r r' : Reason) (p p' : ℕ) → Refused r p → Refused r' p' → (r ≡ r') × (p ≡ p')

  abbrev NeverBoth : Type 0
  NeverBoth = (t : Rule) (r : Reason) (p : ℕ) → Reads t → Refused r p → ⊥

  -- bytes are read as one thing only
  pub same_answer : OneReading → OneRefusal → NeverBoth → (x y : Reading K) → ReadAs key Reads Refused x → ReadAs key Reads Refused y → x ≡ y
  same_answer one_t one_r apart x y (accepted a) (accepted b) = ap (λ t. reads (keyed key t)) (one_t _ _ a b)
  same_answer one_t one_r apart x y (accepted a) (refused b) = absurd (apart _ _ _ a b)
  same_answer one_t one_r apart x y (refused a) (accepted b) = absurd (apart _ _ _ b a)
  same_answer one_t one_r apart x y (refused a) (refused b) = let e = one_r _ _ _ _ a b in let r = e.0 in let p = e.1 in cc

  -- what a reader of the form answers
  abbrev Answers : Result Outline ReaderFault → Type 0
  Answers a = MatchResult a (λ o. (t : Rule) × Reads t × Outlines t o) (λ f. Refused f.reason f.place)

  -- it answers the outline of what the bytes are read as, or the refusal
  pub outlined : OneReading → OneRefusal → NeverBoth → (x : Reading K) → ReadAs key Reads Refused x → (a : Result Outline ReaderFault) → Answers a → Outlined x a
  outlined one_t one_r apart x (accepted {t = t} r) (Ok o) h = subst (λ t. IsOutline (keyed key t) o) (one_t _ _ h.1 r) (outline_keyed key h.0 o h.2)
  outlined one_t one_r apart x (accepted r) (Err f) h = apart _ _ _ r h
  outlined one_t one_r apart x (refused r) (Ok o) h = apart _ _ _ h.1 r
  outlined one_t one_r apart x (refused r) (Err f) h = let e = one_r _ _ _ _ r h in let a = e.0 in let b = e.1 in cc

  -- a mention at a place with the property P, with the key that stands there
  abbrev Stands : (ℕ → Type 0) → Mention K → Type 0
  Stands P m = P m.place × (m.key ≡ key m.place)

  mutual
    stands : (P : ℕ → Type 0) (t : Rule) → All P (places t) → All (Stands P) (mentions (keyed key t))
    stands P (rule p ts) h =
        All-cons (Stands P) _ _ (All-head P p (places_all ts) h, refl) (all_stand P ts no_body (All-tail P p (places_all ts) h) (All-nil _))

    all_stand : (P : ℕ → Type 0) (ts : Rules) (ws : WrittenBodies K) → All P (places_all ts) → All (Stands P) (mentions_all ws) → All (Stands P) (mentions_all (keyed_all key ts ws))
    all_stand P none ws h w = w
    all_stand P (ts ▸ t) ws h w =
        let front = all_left P (places_all ts) (places t) h in
        let last = stands P t (all_right P (places_all ts) (places t) h) in
        all_stand P ts (body (keyed key t) ws) front (All-append (Stands P) (mentions (keyed key t)) (mentions_all ws) last w)

  -- k is the key at p, if the places of heads have a property by which it is
  pub key_at : (P : ℕ → Type 0) → ((t : Rule) → Reads t → All P (places t)) → (x : Reading K) → ReadAs key Reads Refused x → (p : ℕ) (k : K) → (P p → k ≡ key p) → KeyAt x p k
  key_at P all x (accepted {t = t} r) p k is =
      All-weaker (Stands P) (λ m. m.place ≡ p → m.key ≡ k) (λ m here e. here.1 ∙ ap key e ∙ sym (is (subst P e here.0))) _ (stands P t (all t r))
  key_at P all x (refused r) p k is = tt
