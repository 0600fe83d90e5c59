-- What the code reader's moves do to the rules that stand open.
use Rattle.std.proofs.Common.{◌≡◌, ℕ, suc, ◌+◌, ◌-◌, ◌<◌, ◌≤◌, ◌≢◌, List, [], ◌∷◌, ◌++◌, length, get_or, take, sym, refl, ap, ◌∙◌, subst, append_assoc, append-nil, add-one, arith}
use Rattle.std.proofs.lemmas.List.{append_cancel_left, get_or_at, length_push}
use lib.Seq.{take-append_seam}
use Rattle.reader.specs.declared.codes.Open.{Open}
use Rattle.reader.specs.declared.outline.End.{End}
use Rattle.reader.specs.declared.outline.Outline.{Outline}
use Rattle.reader.specs.Limits.{deepest, most_bodies}
use Rattle.reader.specs.Outlines.{mentions, ended, Outlines}
use Rattle.reader.specs.Tree.{rule, none, ◌▸◌, count, places_all, size_all, ends_all}
use Rattle.reader.specs.declared.fault.Reason.TheVariants.{Misplaced, Ninth}
use Rattle.reader.specs.declared.fault.ReaderFault.{ReaderFault}
use Rattle.reader.specs.declared.codes.State.{State}
use Rattle.reader.specs.declared.codes.State.TheVariants.{Before, Head, Inside, After}
use Rattle.reader.specs.CodeLeft.{left_few, left_deep, left_head, left_closed, left_ended}
use Rattle.reader.specs.Codes.{At, Frame, Room, Left, inside, Offends, ninth, cut, cut_head, Refused, offends}
use Rattle.reader.specs.declared.codes.CodeReader.{CodeReader}
use Rattle.reader.specs.CodeSteps.{heads, head_places, body_ends, entry, entries, Tied, AtKind, InHead, Ended, input, Stands, StandsAt, Sound}

-- the rule around the one opened last has no body too many
around_few : {bs : List ℕ} {f g : Frame} {gs : List Frame} {p : ℕ} → Left bs (f ∷ g ∷ gs) p → count g.so_far ≤ most_bodies
around_few (inside l r a b le) = left_few l

-- ---- the stack

-- it is as high as many rules stand open
length_entries : (fs : List Frame) → length (entries fs) ≡ length fs
length_entries [] = refl
length_entries (f ∷ fs) = omega (arith, length_push (entries fs) (entry f fs), length_entries fs)

pub deep_is : (os : List Open) (o : Outline) (fs : List Frame) → Tied os o fs → length os ≡ length fs
deep_is os o fs t = ap length t.stack ∙ length_entries fs

-- what is taken off a list is what was put on it last
popped : (os rest xs : List Open) (x y : Open) → os ≡ xs ++ y ∷ [] → os ≡ rest ++ x ∷ [] → (rest ≡ xs) × (x ≡ y)
popped os rest xs x y put taken =
    let same : rest ++ x ∷ [] ≡ xs ++ y ∷ [] = sym taken ∙ put in
    let long : length rest ≡ length xs = omega (arith, ap length same, length_push rest x, length_push xs y) in
    let front : rest ≡ xs = sym (take-append_seam rest (x ∷ [])) ∙ ap (λ n. take n (rest ++ x ∷ [])) long ∙ ap (take (length xs)) same ∙ take-append_seam xs (y ∷ []) in
    let last : x ∷ [] ≡ y ∷ [] = append_cancel_left xs (x ∷ []) (y ∷ []) (ap (λ l. l ++ x ∷ []) (sym front) ∙ same) in
    (front, ap (λ l. get_or l 0 x) last)

-- the top of it, if it has one
top_is : (os : List Open) (o : Outline) (f : Frame) (fs : List Frame) (x : Open) → Tied os o (f ∷ fs) → x ≡ get_or os (length os - 1) x → x ≡ entry f fs
top_is os o f fs x t is =
    let e : length os - 1 ≡ length (entries fs) = omega (arith, ap length t.stack, length_push (entries fs) (entry f fs)) in
    is ∙ ap (λ n. get_or os n x) e ∙ ap (λ l. get_or l (length (entries fs)) x) t.stack ∙ get_or_at (entries fs) (entry f fs) [] x (length (entries fs)) refl

-- a rule is opened
pub tied_entered : (os : List Open) (p : ℕ) (o o' : Outline) (fs : List Frame) (m : ℕ) → Tied os o fs → m ≡ o.mentioned → o'.mentioned ≡ o.mentioned + 1 → mentions o' ≡ mentions o ++ p ∷ [] → ended o' ≡ ended o → o'.ended ≡ o.ended → Tied (os ++ record { mention = m; bodies = 0 } ∷ []) o' (record { head = p; so_far = none } ∷ fs)
tied_entered os p o o' fs m t is more added same count_same = record {
  stack = ap (λ l. l ++ record { mention = m; bodies = 0 } ∷ []) t.stack ∙ ap (λ k. entries fs ++ record { mention = k; bodies = 0 } ∷ []) (is ∙ t.many);
  many = omega (arith, t.many);
  heads_are = added ∙ ap (λ l. l ++ p ∷ []) t.heads_are;
  unended = omega (arith, t.unended);
  ends_are = same ∙ t.ends_are ∙ sym (append-nil _);
}

-- the end of the rule opened last
abbrev end_of : Open → End
end_of x = record { mention = x.mention; bodies = x.bodies }

-- a rule with one more body
abbrev one_more : Open → Open
one_more x = record { mention = x.mention; bodies = x.bodies + 1 }

-- the rule opened last closes, inside another: x is taken off the stack, and then y
pub tied_closed : (os os₁ os₂ : List Open) (x y : Open) (o o' : Outline) (f g : Frame) (gs : List Frame) → Tied os o (f ∷ g ∷ gs) → os ≡ os₁ ++ x ∷ [] → os₁ ≡ os₂ ++ y ∷ []
    → o'.mentioned ≡ o.mentioned → mentions o' ≡ mentions o → o'.ended ≡ o.ended + 1 → ended o' ≡ ended o ++ end_of x ∷ []
    → Tied (os₂ ++ one_more y ∷ []) o' (record { head = g.head; so_far = g.so_far ▸ rule f.head f.so_far } ∷ gs)
tied_closed os os₁ os₂ x y o o' f g gs t off off' many same more added =
    let first = popped os os₁ (entries (g ∷ gs)) x (entry f (g ∷ gs)) t.stack off in
    let second = popped os₁ os₂ (entries gs) y (entry g gs) first.0 off' in
    let number : heads gs + suc (size_all g.so_far) ≡ heads gs + 1 + size_all g.so_far = omega arith in
    let next : one_more y ≡ record { mention = heads gs; bodies = suc (count g.so_far) } = ap one_more second.1 ∙ ap (λ k. record { mention = heads gs; bodies = k }) (add-one (count g.so_far)) in
    record {
      stack = ap (λ l. l ++ one_more y ∷ []) second.0 ∙ ap (λ z. entries gs ++ z ∷ []) next;
      many = many ∙ t.many ∙ omega arith;
      heads_are = same ∙ t.heads_are ∙ append_assoc (head_places gs) (g.head ∷ places_all g.so_far) (f.head ∷ places_all f.so_far);
      unended = omega (arith, t.unended);
      ends_are =
          added
          ∙ ap (λ l. l ++ end_of x ∷ []) t.ends_are
          ∙ ap (λ z. body_ends (f ∷ g ∷ gs) ++ end_of z ∷ []) first.1
          ∙ ap (λ k. ((body_ends gs ++ ends_all (heads gs + 1) g.so_far) ++ ends_all (k + 1) f.so_far) ++ (record { mention = k; bodies = count f.so_far } ∷ [])) number
          ∙ simp append_assoc;
    }

-- the whole rule closes
outline_ended : (os rest : List Open) (x : Open) (o o' : Outline) (f : Frame) → Tied os o (f ∷ []) → os ≡ rest ++ x ∷ [] → mentions o' ≡ mentions o → ended o' ≡ ended o ++ end_of x ∷ [] → Outlines (rule f.head f.so_far) o'
outline_ended os rest x o o' f t off same added = record {
  heads = same ∙ t.heads_are;
  rules = added ∙ ap (λ l. l ++ end_of x ∷ []) t.ends_are ∙ ap (λ z. body_ends (f ∷ []) ++ end_of z ∷ []) (popped os rest [] x (entry f []) t.stack off).1;
}

module _ (bs : List ℕ) (os : List Open) (o : Outline) (p : ℕ) where
  -- there is room for one more rule in none
  pub room_none : (fs : List Frame) → AtKind bs os o p fs → length os ≡ 0 → Room fs
  room_none [] k none_open = tt
  room_none (f ∷ fs) k none_open = absurd (omega (arith, none_open, deep_is os o (f ∷ fs) k.tied))

  -- and where the rule opened last, which is on top, has room for a body
  pub room_top : (fs : List Frame) (x : Open) → AtKind bs os o p fs → length os ≢ deepest → x ≡ get_or os (length os - 1) x → x.bodies ≢ most_bodies → Room fs
  room_top [] x k deep top nine = tt
  room_top (f ∷ fs) x k deep top nine =
      let le = left_deep k.left in
      let d = deep_is os o (f ∷ fs) k.tied in
      let few = left_few k.left in
      let ne : count f.so_far ≢ most_bodies = λ e. nine (ap (λ y. y.bodies) (top_is os o f fs x k.tied top) ∙ e) in
      (omega arith, omega arith)

  -- a body too many
  pub ninth_is : (fs : List Frame) (x : Open) → AtKind bs os o p fs → At bs p 1 → 0 < length os → length os ≢ deepest → x ≡ get_or os (length os - 1) x → x.bodies ≡ most_bodies → Offends bs Ninth p
  ninth_is [] x k a more deep top is = absurd (omega (arith, more, deep_is os o [] k.tied))
  ninth_is (f ∷ fs) x k a more deep top is =
      let le = left_deep k.left in
      let d = deep_is os o (f ∷ fs) k.tied in
      ninth k.left a (omega arith) (sym (ap (λ y. y.bodies) (top_is os o f fs x k.tied top)) ∙ is)

  -- the rule that is taken off the stack has no body too many
  pub top_few : (fs : List Frame) (rest : List Open) (x : Open) → AtKind bs os o p fs → os ≡ rest ++ x ∷ [] → x.bodies ≤ most_bodies
  top_few [] rest x k off = absurd (omega (arith, ap length off, length_push rest x, deep_is os o [] k.tied))
  top_few (f ∷ fs) rest x k off = rw (popped os rest (entries fs) x (entry f fs) k.tied.stack off).1 (left_few k.left)

  -- nor has the one around it
  pub next_few : (fs : List Frame) (os₁ os₂ : List Open) (x y : Open) → AtKind bs os o p fs → os ≡ os₁ ++ x ∷ [] → os₁ ≡ os₂ ++ y ∷ [] → y.bodies ≤ most_bodies
  next_few [] os₁ os₂ x y k off off' = absurd (omega (arith, ap length off, length_push os₁ x, deep_is os o [] k.tied))
  next_few (f ∷ []) os₁ os₂ x y k off off' = absurd (omega (arith, ap length off, ap length off', length_push os₁ x, length_push os₂ y, deep_is os o (f ∷ []) k.tied))
  next_few (f ∷ g ∷ gs) os₁ os₂ x y k off off' =
      let first = popped os os₁ (entries (g ∷ gs)) x (entry f (g ∷ gs)) k.tied.stack off in
      rw (popped os₁ os₂ (entries gs) y (entry g gs) first.0 off').1 (around_few k.left)

  -- closing the whole rule
  pub closes_whole : (fs : List Frame) (o' : Outline) (rest : List Open) (x : Open) → AtKind bs os o p fs → At bs p 2 → os ≡ rest ++ x ∷ [] → length rest ≡ 0 → mentions o' ≡ mentions o → ended o' ≡ ended o ++ end_of x ∷ [] → Ended bs o' (p + 1)
  closes_whole [] o' rest x k c off empty same added = absurd (omega (arith, ap length off, length_push rest x, deep_is os o [] k.tied))
  closes_whole (f ∷ []) o' rest x k c off empty same added = record {
    tree = rule f.head f.so_far;
    reads = left_ended k.left c;
    outlines = outline_ended os rest x o o' f k.tied off same added;
  }
  closes_whole (f ∷ g ∷ gs) o' rest x k c off empty same added = absurd (omega (arith, ap length off, length_push rest x, deep_is os o (f ∷ g ∷ gs) k.tied))

  -- closing a body
  pub closes_body : (fs : List Frame) (o' : Outline) (os₁ os₂ : List Open) (x y : Open) → AtKind bs os o p fs → At bs p 2 → os ≡ os₁ ++ x ∷ [] → os₁ ≡ os₂ ++ y ∷ []
      → o'.mentioned ≡ o.mentioned → mentions o' ≡ mentions o → o'.ended ≡ o.ended + 1 → ended o' ≡ ended o ++ end_of x ∷ []
      → (f : Frame) × (fs : List Frame) × AtKind bs (os₂ ++ one_more y ∷ []) o' (p + 1) (f ∷ fs)
  closes_body [] o' os₁ os₂ x y k c off off' many same one added = absurd (omega (arith, ap length off, length_push os₁ x, deep_is os o [] k.tied))
  closes_body (f ∷ []) o' os₁ os₂ x y k c off off' many same one added =
      absurd (omega (arith, ap length off, ap length off', length_push os₁ x, length_push os₂ y, deep_is os o (f ∷ []) k.tied))
  closes_body (f ∷ g ∷ gs) o' os₁ os₂ x y k c off off' many same one added = (
    _,
    gs,
    record {
      left = left_closed k.left c;
      tied = tied_closed os os₁ os₂ x y o o' f g gs k.tied off off' many same one added;
      few = omega (arith, k.few);
    },
  )

-- the last byte of a head
pub head_read : (bs : List ℕ) (os : List Open) (o : Outline) (p : ℕ) → InHead bs os o p 1 → p < length bs → (f : Frame) × (fs : List Frame) × AtKind bs os o (p + 1) (f ∷ fs)
head_read bs os o p h lt =
    let e : h.from + 4 ≡ p + 1 = sym h.at in (
      record { head = h.from + 1; so_far = none },
      h.frames,
      record {
        left = subst (λ k. Left bs (record { head = h.from + 1; so_far = none } ∷ h.frames) k) e (left_head h.left h.room h.opens (omega arith));
        tied = h.tied;
        few = h.few;
      },
    )

-- another byte of a head
pub head_more : (bs : List ℕ) (os : List Open) (o : Outline) (p k : ℕ) → InHead bs os o p k → 1 < k → InHead bs os o (p + 1) (k - 1)
head_more bs os o p k h more = record {
  frames = h.frames;
  from = h.from;
  left = h.left;
  room = h.room;
  opens = h.opens;
  at = omega (arith, h.at);
  some = omega arith;
  most = omega (arith, h.most);
  tied = h.tied;
  few = omega (arith, h.few);
}

-- the input ends before the rule does
cut_short : (r : CodeReader) → Sound r → length (input r) ≤ r.place → (r.state ≡ After → ⊥) → Offends (input r) Misplaced r.place
cut_short r sound over open_still =
    let e : r.place ≡ length (input r) = omega (arith, r.within) in
    subst (Offends (input r) Misplaced) (sym e) (go r.state (subst (StandsAt r) e sound) open_still)
  where
    go : (s : State) → Stands (input r) r.stack.items r.outline (length (input r)) s → (s ≡ After → ⊥) → Offends (input r) Misplaced (length (input r))
    go Before h _ = cut h.left
    go (Head k) h _ = cut_head h.left h.room h.opens (omega (arith, h.at, h.some))
    go Inside h _ = cut h.2.left
    go After h no_more = absurd (no_more refl)

-- it is refused for that
pub refused_short : (bs : List ℕ) (r : CodeReader) (f : ReaderFault) → Sound r → input r ≡ bs → length bs ≤ r.place → (r.state ≡ After → ⊥) → f ≡ record { reason = Misplaced; place = r.place } → Refused bs f.reason f.place
refused_short bs r f sound same over open_still says =
    let out = cut_short r sound (rw same over) open_still in
    rw says (offends (rw same at r.short) (rw same at out))
