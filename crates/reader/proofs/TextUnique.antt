-- A text has one reading or one refusal. An automaton that goes from word to word is a function of the words, and
-- whatever the grammar says of the text the automaton finds.
use Rattle.std.proofs.Common.{◌≡◌, ℕ, suc, ◌<◌, ◌≤◌, cond, eqb, ltb, ◌≢◌, List, [], ◌∷◌, length, sym, refl, ap, ◌∙◌, subst, inl, inr, arith, le-ltb, lt-ltb, eq-eqb, ne_eqb}
use Rattle.reader.specs.declared.fault.Reason.{Reason}
use Rattle.reader.specs.declared.fault.Reason.TheVariants.{Misplaced, LongName, Deep, Ninth}
use Rattle.reader.specs.declared.lexer.Token.{Token}
use Rattle.reader.specs.declared.lexer.Token.TheVariants.{Open, Close, Comma, If, Name, Long, Stray, Finish}
use Rattle.reader.specs.declared.lexer.Lexeme.{Lexeme}
use Rattle.reader.specs.Tree.{Rule, Rules, rule, none, ◌▸◌, count}
use Rattle.reader.specs.Lexemes.{Lexes}
use Rattle.reader.specs.Limits.{rule_bytes, deepest, most_bodies}
use Rattle.reader.specs.Text.{Follows, IsRule, bare, ruled, Bodies, one, another, IsBody, name, bracket, Stops, Names, Begins, BadRule, no_head, long_head, first, later, BadBody, no_body, long_body, deep, ninth, within, unclosed, Refused, oversize, bad, extra, OneReading, OneRefusal, NeverBoth}
use Rattle.reader.proofs.LexUnique.{lexeme_one}

-- a rule that stands open: its place, and its bodies so far
record Frame : Type 0 where
  from : ℕ
  so_far : Rules

-- where the automaton stands: at a head, after a name, at a body, after a body, or at the end
data Spot : Type 0 where
  at_head : List Frame → Spot
  named : ℕ → List Frame → Spot
  at_body : Frame → List Frame → Spot
  more : Frame → List Frame → Spot
  accepts : Rule → Spot
  refuses : Reason → ℕ → Spot

abbrev pick : Token → Spot → Spot → Spot → Spot → Spot → Spot → Spot → Spot → Spot
pick Open a b c d e f g h = a
pick Close a b c d e f g h = b
pick Comma a b c d e f g h = c
pick If a b c d e f g h = d
pick Name a b c d e f g h = e
pick Long a b c d e f g h = f
pick Stray a b c d e f g h = g
pick Finish a b c d e f g h = h

abbrev grown : Frame → Rule → Frame
grown f t = record { from = f.from; so_far = f.so_far ▸ t }

-- a closing bracket after the rule t
abbrev shut : Rule → List Frame → ℕ → Spot
shut t [] p = refuses Misplaced p
shut t (g ∷ gs) p = more (grown g t) gs

-- the end of the input after the rule t
abbrev done : Rule → List Frame → ℕ → Spot
done t [] p = accepts t
done t (g ∷ gs) p = refuses Misplaced p

-- the limits on a body
abbrev enter : Frame → List Frame → ℕ → Spot → Spot
enter f fs p s = cond (ltb deepest (suc (suc (length fs)))) (refuses Deep p) (cond (eqb (count f.so_far) most_bodies) (refuses Ninth p) s)

abbrev step : Spot → Token → ℕ → Spot
step (at_head fs) k p = let b = refuses Misplaced p in pick k b b b b (named p fs) (refuses LongName p) b b
step (named q fs) k p = let b = refuses Misplaced p in pick k b (shut (rule q none) fs p) b (at_body (record { from = q; so_far = none }) fs) b b b (done (rule q none) fs p)
step (at_body f fs) k p = let b = refuses Misplaced p in pick k (enter f fs p (at_head (f ∷ fs))) b b b (enter f fs p (more (grown f (rule p none)) fs)) (refuses LongName p) b b
step (more f fs) k p = let b = refuses Misplaced p in pick k b (shut (rule f.from f.so_far) fs p) (at_body f fs) b b b b (done (rule f.from f.so_far) fs p)
step (accepts t) k p = accepts t
step (refuses r q) k p = refuses r q

abbrev move : Spot → Lexeme → Spot
move s l = step s l.token l.start

-- after the rule t
abbrev ended : Rule → List Frame → Spot
ended (rule p none) fs = named p fs
ended (rule p (ts ▸ t)) fs = more (record { from = p; so_far = ts ▸ t }) fs

data Walk (bs : List ℕ) : Spot → Lexeme → Spot → Lexeme → Type 0 where
  stay : {s : Spot} {l : Lexeme} → Walk bs s l s l
  go : {s s' : Spot} {l m l' : Lexeme} → Follows bs l m → Walk bs (move s l) m s' l' → Walk bs s l s' l'

module _ (bs : List ℕ) where
  go_to : (s s₁ s' : Spot) (l m l' : Lexeme) → move s l ≡ s₁ → Follows bs l m → Walk bs s₁ m s' l' → Walk bs s l s' l'
  go_to s s₁ s' l m l' e f w = go f (subst (λ x. Walk bs x m s' l') (sym e) w)

  walk_then : {s s₁ s₂ : Spot} {l l₁ l₂ : Lexeme} → Walk bs s l s₁ l₁ → Walk bs s₁ l₁ s₂ l₂ → Walk bs s l s₂ l₂
  walk_then stay w = w
  walk_then (go f v) w = go f (walk_then v w)

  -- the token is known
  at : (s : Spot) (l : Lexeme) (k : Token) → l.token ≡ k → move s l ≡ step s k l.start
  at s l k e = ap (λ t. step s t l.start) e

  enter_ok : (f : Frame) (fs : List Frame) (p : ℕ) (s : Spot) → suc (suc (length fs)) ≤ deepest → count f.so_far < most_bodies → enter f fs p s ≡ s
  enter_ok f fs p s le lt = let ne : count f.so_far ≢ most_bodies = omega arith in rw (le-ltb deepest (suc (suc (length fs))) le, ne_eqb (count f.so_far) most_bodies ne)

  enter_deep : (f : Frame) (fs : List Frame) (p : ℕ) (s : Spot) → deepest < suc (suc (length fs)) → enter f fs p s ≡ refuses Deep p
  enter_deep f fs p s lt = rw (lt-ltb deepest (suc (suc (length fs))) lt)

  enter_ninth : (f : Frame) (fs : List Frame) (p : ℕ) (s : Spot) → suc (suc (length fs)) ≤ deepest → count f.so_far ≡ most_bodies → enter f fs p s ≡ refuses Ninth p
  enter_ninth f fs p s le e = rw (le-ltb deepest (suc (suc (length fs))) le, eq-eqb (count f.so_far) most_bodies e)

  ended_many : {d : ℕ} {l m : Lexeme} {ts : Rules} (p : ℕ) (fs : List Frame) → Bodies bs d l ts m → more (record { from = p; so_far = ts }) fs ≡ ended (rule p ts) fs
  ended_many p fs (one b) = refl
  ended_many p fs (another bodies c f few b) = refl

  ended_shut : (t : Rule) (g : Frame) (gs : List Frame) (p : ℕ) → step (ended t (g ∷ gs)) Close p ≡ more (grown g t) gs
  ended_shut (rule q none) g gs p = refl
  ended_shut (rule q (ts ▸ t)) g gs p = refl

  mutual
    rule_walk : {d : ℕ} {l m : Lexeme} {t : Rule} → IsRule bs d l t m → (fs : List Frame) → suc (length fs) ≡ d → Walk bs (at_head fs) l (ended t fs) m
    rule_walk {l = l} (bare n f) fs e = go_to _ _ _ l _ _ (at (at_head fs) l Name n) f stay
    rule_walk {l = l} {m = m} (ruled {i = i} {b = b} n f w g bodies) fs e =
        subst (λ s. Walk bs (at_head fs) l s m) (ended_many l.start fs bodies)
        (go_to _ _ _ l _ _ (at (at_head fs) l Name n) f (go_to _ _ _ i _ _ (at (named l.start fs) i If w) g (bodies_walk bodies l.start fs (ap suc e))))

    bodies_walk : {d : ℕ} {l m : Lexeme} {ts : Rules} → Bodies bs d l ts m → (p : ℕ) (fs : List Frame) → suc (suc (length fs)) ≡ d → Walk bs (at_body (record { from = p; so_far = none }) fs) l (more (record { from = p; so_far = ts }) fs) m
    bodies_walk (one b) p fs e = body_walk b p none fs e (omega arith)
    bodies_walk (another {c = c} {ts = ts} bodies w f few b) p fs e =
        walk_then (bodies_walk bodies p fs e) (go_to _ _ _ c _ _ (at (more (record { from = p; so_far = ts }) fs) c Comma w) f (body_walk b p ts fs e few))

    body_walk : {d : ℕ} {l m : Lexeme} {t : Rule} → IsBody bs d l t m → (p : ℕ) (ts : Rules) (fs : List Frame) → suc (suc (length fs)) ≡ d → count ts < most_bodies → Walk bs (at_body (record { from = p; so_far = ts }) fs) l (more (record { from = p; so_far = ts ▸ t }) fs) m
    body_walk {l = l} (name le n f) p ts fs e few =
        let fr : Frame = record { from = p; so_far = ts } in
        go_to _ _ _ l _ _ (at (at_body fr fs) l Name n ∙ enter_ok fr fs l.start _ (omega arith) few) f stay
    body_walk {l = l} (bracket {c = c} {t = t} le o f r w g) p ts fs e few =
        let fr : Frame = record { from = p; so_far = ts } in
        go_to _ _ _ l _ _ (at (at_body fr fs) l Open o ∙ enter_ok fr fs l.start _ (omega arith) few) f
        (walk_then (rule_walk r (fr ∷ fs) e) (go_to _ _ _ c _ _ (at (ended t (fr ∷ fs)) c Close w ∙ ended_shut t fr fs c.start) g stay))

  -- the automaton comes to f from the spot s at the word l
  abbrev Comes : Spot → Lexeme → Spot → Type 0
  Comes s l f = (s' : Spot) × (l' : Lexeme) × Walk bs s l s' l' × (move s' l' ≡ f)

  comes_after : {s s₁ : Spot} {l l₁ : Lexeme} (f : Spot) → Walk bs s l s₁ l₁ → Comes s₁ l₁ f → Comes s l f
  comes_after f w c = (c.0, c.1, walk_then w c.2, c.3)

  head_no : (fs : List Frame) (k : Token) (p : ℕ) → (Names k → ⊥) → step (at_head fs) k p ≡ refuses Misplaced p
  head_no fs Open p n = refl
  head_no fs Close p n = refl
  head_no fs Comma p n = refl
  head_no fs If p n = refl
  head_no fs Name p n = absurd (n (inl refl))
  head_no fs Long p n = absurd (n (inr refl))
  head_no fs Stray p n = refl
  head_no fs Finish p n = refl

  body_no : (f : Frame) (fs : List Frame) (k : Token) (p : ℕ) → (Names k → ⊥) → (k ≡ Open → ⊥) → step (at_body f fs) k p ≡ refuses Misplaced p
  body_no f fs Open p n o = absurd (o refl)
  body_no f fs Close p n o = refl
  body_no f fs Comma p n o = refl
  body_no f fs If p n o = refl
  body_no f fs Name p n o = absurd (n (inl refl))
  body_no f fs Long p n o = absurd (n (inr refl))
  body_no f fs Stray p n o = refl
  body_no f fs Finish p n o = refl

  named_no : (q : ℕ) (fs : List Frame) (k : Token) (p : ℕ) → (k ≡ If → ⊥) → (k ≡ Close → shut (rule q none) fs p ≡ refuses Misplaced p) → (k ≡ Finish → done (rule q none) fs p ≡ refuses Misplaced p) → step (named q fs) k p ≡ refuses Misplaced p
  named_no q fs Open p i c f = refl
  named_no q fs Close p i c f = c refl
  named_no q fs Comma p i c f = refl
  named_no q fs If p i c f = absurd (i refl)
  named_no q fs Name p i c f = refl
  named_no q fs Long p i c f = refl
  named_no q fs Stray p i c f = refl
  named_no q fs Finish p i c f = f refl

  more_no : (g : Frame) (fs : List Frame) (k : Token) (p : ℕ) → (k ≡ Comma → ⊥) → (k ≡ Close → shut (rule g.from g.so_far) fs p ≡ refuses Misplaced p) → (k ≡ Finish → done (rule g.from g.so_far) fs p ≡ refuses Misplaced p) → step (more g fs) k p ≡ refuses Misplaced p
  more_no g fs Open p i c f = refl
  more_no g fs Close p i c f = c refl
  more_no g fs Comma p i c f = absurd (i refl)
  more_no g fs If p i c f = refl
  more_no g fs Name p i c f = refl
  more_no g fs Long p i c f = refl
  more_no g fs Stray p i c f = refl
  more_no g fs Finish p i c f = f refl

  -- a rule in brackets that neither goes on nor is closed
  inner_no : (t : Rule) (g : Frame) (gs : List Frame) (k : Token) (p : ℕ) → Stops t k → (k ≡ Close → ⊥) → step (ended t (g ∷ gs)) k p ≡ refuses Misplaced p
  inner_no (rule q none) g gs k p s c = named_no q (g ∷ gs) k p s (λ e. absurd (c e)) (λ _. refl)
  inner_no (rule q (ts ▸ t)) g gs k p s c = more_no _ (g ∷ gs) k p s (λ e. absurd (c e)) (λ _. refl)

  -- the whole rule neither goes on nor is over
  outer_no : (t : Rule) (k : Token) (p : ℕ) → Stops t k → (k ≡ Finish → ⊥) → step (ended t []) k p ≡ refuses Misplaced p
  outer_no (rule q none) k p s f = named_no q [] k p s (λ _. refl) (λ e. absurd (f e))
  outer_no (rule q (ts ▸ t)) k p s f = more_no _ [] k p s (λ _. refl) (λ e. absurd (f e))

  outer_done : (t : Rule) (p : ℕ) → step (ended t []) Finish p ≡ accepts t
  outer_done (rule q none) p = refl
  outer_done (rule q (ts ▸ t)) p = refl

  -- a body that may not begin here
  begins_no : (f : Frame) (fs : List Frame) (l : Lexeme) (x : Spot) → Begins l.token → ((s : Spot) → enter f fs l.start s ≡ x) → move (at_body f fs) l ≡ x
  begins_no f fs l x (inl e) no_way = at (at_body f fs) l Name e ∙ no_way _
  begins_no f fs l x (inr e) no_way = at (at_body f fs) l Open e ∙ no_way _

  mutual
    bad_rule_comes : {d : ℕ} {l : Lexeme} {r : Reason} {p : ℕ} → BadRule bs d l r p → (fs : List Frame) → suc (length fs) ≡ d → Comes (at_head fs) l (refuses r p)
    bad_rule_comes {l = l} (no_head n) fs e = (_, l, stay, head_no fs l.token l.start n)
    bad_rule_comes {l = l} (long_head n) fs e = (_, l, stay, at (at_head fs) l Long n)
    bad_rule_comes {l = l} {r = r} {p = p} (first {i = i} n f w g b) fs e =
        comes_after (refuses r p) (go_to _ _ _ l _ _ (at (at_head fs) l Name n) f (go_to _ _ _ i _ _ (at (named l.start fs) i If w) g stay)) (bad_body_comes b l.start none fs (ap suc e) refl)
    bad_rule_comes {l = l} {r = r} {p = p} (later {i = i} {c = c} {ts = ts} n f w g bodies k h b) fs e =
        comes_after (refuses r p)
        (go_to _ _ _ l _ _ (at (at_head fs) l Name n) f (go_to _ _ _ i _ _ (at (named l.start fs) i If w) g (walk_then (bodies_walk bodies l.start fs (ap suc e)) (go_to _ _ _ c _ _ (at (more (record { from = l.start; so_far = ts }) fs) c Comma k) h stay))))
        (bad_body_comes b l.start ts fs (ap suc e) refl)

    bad_body_comes : {d n : ℕ} {l : Lexeme} {r : Reason} {p : ℕ} → BadBody bs d n l r p → (q : ℕ) (ts : Rules) (fs : List Frame) → suc (suc (length fs)) ≡ d → count ts ≡ n → Comes (at_body (record { from = q; so_far = ts }) fs) l (refuses r p)
    bad_body_comes {l = l} (no_body n o) q ts fs e c = (_, l, stay, body_no (record { from = q; so_far = ts }) fs l.token l.start n o)
    bad_body_comes {l = l} (long_body n) q ts fs e c = (_, l, stay, at (at_body (record { from = q; so_far = ts }) fs) l Long n)
    bad_body_comes {l = l} (deep b lt) q ts fs e c = let fr : Frame = record { from = q; so_far = ts } in (_, l, stay, begins_no fr fs l _ b (λ s. enter_deep fr fs l.start s (omega arith)))
    bad_body_comes {l = l} (ninth b le) q ts fs e c = let fr : Frame = record { from = q; so_far = ts } in (_, l, stay, begins_no fr fs l _ b (λ s. enter_ninth fr fs l.start s (omega arith) c))
    bad_body_comes {l = l} {r = r} {p = p} (within le lt o f b) q ts fs e c =
        let fr : Frame = record { from = q; so_far = ts } in
        comes_after (refuses r p) (go_to _ _ _ l _ _ (at (at_body fr fs) l Open o ∙ enter_ok fr fs l.start _ (omega arith) (omega arith)) f stay) (bad_rule_comes b (fr ∷ fs) e)
    bad_body_comes {l = l} (unclosed {c = m} {t = t} le lt o f r s no_close) q ts fs e c =
        let fr : Frame = record { from = q; so_far = ts } in
        (_, m, go_to _ _ _ l _ _ (at (at_body fr fs) l Open o ∙ enter_ok fr fs l.start _ (omega arith) (omega arith)) f (rule_walk r (fr ∷ fs) e), inner_no t fr fs m.token m.start s no_close)

  -- an end stays
  abbrev Fixed : Spot → Type 0
  Fixed f = (l : Lexeme) → move f l ≡ f

  fixed_walk : (f : Spot) → Fixed f → (s s' : Spot) (l l' : Lexeme) → s ≡ f → Walk bs s l s' l' → s' ≡ f
  fixed_walk f x s s' l l' e stay = e
  fixed_walk f x s s' l l' e (go {m = m} g w) = fixed_walk f x (move s l) s' m l' (ap (λ y. move y l) e ∙ x l) w

  one_end : (f f' : Spot) → Fixed f → Fixed f' → (s s₁ s₂ : Spot) (l l₁ l₂ : Lexeme) → Walk bs s l s₁ l₁ → move s₁ l₁ ≡ f → Walk bs s l s₂ l₂ → move s₂ l₂ ≡ f' → f ≡ f'
  one_end f f' x x' s s₁ s₂ l l₁ l₂ stay e stay e' = sym e ∙ e'
  one_end f f' x x' s s₁ s₂ l l₁ l₂ stay e (go {m = m} g w) e' = sym (sym e' ∙ ap (λ y. move y l₂) (fixed_walk f x (move s l) s₂ m l₂ e w) ∙ x l₂)
  one_end f f' x x' s s₁ s₂ l l₁ l₂ (go {m = m} g v) e stay e' = sym e ∙ ap (λ y. move y l₁) (fixed_walk f' x' (move s l) s₁ m l₁ e' v) ∙ x' l₁
  one_end f f' x x' s s₁ s₂ l l₁ l₂ (go {m = m} g v) e (go {m = m'} g' w) e' =
      one_end f f' x x' (move s l) s₁ s₂ m l₁ l₂ v e (subst (λ y. Walk bs (move s l) y s₂ l₂) (lexeme_one bs l.end m' m g' g) w) e'

  comes_once : (f f' : Spot) → Fixed f → Fixed f' → (l l' : Lexeme) → Lexes bs 0 l → Lexes bs 0 l' → Comes (at_head []) l f → Comes (at_head []) l' f' → f ≡ f'
  comes_once f f' x x' l l' a b c d =
      let d' : Comes (at_head []) l f' = subst (λ y. Comes (at_head []) y f') (lexeme_one bs 0 l' l b a) d in
      one_end f f' x x' (at_head []) c.0 d'.0 l c.1 d'.1 c.2 c.3 d'.2 d'.3

-- a reading, as an end of the automaton
reads_comes : (bs : List ℕ) (l m : Lexeme) (t : Rule) → IsRule bs 1 l t m → m.token ≡ Finish → Comes bs (at_head []) l (accepts t)
reads_comes bs l m t r f = (_, m, rule_walk bs r [] refl, at bs (ended t []) m Finish f ∙ outer_done bs t m.start)

extra_comes : (bs : List ℕ) (l m : Lexeme) (t : Rule) → IsRule bs 1 l t m → Stops t m.token → (m.token ≡ Finish → ⊥) → Comes bs (at_head []) l (refuses Misplaced m.start)
extra_comes bs l m t r s f = (_, m, rule_walk bs r [] refl, outer_no bs t m.token m.start s f)

-- a refusal of a text that is short enough, as an end of the automaton
pub record Refuses (bs : List ℕ) (r : Reason) (p : ℕ) : Type 0 where
  start : Lexeme
  begins : Lexes bs 0 start
  comes : Comes bs (at_head []) start (refuses r p)

refused_comes : (bs : List ℕ) (r : Reason) (p : ℕ) → length bs ≤ rule_bytes → Refused bs r p → Refuses bs r p
refused_comes bs r p le (oversize big) = absurd (omega arith)
refused_comes bs r p le (bad {l = l} short a b) = record { start = l; begins = a; comes = bad_rule_comes bs b [] refl }
refused_comes bs r p le (extra {l = l} {m = m} {t = t} short a b s f) = record { start = l; begins = a; comes = extra_comes bs l m t b s f }

pub one_reading : OneReading
one_reading bs t t' a b =
    let e : accepts t ≡ accepts t' = comes_once bs (accepts t) (accepts t') (λ _. refl) (λ _. refl) a.first b.first a.begins b.begins (reads_comes bs a.first a.last t a.reads a.finished) (reads_comes bs b.first b.last t' b.reads b.finished) in
    cc

pub never_both : NeverBoth
never_both bs t r p a b =
    let c = refused_comes bs r p a.short b in
    let e : accepts t ≡ refuses r p = comes_once bs (accepts t) (refuses r p) (λ _. refl) (λ _. refl) a.first c.start a.begins c.begins (reads_comes bs a.first a.last t a.reads a.finished) c.comes in
    let z : ◌≡◌ {A = ℕ} 0 1 = cc in
    omega arith

short_once : (bs : List ℕ) (r r' : Reason) (p p' : ℕ) → length bs ≤ rule_bytes → Refused bs r p → Refused bs r' p' → (r ≡ r') × (p ≡ p')
short_once bs r r' p p' le a b =
    let c = refused_comes bs r p le a in
    let d = refused_comes bs r' p' le b in
    let e : refuses r p ≡ refuses r' p' = comes_once bs (refuses r p) (refuses r' p') (λ _. refl) (λ _. refl) c.start d.start c.begins d.begins c.comes d.comes in
    (cc, cc)

pub one_refusal : OneRefusal
one_refusal bs r r' p p' (oversize big) (oversize big') = (refl, refl)
one_refusal bs r r' p p' (oversize big) (bad short a b) = absurd (omega arith)
one_refusal bs r r' p p' (oversize big) (extra short a b s f) = absurd (omega arith)
one_refusal bs r r' p p' (bad short a b) y = short_once bs r r' p p' short (bad short a b) y
one_refusal bs r r' p p' (extra short a b s f) y = short_once bs r r' p p' short (extra short a b s f) y
