-- What the text reader's moves do to what it has read.
use Rattle.std.proofs.Common.{◌≡◌, ℕ, suc, ◌+◌, ◌-◌, ◌*◌, ◌<◌, ◌≤◌, ◌≢◌, Bool, true, false, List, [], ◌∷◌, ◌++◌, length, sym, refl, ap, ◌∙◌, subst, append_assoc, append-nil, add-zero, arith}
use Rattle.reader.specs.declared.fault.Reason.{Reason}
use Rattle.reader.specs.declared.fault.Reason.TheVariants.{Misplaced}
use denote.Enum.Bare.{sameb, same_true, same_false}
use Rattle.reader.specs.contracts.lexer.Token.{the_type}
use Rattle.reader.specs.declared.lexer.Token.{Token}
use Rattle.reader.specs.declared.lexer.Token.TheVariants.{Open, Close, Comma, If, Name, Long, Stray, Finish}
use Rattle.reader.specs.declared.lexer.Lexeme.{Lexeme}
use Rattle.reader.specs.declared.outline.End.{End}
use Rattle.reader.specs.declared.outline.Outline.{Outline}
use Rattle.reader.specs.declared.text.TextReader.{TextReader}
use Rattle.reader.specs.Lexemes.{Is, Lexed}
use Rattle.reader.specs.Limits.{deepest, most_bodies}
use Rattle.reader.specs.Outlines.{mentions, ended}
use Rattle.reader.specs.Text.{Follows, IsRule, bare, ruled, Bodies, one, another, IsBody, name, bracket, Stops, BadRule, first, later, BadBody, within, unclosed}
use Rattle.reader.specs.TextSteps.{input, Adds, AddsAll, Fresh, Advanced, ReadHead, ReadRule, ReadBody}
use Rattle.reader.specs.Tree.{Rule, Rules, rule, none, ◌▸◌, count, size_all, places, places_all, ends, ends_all}

-- a word or mark begins within the input
pub start_within : (bs : List ℕ) (k : Token) (s e : ℕ) → Is bs k s e → s ≤ length bs
start_within bs Open s e i = omega (arith, i.0.0)
start_within bs Close s e i = omega (arith, i.0.0)
start_within bs Comma s e i = omega (arith, i.0.0)
start_within bs If s e i = omega (arith, i.0.some, i.0.within)
start_within bs Name s e i = omega (arith, i.0.some, i.0.within)
start_within bs Long s e i = omega (arith, i.0.some, i.0.within)
start_within bs Stray s e i = omega (arith, i.0.within)
start_within bs Finish s e i = omega (arith, i.0)

-- a kind of word or mark that takes some bytes
abbrev pub Solid : Token → Type 0
Solid Open = Unit {0}
Solid Close = Unit {0}
Solid Comma = Unit {0}
Solid If = Unit {0}
Solid Name = Unit {0}
Solid Long = Unit {0}
Solid Stray = ⊥
Solid Finish = ⊥

is_some : (bs : List ℕ) (k : Token) (s e : ℕ) → Solid k → Is bs k s e → s < e
is_some bs Open s e t i = omega (arith, i.1)
is_some bs Close s e t i = omega (arith, i.1)
is_some bs Comma s e t i = omega (arith, i.1)
is_some bs If s e t i = i.0.some
is_some bs Name s e t i = i.0.some
is_some bs Long s e t i = i.0.some
is_some bs Stray s e t i = absurd t
is_some bs Finish s e t i = absurd t

pub takes : (bs : List ℕ) (k : Token) → Solid k → (l : Lexeme) → l.token ≡ k → Lexed bs l → l.start < l.end
takes bs k t l e i = is_some bs k l.start l.end t (subst (λ x. Is bs x l.start l.end) e i)

-- the next word or mark of the reader takes some bytes
pub takes_next : (r : TextReader) (k : Token) → Solid k → r.next.token ≡ k → r.next.start < r.next.end
takes_next r k t is = takes (input r) k t r.next is r.lexed

pub advanced_fresh : (r a : TextReader) → 2 * r.outline.mentioned ≤ r.next.start + 1 → r.next.start < r.next.end → Advanced r a → Fresh a
advanced_fresh r a few t adv = rw adv.outline (omega (arith, adv.next.from, t))

-- a head was read
pub after_head : (n : ℕ) (r e : TextReader) → Fresh r → ReadHead n r e → 2 * e.outline.mentioned ≤ e.next.start + 1
after_head n r e f h = omega (arith, h.mentioned, f, takes_next r Name tt h.named, h.follows.from)

-- the bodies that the loop over them has read, from the reader e after the head up to the reader r:
-- n of them, and what stands before another
pub data SoFar (d : ℕ) (e r : TextReader) (n : ℕ) (link : Token) : Type 0 where
  not_yet : r ≡ e → n ≡ 0 → link ≡ If → SoFar d e r n link
  some : {b : Lexeme} {ts : Rules} → e.next.token ≡ If → Follows (input e) e.next b → Bodies (input e) d b ts r.next → n ≡ count ts → AddsAll ts e.outline r.outline → link ≡ Comma → SoFar d e r n link

pub record Looping (d : ℕ) (e r : TextReader) (n : ℕ) (link : Token) : Type 0 where
  pub same : input r ≡ input e
  pub few : 2 * r.outline.mentioned ≤ r.next.start + 1
  pub pending : r.outline.ended < r.outline.mentioned
  pub so_far : SoFar d e r n link

-- at most eight bodies
pub bodies_few : {bs : List ℕ} {d : ℕ} {l m : Lexeme} {ts : Rules} → Bodies bs d l ts m → count ts ≤ most_bodies
bodies_few (one b) = omega arith
bodies_few (another bs c f few b) = few

so_far_few : {d : ℕ} {e r : TextReader} {n : ℕ} {link : Token} → SoFar d e r n link → n ≤ most_bodies
so_far_few (not_yet is zero_is l) = omega arith
so_far_few (some i f bodies n_is adds l) = let few = bodies_few bodies in omega arith

-- where the loop goes on, `if` or a comma comes next
pub loop_takes : (d : ℕ) (e r : TextReader) (n : ℕ) (link : Token) → Looping d e r n link → r.next.token ≡ link → r.next.start < r.next.end
loop_takes d e r n link l on = go l.so_far
  where
    go : SoFar d e r n link → r.next.start < r.next.end
    go (not_yet is zero_is t) = takes_next r If tt (on ∙ t)
    go (some i f bodies n_is adds t) = takes_next r Comma tt (on ∙ t)

pub loop_few : (d : ℕ) (e r : TextReader) (n : ℕ) (link : Token) → Looping d e r n link → n ≤ most_bodies
loop_few d e r n link l = so_far_few l.so_far

-- outlines with one rule more
adds_one : (t : Rule) (o o' : Outline) → Adds t o o' → AddsAll (none ▸ t) o o'
adds_one t o o' a = record {
  mentioned = omega (arith, a.mentioned);
  closed = omega (arith, a.closed);
  heads = a.heads;
  rules = a.rules ∙ ap (λ k. ended o ++ ends k t) (sym (add-zero o.mentioned));
}

adds_more : (ts : Rules) (t : Rule) (o₁ o₂ o₃ : Outline) → AddsAll ts o₁ o₂ → Adds t o₂ o₃ → AddsAll (ts ▸ t) o₁ o₃
adds_more ts t o₁ o₂ o₃ a b = record {
  mentioned = omega (arith, a.mentioned, b.mentioned);
  closed = omega (arith, a.closed, b.closed);
  heads = b.heads ∙ ap (λ l. l ++ places t) a.heads ∙ append_assoc (mentions o₁) (places_all ts) (places t);
  rules =
      b.rules
      ∙ ap (λ l. l ++ ends o₂.mentioned t) a.rules
      ∙ ap (λ k. (ended o₁ ++ ends_all o₁.mentioned ts) ++ ends k t) a.mentioned
      ∙ append_assoc (ended o₁) (ends_all o₁.mentioned ts) (ends (o₁.mentioned + size_all ts) t);
}

-- the loop has read one body more
pub loop_again : (d : ℕ) (e r a b : TextReader) (n : ℕ) (link : Token) → Looping d e r n link → r.next.token ≡ link → Advanced r a → ReadBody d a b → n < most_bodies → Looping d e b (n + 1) Comma
loop_again d e r a b n link l on adv body few =
    let same_a : input a ≡ input e = adv.same ∙ l.same in
    let adds : Adds body.tree r.outline b.outline = subst (λ o. Adds body.tree o b.outline) adv.outline body.adds in
    let reads : IsBody (input e) d a.next body.tree b.next = subst (λ bs. IsBody bs d a.next body.tree b.next) same_a body.reads in
    let next : Follows (input e) r.next a.next = subst (λ bs. Follows bs r.next a.next) l.same adv.next in
    record {
      same = body.same ∙ same_a;
      few = body.few;
      pending = omega (arith, l.pending, adds.mentioned, adds.closed);
      so_far = go l.so_far adds reads next;
    }
  where
    go : SoFar d e r n link → Adds body.tree r.outline b.outline → IsBody (input e) d a.next body.tree b.next → Follows (input e) r.next a.next → SoFar d e b (n + 1) Comma
    go (not_yet is zero_is t) adds reads next =
        some (sym (ap (λ x. x.next.token) is) ∙ on ∙ t) (subst (λ x. Follows (input e) x.next a.next) is next) (one reads) (omega arith) (adds_one _ _ _ (subst (λ x. Adds body.tree x.outline b.outline) is adds)) refl
    go (some {ts = ts} i f bodies n_is before t) adds reads next =
        some i f (another bodies (on ∙ t) next (omega arith) reads) (omega arith) (adds_more ts _ _ _ _ before adds) refl

-- a body offends
pub loop_bad : (d : ℕ) (bs : List ℕ) (h : Lexeme) (e r a : TextReader) (n : ℕ) (link : Token) (x : Reason) (p : ℕ) → h.token ≡ Name → input e ≡ bs → Follows bs h e.next → Looping (suc d) e r n link → r.next.token ≡ link → Advanced r a → BadBody (input a) (suc d) n a.next x p → BadRule bs d h x p
loop_bad d bs h e r a n link x p named same_e head l on adv bad =
    let bad' : BadBody bs (suc d) n a.next x p = subst (λ i. BadBody i (suc d) n a.next x p) (adv.same ∙ l.same ∙ same_e) bad in
    let next : Follows bs r.next a.next = subst (λ i. Follows i r.next a.next) (l.same ∙ same_e) adv.next in
    go l.so_far bad' next
  where
    go : SoFar (suc d) e r n link → BadBody bs (suc d) n a.next x p → Follows bs r.next a.next → BadRule bs d h x p
    go (not_yet is zero_is t) bad next =
        first named head (sym (ap (λ x. x.next.token) is) ∙ on ∙ t) (subst (λ y. Follows bs y.next a.next) is next) (subst (λ k. BadBody bs (suc d) k a.next x p) zero_is bad)
    go (some {b = b} {ts = ts} i f bodies n_is adds t) bad next =
        later named head i (subst (λ y. Follows y e.next b) same_e f) (subst (λ y. Bodies y (suc d) b ts r.next) same_e bodies) (on ∙ t) next (subst (λ k. BadBody bs (suc d) k a.next x p) n_is bad)

-- a rule with bodies goes on with a comma alone
stops_many : {bs : List ℕ} {d : ℕ} {l m : Lexeme} {ts : Rules} (p : ℕ) (k : Token) → Bodies bs d l ts m → (k ≡ Comma → ⊥) → Stops (rule p ts) k
stops_many p k (one b) no_more = no_more
stops_many p k (another bs c f few b) no_more = no_more

-- a head, its bodies and its end
adds_rule : (p n : ℕ) (ts : Rules) (o₁ o₂ o₃ o₄ : Outline) (x : End) → o₂.mentioned ≡ o₁.mentioned + 1 → o₂.ended ≡ o₁.ended → mentions o₂ ≡ mentions o₁ ++ p ∷ [] → ended o₂ ≡ ended o₁ → AddsAll ts o₂ o₃ → o₄.mentioned ≡ o₃.mentioned → o₄.ended ≡ o₃.ended + 1 → mentions o₄ ≡ mentions o₃ → ended o₄ ≡ ended o₃ ++ x ∷ [] → x ≡ record { mention = o₁.mentioned; bodies = count ts } → Adds (rule p ts) o₁ o₄
adds_rule p n ts o₁ o₂ o₃ o₄ x m₂ e₂ heads₂ rules₂ a m₄ e₄ heads₄ rules₄ x_is = record {
  mentioned = omega (arith, a.mentioned);
  closed = omega (arith, a.closed);
  heads = heads₄ ∙ a.heads ∙ ap (λ l. l ++ places_all ts) heads₂ ∙ append_assoc (mentions o₁) (p ∷ []) (places_all ts);
  rules =
      rules₄
      ∙ ap (λ l. l ++ x ∷ []) a.rules
      ∙ ap (λ y. (ended o₂ ++ ends_all o₂.mentioned ts) ++ y ∷ []) x_is
      ∙ ap (λ l. (l ++ ends_all o₂.mentioned ts) ++ record { mention = o₁.mentioned; bodies = count ts } ∷ []) rules₂
      ∙ ap (λ k. (ended o₁ ++ ends_all k ts) ++ record { mention = o₁.mentioned; bodies = count ts } ∷ []) m₂
      ∙ append_assoc (ended o₁) (ends_all (o₁.mentioned + 1) ts) (record { mention = o₁.mentioned; bodies = count ts } ∷ []);
}

adds_none : (o : Outline) → AddsAll none o o
adds_none o = record {
  mentioned = omega arith;
  closed = omega arith;
  heads = sym (append-nil (mentions o));
  rules = sym (append-nil (ended o));
}

-- what the end of a rule does to the outline
pub record EndAdded (m n : ℕ) (o o' : Outline) : Type 0 where
  pub mentioned : o'.mentioned ≡ o.mentioned
  pub closed : o'.ended ≡ o.ended + 1
  pub heads : mentions o' ≡ mentions o
  pub rules : ended o' ≡ ended o ++ record { mention = m; bodies = n } ∷ []

-- a name alone
pub adds_name : (m : ℕ) (r e : TextReader) (o : Outline) → ReadHead m r e → EndAdded m 0 e.outline o → Adds (rule r.next.start none) r.outline o
adds_name m r e o h x =
    adds_rule r.next.start 0 none r.outline e.outline e.outline o _ h.mentioned h.closed h.heads h.rules (adds_none e.outline) x.mentioned x.closed x.heads x.rules (ap (λ k. record { mention = k; bodies = 0 }) h.number)

-- the loop is over, and the rule ends
pub loop_over : (d m : ℕ) (s e r r' : TextReader) (n : ℕ) (link : Token) → ReadHead m s e → Looping (suc d) e r n link → r.next.token ≢ link → r'.bytes ≡ r.bytes → r'.next ≡ r.next → EndAdded m n r.outline r'.outline → ReadRule d s r'
loop_over d m s e r r' n link h l over bytes_are next_is x = go l.so_far
  where
    same' : input r' ≡ input s
    same' = ap (λ b. b.now) bytes_are ∙ l.same ∙ h.same

    few' : 2 * r'.outline.mentioned ≤ r'.next.start + 1
    few' = rw (x.mentioned, next_is) l.few

    go : SoFar (suc d) e r n link → ReadRule d s r'
    go (not_yet is zero_is t) =
        let here : r'.next ≡ e.next = next_is ∙ ap (λ y. y.next) is in
        record {
          same = same';
          tree = rule s.next.start none;
          reads = rw here (bare h.named h.follows);
          stops = rw here (λ more. over (ap (λ x. x.next.token) is ∙ more ∙ sym t));
          adds = adds_rule s.next.start n none s.outline e.outline e.outline r'.outline _ h.mentioned h.closed h.heads h.rules (adds_none e.outline) (x.mentioned ∙ ap (λ y. y.outline.mentioned) is) (x.closed ∙ ap (λ y. y.outline.ended + 1) is) (x.heads ∙ ap (λ y. mentions y.outline) is) (x.rules ∙ ap (λ y. ended y.outline ++ record { mention = m; bodies = n } ∷ []) is) ((λ i. record { mention = h.number i; bodies = zero_is i }));
          few = few';
        }
    go (some {b = b} {ts = ts} i f bodies n_is adds t) =
        record {
          same = same';
          tree = rule s.next.start ts;
          reads = rw next_is (ruled h.named h.follows i (subst (λ y. Follows y e.next b) h.same f) (subst (λ y. Bodies y (suc d) b ts r.next) h.same bodies));
          stops = rw next_is (stops_many s.next.start r.next.token bodies (λ more. over (more ∙ sym t)));
          adds = adds_rule s.next.start n ts s.outline e.outline r.outline r'.outline _ h.mentioned h.closed h.heads h.rules adds x.mentioned x.closed x.heads x.rules ((λ j. record { mention = h.number j; bodies = n_is j }));
          few = few';
        }

-- a comparison of two tokens answers whether they are equal
pub tokens_told : (r : Bool) (a b : Token) → r ≡ sameb the_type a b → (r ≡ true → a ≡ b) × (r ≡ false → a ≡ b → ⊥)
tokens_told r a b is = (λ yes. same_true the_type tt a b (sym is ∙ yes), λ no. same_false the_type a b (sym is ∙ no))

-- the rule in brackets offends
pub body_bad : (rest n : ℕ) (s a : TextReader) (x : Reason) (p : ℕ) → 0 < rest → rest < deepest → n < most_bodies → s.next.token ≡ Open → Advanced s a → BadRule (input a) (deepest - (rest - 1)) a.next x p → BadBody (input s) (suc (deepest - rest)) n s.next x p
body_bad rest n s a x p below most few is adv bad =
    let e : deepest - (rest - 1) ≡ suc (deepest - rest) = omega arith in
    let bad' : BadRule (input a) (suc (deepest - rest)) a.next x p = subst (λ d. BadRule (input a) d a.next x p) e bad in
    within (omega arith) few is adv.next (subst (λ i. BadRule i (suc (deepest - rest)) a.next x p) adv.same bad')

-- the rule in brackets is not closed
pub body_unclosed : (rest n : ℕ) (s a b : TextReader) → 0 < rest → rest < deepest → n < most_bodies → s.next.token ≡ Open → Advanced s a → ReadRule (deepest - (rest - 1)) a b → (b.next.token ≡ Close → ⊥) → BadBody (input s) (suc (deepest - rest)) n s.next Misplaced b.next.start
body_unclosed rest n s a b below most few is adv r open_still =
    let e : deepest - (rest - 1) ≡ suc (deepest - rest) = omega arith in
    let reads : IsRule (input a) (suc (deepest - rest)) a.next r.tree b.next = subst (λ d. IsRule (input a) d a.next r.tree b.next) e r.reads in
    unclosed (omega arith) few is adv.next (subst (λ i. IsRule i (suc (deepest - rest)) a.next r.tree b.next) adv.same reads) r.stops open_still

-- the rule in brackets is closed
pub body_closed : (rest : ℕ) (s a b z : TextReader) → 0 < rest → rest < deepest → s.next.token ≡ Open → Advanced s a → ReadRule (deepest - (rest - 1)) a b → b.next.token ≡ Close → Advanced b z → ReadBody (suc (deepest - rest)) s z
body_closed rest s a b z below most is adv r closed adv_z =
    let e : deepest - (rest - 1) ≡ suc (deepest - rest) = omega arith in
    let reads : IsRule (input a) (suc (deepest - rest)) a.next r.tree b.next = subst (λ d. IsRule (input a) d a.next r.tree b.next) e r.reads in
    let fresh = advanced_fresh b z r.few (takes_next b Close tt closed) adv_z in
    record {
      same = adv_z.same ∙ r.same ∙ adv.same;
      tree = r.tree;
      reads = bracket (omega arith) is adv.next (subst (λ i. IsRule i (suc (deepest - rest)) a.next r.tree b.next) adv.same reads) closed (subst (λ i. Follows i b.next z.next) (r.same ∙ adv.same) adv_z.next);
      adds = subst (λ o. Adds r.tree s.outline o) (sym adv_z.outline) (subst (λ o. Adds r.tree o b.outline) adv.outline r.adds);
      few = omega (arith, fresh);
    }

-- a body that is a name
pub body_name : (rest m : ℕ) (s e r' : TextReader) → 0 < rest → rest < deepest → Fresh s → ReadHead m s e → r'.bytes ≡ e.bytes → r'.next ≡ e.next → EndAdded m 0 e.outline r'.outline → ReadBody (suc (deepest - rest)) s r'
body_name rest m s e r' below most f h bytes_are next_is x =
    let deep : suc (deepest - rest) ≤ deepest = omega arith in
    record {
      same = ap (λ b. b.now) bytes_are ∙ h.same;
      tree = rule s.next.start none;
      reads = rw next_is (name deep h.named h.follows);
      adds = adds_name m s e r'.outline h x;
      few = rw (x.mentioned, next_is) (after_head m s e f h);
    }
