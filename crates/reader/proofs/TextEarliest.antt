-- What stands before the place of a refusal could still become a rule: a name where one is due, and all brackets closed.
use Rattle.std.proofs.Common.{◌≡◌, ℕ, zero, suc, ◌+◌, ◌-◌, ◌<◌, ◌≤◌, Bool, true, false, List, ◌∷◌, ◌++◌, length, get_or, take, replicate, sym, refl, ap, ◌∙◌, subst, arith, length-append, length-take-le, get_or-take}
use native.Mathlib.Decide.{ℕ_discrete}
use lib.ListN.{length-replicate, get_or-replicate}
use Rattle.std.proofs.lemmas.List.{get_or_append_left, get_or-append_right}
use Rattle.reader.specs.declared.fault.Reason.{Reason}
use Rattle.reader.specs.declared.lexer.Token.{Token}
use Rattle.reader.specs.declared.lexer.Token.TheVariants.{Open, Close, Comma, If, Name, Long, Stray, Finish}
use Rattle.reader.specs.declared.lexer.Lexeme.{Lexeme}
use Rattle.reader.specs.Lexemes.{wordly, letter, Word, SpellsIf, Is, Lexed, Spaces, Lexes}
use Rattle.reader.specs.Text.{Follows, IsRule, bare, ruled, Bodies, one, another, IsBody, name, bracket, BadRule, no_head, long_head, first, later, BadBody, no_body, long_body, deep, ninth, within, unclosed, oversize, bad, extra}
use Rattle.reader.specs.TextEarliest.{Shaped, fact, conditional, ShapedBodies, single, further, ShapedBody, named, bracketed, Earliest}
use Rattle.reader.specs.Tree.{Rule, Rules}
use Rattle.reader.proofs.TextLemmas.{start_within, takes}

-- the bytes between the first p and the closing brackets: a space, and a name if one is due
abbrev gap : Bool → ℕ
gap true = 2
gap false = 1

-- a text cs that has the first p bytes of bs, then a space, a name if one is due, and n closing brackets
record Joined (bs : List ℕ) (p : ℕ) (due : Bool) (cs : List ℕ) (n : ℕ) : Type 0 where
  inside : p ≤ length bs
  same : (k : ℕ) → k < p → get_or cs k 0 ≡ get_or bs k 0
  space : get_or cs p 0 ≡ 32
  letter_a : due ≡ true → get_or cs (p + 1) 0 ≡ 97
  closes : (k : ℕ) → p + gap due ≤ k → k < length cs → get_or cs k 0 ≡ 41
  size : length cs ≡ p + gap due + n

-- where r closing brackets are left in a text of e bytes
abbrev after : ℕ → ℕ → Lexeme
after e zero = record { token = Finish; start = e; end = e }
after e (suc r) = record { token = Close; start = e - suc r; end = e - r }

-- the name that was due
abbrev due_name : ℕ → Lexeme
due_name p = record { token = Name; start = p + 1; end = p + 2 }

-- m in cs stands for l in bs
abbrev Swap : List ℕ → List ℕ → Lexeme → Lexeme → Type 0
Swap bs cs l m = (i : ℕ) → Lexes bs i l → Lexes cs i m

gap_some : (b : Bool) → 1 ≤ gap b
gap_some true = omega arith
gap_some false = omega arith

module _ (bs : List ℕ) (p : ℕ) (due : Bool) (cs : List ℕ) (n : ℕ) (j : Joined bs p due cs n) where
  within_both : p < length cs
  within_both = let some = gap_some due in let z = j.size in omega arith

  spaces_same : (i s : ℕ) → s ≤ p → Spaces bs i s → Spaces cs i s
  spaces_same i s le sp k ge lt = j.same k (omega arith) ∙ sp k ge lt

  -- a word that ends in time
  word_same : (s e : ℕ) → e ≤ p → Word bs s e → Word cs s e
  word_same s e le w = record {
    some = w.some;
    within = let lt = within_both in omega arith;
    first = ap letter (j.same s (omega (arith, w.some))) ∙ w.first;
    all = λ k ge lt. ap wordly (j.same k (omega arith)) ∙ w.all k ge lt;
    stops = λ _. elim (ℕ_discrete e p) [
      | yes is ↦ ap (λ k. wordly (get_or cs k 0)) is ∙ ap wordly j.space
      | no ne ↦ ap wordly (j.same e (omega arith)) ∙ w.stops (omega (arith, j.inside))
    ];
  }

  if_back : (s e : ℕ) → s < e → e ≤ p → SpellsIf cs s e → SpellsIf bs s e
  if_back s e lt le i = (i.0, sym (j.same s (omega arith)) ∙ i.1, sym (j.same (s + 1) (omega (arith, i.0))) ∙ i.2)

  if_same : (s e : ℕ) → s < e → e ≤ p → SpellsIf bs s e → SpellsIf cs s e
  if_same s e lt le i = (i.0, j.same s (omega arith) ∙ i.1, j.same (s + 1) (omega (arith, i.0)) ∙ i.2)

  is_same : (k : Token) (s e : ℕ) → s < e → e ≤ p → Is bs k s e → Is cs k s e
  is_same Open s e lt le i = let l = within_both in ((omega arith, j.same s (omega arith) ∙ i.0.1), i.1)
  is_same Close s e lt le i = let l = within_both in ((omega arith, j.same s (omega arith) ∙ i.0.1), i.1)
  is_same Comma s e lt le i = let l = within_both in ((omega arith, j.same s (omega arith) ∙ i.0.1), i.1)
  is_same If s e lt le i = (word_same s e le i.0, if_same s e lt le i.1)
  is_same Name s e lt le i = (word_same s e le i.0, i.1, λ x. i.2 (if_back s e lt le x))
  is_same Long s e lt le i = (word_same s e le i.0, i.1)
  is_same Stray s e lt le i = absurd (omega (arith, i.1))
  is_same Finish s e lt le i = absurd (omega (arith, i.1))

  -- a word or mark that ends in time stays
  stays : (l : Lexeme) → l.start < l.end → l.end ≤ p → Swap bs cs l l
  stays l lt le i x = record { from = x.from; spaces = spaces_same i l.start (omega arith) x.spaces; what = is_same l.token l.start l.end lt le x.what }

  -- what comes where r brackets are left
  comes : (i r : ℕ) → r ≤ n → i ≤ length cs - r → Spaces cs i (length cs - r) → Lexes cs i (after (length cs) r)
  comes i zero le from sp = record { from = omega arith; spaces = λ k ge lt. sp k ge (omega arith); what = (refl, refl) }
  comes i (suc r) le from sp =
      let z = j.size in
      record { from = from; spaces = sp; what = ((omega arith, j.closes (length cs - suc r) (omega arith) (omega arith)), omega arith) }

  comes_here : (i r : ℕ) → r ≤ n → i ≡ length cs - r → Lexes cs i (after (length cs) r)
  comes_here i r le e = comes i r le (omega arith) (λ k ge lt. absurd (omega arith))

  spaces_past : (i : ℕ) → Spaces bs i p → Spaces cs i (p + 1)
  spaces_past i sp k ge lt = elim (ℕ_discrete k p) [
    | yes is ↦ ap (λ q. get_or cs q 0) is ∙ j.space
    | no ne ↦ j.same k (omega arith) ∙ sp k ge (omega arith)
  ]

  -- the name that is due stands for what offends
  named_due : due ≡ true → (l : Lexeme) → l.start ≡ p → Swap bs cs l (due_name p)
  named_due is l at i x =
      let two : gap due ≡ 2 = ap gap is in
      let z = j.size in
      record {
        from = omega (arith, x.from);
        spaces = spaces_past i (λ k ge lt. x.spaces k ge (omega arith));
        what = (
          record {
            some = omega arith;
            within = omega arith;
            first = ap letter (j.letter_a is);
            all = λ k ge lt. let here : k ≡ p + 1 = omega arith in ap (λ q. wordly (get_or cs q 0)) here ∙ ap wordly (j.letter_a is);
            stops = λ lt. ap wordly (j.closes (p + 2) (omega arith) lt);
          },
          omega arith,
          λ w. omega (arith, w.0),
        );
      }

  after_due : due ≡ true → (r : ℕ) → r ≡ n → Follows cs (due_name p) (after (length cs) r)
  after_due is r e =
      let two : gap due ≡ 2 = ap gap is in
      let z = j.size in
      comes_here (p + 2) r (omega arith) (omega arith)

  -- a closing bracket or the end stands for what offends
  closed : due ≡ false → (m : Lexeme) → m.start ≡ p → (r : ℕ) → r ≡ n → Swap bs cs m (after (length cs) r)
  closed is m at r e i x =
      let once : gap due ≡ 1 = ap gap is in
      let z = j.size in
      let there : p + 1 ≡ length cs - r = omega arith in
      comes i r (omega arith) (omega (arith, x.from)) (subst (Spaces cs i) there (spaces_past i (λ k ge lt. x.spaces k ge (omega arith))))

module _ (bs : List ℕ) where
  -- from l on to m
  record On (l m : Lexeme) : Type 0 where
    some : l.start < l.end
    upto : l.end ≤ m.start
    last : Lexed bs m

  mutual
    rule_on : {d : ℕ} {l m : Lexeme} {t : Rule} → IsRule bs d l t m → Lexed bs l → On l m
    rule_on {l = l} (bare n f) i = record { some = takes bs Name tt l n i; upto = f.from; last = f.what }
    rule_on {l = l} (ruled {i = w} n f is g b) i =
        let x = takes bs If tt w is f.what in
        let y = bodies_on b g.what in
        record { some = takes bs Name tt l n i; upto = omega (arith, f.from, g.from, y.some, y.upto); last = y.last }

    bodies_on : {d : ℕ} {l m : Lexeme} {ts : Rules} → Bodies bs d l ts m → Lexed bs l → On l m
    bodies_on (one b) i = body_on b i
    bodies_on (another {c = c} bodies w f few b) i =
        let x = bodies_on bodies i in
        let y = body_on b f.what in
        let z = takes bs Comma tt c w x.last in
        record { some = x.some; upto = omega (arith, x.upto, f.from, y.some, y.upto); last = y.last }

    body_on : {d : ℕ} {l m : Lexeme} {t : Rule} → IsBody bs d l t m → Lexed bs l → On l m
    body_on {l = l} (name le n f) i = record { some = takes bs Name tt l n i; upto = f.from; last = f.what }
    body_on {l = l} (bracket {c = c} le o f r w g) i =
        let x = rule_on r f.what in
        let z = takes bs Close tt c w x.last in
        record { some = takes bs Open tt l o i; upto = omega (arith, f.from, x.some, x.upto, g.from); last = g.what }

module _ (bs : List ℕ) (p : ℕ) (due : Bool) (cs : List ℕ) (n : ℕ) (j : Joined bs p due cs n) where
  keep : (l : Lexeme) → l.start < l.end → l.end ≤ p → Swap bs cs l l
  keep = stays bs p due cs n j

  -- what was read before p is read in cs
  mutual
    rule_same : {d : ℕ} {l m : Lexeme} {t : Rule} → IsRule bs d l t m → Lexed bs l → (m' : Lexeme) → Swap bs cs m m' → m.start ≤ p → Shaped cs l m'
    rule_same (bare n f) i m' sw le = fact n (sw _ f)
    rule_same (ruled {i = w} {b = b} n f is g bodies) i m' sw le =
        let x = takes bs If tt w is f.what in
        let y = bodies_on bs bodies g.what in
        conditional n (keep w x (omega (arith, g.from, y.some, y.upto)) _ f) is (keep b y.some (omega (arith, y.upto)) _ g) (bodies_same bodies g.what m' sw le)

    bodies_same : {d : ℕ} {l m : Lexeme} {ts : Rules} → Bodies bs d l ts m → Lexed bs l → (m' : Lexeme) → Swap bs cs m m' → m.start ≤ p → ShapedBodies cs l m'
    bodies_same (one b) i m' sw le = single (body_same b i m' sw le)
    bodies_same (another {c = c} {b = b} bodies w f few q) i m' sw le =
        let x = bodies_on bs bodies i in
        let y = body_on bs q f.what in
        let z = takes bs Comma tt c w x.last in
        let before : c.end ≤ p = omega (arith, f.from, y.some, y.upto) in
        further (bodies_same bodies i c (keep c z before) (omega arith)) w (keep b y.some (omega (arith, y.upto)) _ f) (body_same q f.what m' sw le)

    body_same : {d : ℕ} {l m : Lexeme} {t : Rule} → IsBody bs d l t m → Lexed bs l → (m' : Lexeme) → Swap bs cs m m' → m.start ≤ p → ShapedBody cs l m'
    body_same (name le n f) i m' sw at = named n (sw _ f)
    body_same (bracket {r = r} {c = c} le o f q w g) i m' sw at =
        let x = rule_on bs q f.what in
        let z = takes bs Close tt c w x.last in
        let before : c.end ≤ p = omega (arith, g.from) in
        bracketed o (keep r x.some (omega (arith, x.upto)) _ f) (rule_same q f.what c (keep c z before) (omega arith)) w (sw _ g)

-- how the first p bytes become a rule or a body that begins with l, with r brackets left behind it
record Completed (Good : List ℕ → Lexeme → Lexeme → Type 0) (bs cs : List ℕ) (l : Lexeme) (r : ℕ) : Type 0 where
  start : Lexeme
  swaps : Swap bs cs l start
  good : Good cs start (after (length cs) r)

record Completion (Good : List ℕ → Lexeme → Lexeme → Type 0) (bs : List ℕ) (l : Lexeme) (p : ℕ) : Type 0 where
  inside : p ≤ length bs
  from : l.start ≤ p
  due : Bool
  opened : ℕ
  completes : (cs : List ℕ) (n r : ℕ) → n ≡ opened + r → Joined bs p due cs n → Completed Good bs cs l r

module _ (bs : List ℕ) where
  -- a name is due where l begins
  due_here : (Good : List ℕ → Lexeme → Lexeme → Type 0) → ((cs : List ℕ) (p : ℕ) (m : Lexeme) → Follows cs (due_name p) m → Good cs (due_name p) m) → (l : Lexeme) → Lexed bs l → Completion Good bs l l.start
  due_here Good good l i = record {
    inside = start_within bs l.token l.start l.end i;
    from = omega arith;
    due = true;
    opened = 0;
    completes = λ cs n r e j. record {
      start = due_name l.start;
      swaps = named_due bs l.start true cs n j refl l refl;
      good = good cs l.start _ (after_due bs l.start true cs n j refl r (omega arith));
    };
  }

  mutual
    bad_rule : {d p : ℕ} {l : Lexeme} {x : Reason} → BadRule bs d l x p → Lexed bs l → Completion Shaped bs l p
    bad_rule {l = l} (no_head n) i = due_here Shaped (λ cs p m f. fact refl f) l i
    bad_rule {l = l} (long_head n) i = due_here Shaped (λ cs p m f. fact refl f) l i
    bad_rule {p = p} {l = l} (first {i = w} {b = b} n f is g q) i =
        let c = bad_body q g.what in
        let u = takes bs Name tt l n i in
        let v = takes bs If tt w is f.what in
        let late : w.end ≤ p = omega (arith, g.from, c.from) in
        let soon : l.end ≤ p = omega (arith, f.from) in
        record {
          inside = c.inside;
          from = omega arith;
          due = c.due;
          opened = c.opened;
          completes = λ cs k r e j.
              let x = c.completes cs k r e j in
              let stay = stays bs p c.due cs k j in
              record { start = l; swaps = stay l u soon; good = conditional n (stay w v late _ f) is (x.swaps _ g) (single x.good) };
        }
    bad_rule {p = p} {l = l} (later {i = w} {b = b} {c = m} n f is g bodies comma h q) i =
        let c = bad_body q h.what in
        let u = takes bs Name tt l n i in
        let v = takes bs If tt w is f.what in
        let y = bodies_on bs bodies g.what in
        let z = takes bs Comma tt m comma y.last in
        let comma_late : m.end ≤ p = omega (arith, h.from, c.from) in
        let begin_late : b.end ≤ p = omega (arith, y.upto) in
        let late : w.end ≤ p = omega (arith, g.from, y.some) in
        let soon : l.end ≤ p = omega (arith, f.from) in
        record {
          inside = c.inside;
          from = omega arith;
          due = c.due;
          opened = c.opened;
          completes = λ cs k r e j.
              let x = c.completes cs k r e j in
              let stay = stays bs p c.due cs k j in
              record {
                start = l;
                swaps = stay l u soon;
                good = conditional n (stay w v late _ f) is (stay b y.some begin_late _ g) (further (bodies_same bs p c.due cs k j bodies g.what m (stay m z comma_late) (omega arith)) comma (x.swaps _ h) x.good);
              };
        }

    bad_body : {d k p : ℕ} {l : Lexeme} {x : Reason} → BadBody bs d k l x p → Lexed bs l → Completion ShapedBody bs l p
    bad_body {l = l} (no_body n o) i = due_here ShapedBody (λ cs p m f. named refl f) l i
    bad_body {l = l} (long_body n) i = due_here ShapedBody (λ cs p m f. named refl f) l i
    bad_body {l = l} (deep b lt) i = due_here ShapedBody (λ cs p m f. named refl f) l i
    bad_body {l = l} (ninth b le) i = due_here ShapedBody (λ cs p m f. named refl f) l i
    bad_body {p = p} {l = l} (within le lt o f q) i =
        let c = bad_rule q f.what in
        let u = takes bs Open tt l o i in
        let soon : l.end ≤ p = omega (arith, f.from, c.from) in
        record {
          inside = c.inside;
          from = omega arith;
          due = c.due;
          opened = suc c.opened;
          completes = λ cs k r e j.
              let x = c.completes cs k (suc r) (omega arith) j in
              record {
                start = l;
                swaps = stays bs p c.due cs k j l u soon;
                good = bracketed o (x.swaps _ f) x.good refl (comes_here bs p c.due cs k j _ r (omega arith) refl);
              };
        }
    bad_body {l = l} (unclosed {i = b} {c = m} {t = t} le lt o f q s open_still) i =
        let p : ℕ = m.start in
        let y = rule_on bs q f.what in
        let u = takes bs Open tt l o i in
        let soon : l.end ≤ p = omega (arith, f.from, y.some, y.upto) in
        record {
          inside = start_within bs m.token m.start m.end y.last;
          from = omega arith;
          due = false;
          opened = 1;
          completes = λ cs k r e j. record {
            start = l;
            swaps = stays bs p false cs k j l u soon;
            good = bracketed o (stays bs p false cs k j b y.some y.upto _ f) (rule_same bs p false cs k j q f.what (after (length cs) (suc r)) (closed bs p false cs k j refl m refl (suc r) (omega arith)) (omega arith)) refl (comes_here bs p false cs k j _ r (omega arith) refl);
          };
        }

-- what is put behind the first bytes
abbrev tail : Bool → ℕ → List ℕ
tail true n = 32 ∷ 97 ∷ replicate n 41
tail false n = 32 ∷ replicate n 41

tail_length : (due : Bool) (n : ℕ) → length (tail due n) ≡ gap due + n
tail_length true n = let e : length (replicate {A = ℕ} n 41) ≡ n = length-replicate n 41 in omega arith
tail_length false n = let e : length (replicate {A = ℕ} n 41) ≡ n = length-replicate n 41 in omega arith

tail_space : (due : Bool) (n : ℕ) → get_or (tail due n) 0 0 ≡ 32
tail_space true n = refl
tail_space false n = refl

tail_closes : (due : Bool) (n k : ℕ) → k < n → get_or (tail due n) (gap due + k) 0 ≡ 41
tail_closes true n k lt = let e : 2 + k ≡ suc (suc k) = omega arith in ap (λ i. get_or (tail true n) i 0) e ∙ get_or-replicate n k 41 0 lt
tail_closes false n k lt = let e : 1 + k ≡ suc k = omega arith in ap (λ i. get_or (tail false n) i 0) e ∙ get_or-replicate n k 41 0 lt

module _ (bs : List ℕ) (p : ℕ) (due : Bool) (n : ℕ) (le : p ≤ length bs) where
  abbrev joined : List ℕ
  joined = take p bs ++ tail due n

  past : (k : ℕ) → get_or joined (p + k) 0 ≡ get_or (tail due n) k 0
  past k =
      let e : p + k - p ≡ k = omega arith in
      get_or-append_right (take p bs) (tail due n) p (p + k) 0 (length-take-le p bs le) (omega arith) ∙ ap (λ i. get_or (tail due n) i 0) e

  makes : Joined bs p due joined n
  makes =
      let front = length-take-le p bs le in
      let back = tail_length due n in
      let size : length joined ≡ p + gap due + n = length-append (take p bs) (tail due n) ∙ omega arith in
      let p_is : p ≡ p + 0 = omega arith in
      record {
        inside = le;
        same = λ k lt. get_or_append_left (take p bs) (tail due n) 0 k (omega arith) ∙ get_or-take p bs k 0 lt;
        space = ap (λ i. get_or joined i 0) p_is ∙ past 0 ∙ tail_space due n;
        letter_a = λ is. past 1 ∙ ap (λ b. get_or (tail b n) 1 0) is;
        closes = λ k ge lt.
            let rest : ℕ = k - (p + gap due) in
            let e : k ≡ p + (gap due + rest) = omega arith in
            ap (λ i. get_or joined i 0) e ∙ past (gap due + rest) ∙ tail_closes due n rest (omega arith);
        size = size;
      }

pub earliest : Earliest
earliest bs r p (oversize big) small = absurd (small refl)
earliest bs r p (bad {l = l} short a b) small =
    let c = bad_rule bs b a.what in
    let cs : List ℕ = joined bs p c.due c.opened c.inside in
    let x = c.completes cs c.opened 0 (omega arith) (makes bs p c.due c.opened c.inside) in
    (tail c.due c.opened, record { first = x.start; last = after (length cs) 0; begins = x.swaps 0 a; shaped = x.good; finished = refl })
earliest bs r p (extra {l = l} {m = m} {t = t} short a q s more_to_come) small =
    let y = rule_on bs q a.what in
    let le : p ≤ length bs = start_within bs m.token m.start m.end y.last in
    let cs : List ℕ = joined bs p false 0 le in
    let j = makes bs p false 0 le in (
      tail false 0,
      record {
        first = l;
        last = after (length cs) 0;
        begins = stays bs p false cs 0 j l y.some y.upto 0 a;
        shaped = rule_same bs p false cs 0 j q a.what (after (length cs) 0) (closed bs p false cs 0 j refl m refl 0 refl) (omega arith);
        finished = refl;
      },
    )
