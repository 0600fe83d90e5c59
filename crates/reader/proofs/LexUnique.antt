-- At each place of a text there is one next word or mark.
use Rattle.std.proofs.Common.{◌≡◌, ℕ, ◌+◌, ◌<◌, ◌≤◌, Bool, true, false, cond, eqb, ltb, List, length, get_or, sym, refl, ap, ◌∙◌, subst, ⊎_elim, arith, le-ltb, lt-ltb, eq-eqb, ne_eqb, eqb-true}
use lib.ListN.{get_or-eq_default}
use borrow.Author.Tests.{both_ways}
use Rattle.std.proofs.str.Laws.{order}
use Rattle.reader.specs.declared.lexer.Token.{Token}
use Rattle.reader.specs.declared.lexer.Token.TheVariants.{Open, Close, Comma, If, Name, Long, Stray, Finish}
use Rattle.reader.specs.declared.lexer.Lexeme.{Lexeme}
use Rattle.reader.specs.Lexemes.{letter, wordly, Word, SpellsIf, Is, Lexes}
use Rattle.reader.specs.Limits.{name_bytes}
use Rattle.reader.proofs.TextLemmas.{start_within}

module _ (bs : List ℕ) (s : ℕ) where
  abbrev byte : ℕ
  byte = get_or bs s 0

  -- a byte that is no letter begins no word
  no_word : (c : ℕ) → letter c ≡ false → byte ≡ c → letter byte ≡ true → ⊥
  no_word c l e t = both_ways (letter byte) (ap letter e ∙ l) t

  -- no space begins a word or mark
  no_space : (k : Token) (e : ℕ) → Is bs k s e → s < length bs → byte ≡ 32 → ⊥
  no_space Open e i lt is = omega (arith, i.0.1)
  no_space Close e i lt is = omega (arith, i.0.1)
  no_space Comma e i lt is = omega (arith, i.0.1)
  no_space If e i lt is = no_word 32 refl is i.0.first
  no_space Name e i lt is = no_word 32 refl is i.0.first
  no_space Long e i lt is = no_word 32 refl is i.0.first
  no_space Stray e i lt is = i.0.no_space is
  no_space Finish e i lt is = omega (arith, i.0)

  -- what begins with a letter is a word
  is_word : (k : Token) (e : ℕ) → Is bs k s e → letter byte ≡ true → Word bs s e
  is_word Open e i l = absurd (no_word 40 refl i.0.1 l)
  is_word Close e i l = absurd (no_word 41 refl i.0.1 l)
  is_word Comma e i l = absurd (no_word 44 refl i.0.1 l)
  is_word If e i l = i.0
  is_word Name e i l = i.0
  is_word Long e i l = i.0
  is_word Stray e i l = absurd (both_ways (letter byte) i.0.no_letter l)
  is_word Finish e i l = let past : length bs ≤ s = omega (arith, i.0) in absurd (no_word 0 refl (get_or-eq_default bs 0 past) l)

  shorter : (e e' : ℕ) → Word bs s e → Word bs s e' → e < e' → ⊥
  shorter e e' w w' lt = both_ways (wordly (get_or bs e 0)) (w.stops (omega (arith, w'.within))) (w'.all e (omega (arith, w.some)) lt)

  word_end_one : (e e' : ℕ) → Word bs s e → Word bs s e' → e ≡ e'
  word_end_one e e' w w' =
      ⊎_elim (λ lt. absurd (shorter e e' w w' lt)) (λ ge. ⊎_elim (λ gt. absurd (shorter e' e w' w gt)) (λ le. omega arith) (order e' e)) (order e e')

  -- where a word or mark of one kind ends
  end_one : (k : Token) (e e' : ℕ) → Is bs k s e → Is bs k s e' → e ≡ e'
  end_one Open e e' i j = i.1 ∙ sym j.1
  end_one Close e e' i j = i.1 ∙ sym j.1
  end_one Comma e e' i j = i.1 ∙ sym j.1
  end_one If e e' i j = word_end_one e e' i.0 j.0
  end_one Name e e' i j = word_end_one e e' i.0 j.0
  end_one Long e e' i j = word_end_one e e' i.0 j.0
  end_one Stray e e' i j = i.1 ∙ sym j.1
  end_one Finish e e' i j = i.1 ∙ sym j.1

  -- the kind, as a function of the bytes
  abbrev spells : ℕ → Bool
  spells e = cond (eqb e (s + 2)) (cond (eqb byte 105) (eqb (get_or bs (s + 1) 0) 102) false) false

  abbrev kind_of : ℕ → Token
  kind_of e = cond (ltb s (length bs)) (cond (letter byte) (cond (ltb (s + name_bytes) e) Long (cond (spells e) If Name)) (cond (eqb byte 40) Open (cond (eqb byte 41) Close (cond (eqb byte 44) Comma Stray)))) Finish

  spells_no : (e : ℕ) → (SpellsIf bs s e → ⊥) → spells e ≡ false
  spells_no e no_if = go (eqb e (s + 2)) (eqb byte 105) (eqb (get_or bs (s + 1) 0) 102) refl refl refl
    where
      go : (x y z : Bool) → eqb e (s + 2) ≡ x → eqb byte 105 ≡ y → eqb (get_or bs (s + 1) 0) 102 ≡ z → cond x (cond y z false) false ≡ false
      go false y z p q r = refl
      go true false z p q r = refl
      go true true false p q r = refl
      go true true true p q r = absurd (no_if (eqb-true _ _ p, eqb-true _ _ q, eqb-true _ _ r))

  kind_is : (k : Token) (e : ℕ) → Is bs k s e → kind_of e ≡ k
  kind_is Open e i = rw (lt-ltb s (length bs) i.0.0, i.0.1)
  kind_is Close e i = rw (lt-ltb s (length bs) i.0.0, i.0.1)
  kind_is Comma e i = rw (lt-ltb s (length bs) i.0.0, i.0.1)
  kind_is If e i =
      let w = i.0 in
      let lt : s < length bs = omega (arith, w.some, w.within) in
      let short : e ≤ s + name_bytes = omega (arith, i.1.0) in
      rw (lt-ltb s (length bs) lt, w.first, le-ltb (s + name_bytes) e short, eq-eqb e (s + 2) i.1.0, eq-eqb byte 105 i.1.1, eq-eqb _ 102 i.1.2)
  kind_is Name e i =
      let w = i.0 in
      let lt : s < length bs = omega (arith, w.some, w.within) in
      rw (lt-ltb s (length bs) lt, w.first, le-ltb (s + name_bytes) e i.1, spells_no e i.2)
  kind_is Long e i =
      let w = i.0 in
      let lt : s < length bs = omega (arith, w.some, w.within) in
      rw (lt-ltb s (length bs) lt, w.first, lt-ltb (s + name_bytes) e i.1)
  kind_is Stray e i =
      let u = i.0 in
      rw (lt-ltb s (length bs) u.within, u.no_letter, ne_eqb byte 40 u.no_open, ne_eqb byte 41 u.no_close, ne_eqb byte 44 u.no_comma)
  kind_is Finish e i = let past : length bs ≤ s = omega (arith, i.0) in rw (le-ltb s (length bs) past)

  kind_one : (k k' : Token) (e e' : ℕ) → Is bs k s e → Is bs k' s e' → k ≡ k'
  kind_one k k' e e' i j = sym (kind_is k e i) ∙ go (letter byte) refl ∙ kind_is k' e' j
    where
      go : (b : Bool) → letter byte ≡ b → kind_of e ≡ kind_of e'
      go true l = ap kind_of (word_end_one e e' (is_word k e i l) (is_word k' e' j l))
      go false l = rw l

-- the next word or mark begins at one place
starts_not_before : (bs : List ℕ) (i : ℕ) (l m : Lexeme) → Lexes bs i l → Lexes bs i m → l.start < m.start → ⊥
starts_not_before bs i l m a b lt =
    let le = start_within bs m.token m.start m.end b.what in
    no_space bs l.start l.token l.end a.what (omega arith) (b.spaces l.start a.from lt)

start_one : (bs : List ℕ) (i : ℕ) (l m : Lexeme) → Lexes bs i l → Lexes bs i m → l.start ≡ m.start
start_one bs i l m a b =
    ⊎_elim (λ lt. absurd (starts_not_before bs i l m a b lt)) (λ ge. ⊎_elim (λ gt. absurd (starts_not_before bs i m l b a gt)) (λ le. omega arith) (order m.start l.start)) (order l.start m.start)

pub lexeme_one : (bs : List ℕ) (i : ℕ) (l m : Lexeme) → Lexes bs i l → Lexes bs i m → l ≡ m
lexeme_one bs i l m a b =
    let starts = start_one bs i l m a b in
    let there : Is bs m.token l.start m.end = subst (λ s. Is bs m.token s m.end) (sym starts) b.what in
    let kinds : l.token ≡ m.token = kind_one bs l.start l.token m.token l.end m.end a.what there in
    let ends : l.end ≡ m.end = end_one bs l.start l.token l.end m.end a.what (subst (λ k. Is bs k l.start m.end) (sym kinds) there) in
    λ j. record { token = kinds j; start = starts j; end = ends j }
