-- What a text is read as: a total function, right by its type.
use Rattle.std.specs.Prelude.{◌≡◌, ℕ, zero, suc, ◌+◌, ◌<◌, ◌≤◌, List, length, refl}
use Rattle.std.proofs.Common.{sym, subst, ⊎_elim, inl, inr, arith}
use Rattle.std.proofs.Math.Decide.{ℕ_discrete, dec_le}
use Rattle.reader.specs.declared.fault.Reason.{Reason}
use Rattle.reader.specs.declared.fault.Reason.TheVariants.{Misplaced, LongName, Deep, Ninth}
use Rattle.reader.specs.declared.lexer.Token.TheVariants.{Open, Close, Comma, If, Name, Long, Finish}
use Rattle.reader.specs.declared.lexer.Lexeme.{Lexeme}
use Rattle.reader.specs.declared.name.Name.{Name as Naming}
use Rattle.reader.specs.Lexemes.{Lexed, Lexes}
use Rattle.reader.specs.LexTotal.{lexed, end_within, token?}
use Rattle.reader.specs.Limits.{rule_bytes, deepest, most_bodies}
use Rattle.reader.specs.Names.{name_at}
use Rattle.reader.specs.Readings.{ReadAs, accepted, refused}
use Rattle.reader.specs.Text.{Follows, IsRule, bare, ruled, Bodies, one, another, IsBody, name, bracket, Stops, Begins, BadRule, no_head, long_head, first, later, BadBody, no_body, long_body, deep, ninth, within, unclosed, Reads, Refused, oversize, bad, extra}
use Rattle.reader.specs.Tree.{Rule, Rules, rule, none, ◌▸◌, count}
use Rattle.reader.specs.Written.{Reading}

-- the text is a rule over the names in it, or it is refused
abbrev pub TextReading : List ℕ → Reading Naming → Type 0
TextReading bs = ReadAs (name_at bs) (Reads bs) (Refused bs)

module _ (bs : List ℕ) where
  -- what should be a rule at the depth d and begins with l: it is one, or it offends
  data RuleFound (d : ℕ) (l : Lexeme) : Type 0 where
    rule_good : (t : Rule) (m : Lexeme) → IsRule bs d l t m → Stops t m.token → Lexed bs m → RuleFound d l
    rule_bad : (r : Reason) (p : ℕ) → BadRule bs d l r p → RuleFound d l

  -- the same of a body after n others
  data BodyFound (d n : ℕ) (l : Lexeme) : Type 0 where
    body_good : (t : Rule) (m : Lexeme) → IsBody bs d l t m → n < most_bodies → Lexed bs m → BodyFound d n l
    body_bad : (r : Reason) (p : ℕ) → BadBody bs d n l r p → BodyFound d n l

  abbrev FindRule : ℕ → Type 0
  FindRule d = (l : Lexeme) → Lexed bs l → RuleFound d l

  abbrev FindBody : ℕ → Type 0
  FindBody d = (n : ℕ) (l : Lexeme) → n ≤ most_bodies → Lexed bs l → BodyFound d n l

  next : (l : Lexeme) → Lexed bs l → (m : Lexeme) × Follows bs l m
  next l i = lexed bs l.end (end_within bs l.token l.start l.end i)

  -- what may stand at the depth d: nothing, or the rules that are found there
  data Below (d : ℕ) : Type 0 where
    too_deep : deepest < d → Below d
    may_stand : d ≤ deepest → FindRule d → Below d

  -- after the rule t in brackets
  shut : (d n : ℕ) (l r c : Lexeme) (t : Rule) → d ≤ deepest → n < most_bodies → l.token ≡ Open → Follows bs l r → IsRule bs d r t c → Stops t c.token → Lexed bs c → BodyFound d n l
  shut d n l r c t le few o f reads_t stops i = elim (token? c.token Close) [
    | yes e ↦ (let m = next c i in body_good t m.0 (bracket le o f reads_t e m.1) few m.1.what)
    | no ne ↦ body_bad Misplaced c.start (unclosed le few o f reads_t stops ne)
  ]

  bracketed : (d n : ℕ) (l r : Lexeme) → d ≤ deepest → n < most_bodies → l.token ≡ Open → Follows bs l r → RuleFound d r → BodyFound d n l
  bracketed d n l r le few o f (rule_good t m reads_t stops i) = shut d n l r m t le few o f reads_t stops i
  bracketed d n l r le few o f (rule_bad x p b) = body_bad x p (within le few o f b)

  -- the limits on a body
  limited : (d n : ℕ) (l : Lexeme) → n ≤ most_bodies → Begins l.token → (d ≤ deepest → n < most_bodies → FindRule d → BodyFound d n l) → Below d → BodyFound d n l
  limited d n l few b go (too_deep lt) = body_bad Deep l.start (deep b lt)
  limited d n l few b go (may_stand le find) = elim (ℕ_discrete n most_bodies) [
    | yes full ↦ body_bad Ninth l.start (subst (λ k. BadBody bs d k l Ninth l.start) (sym full) (ninth b le))
    | no free ↦ go le (omega arith) find
  ]

  find_body : (d : ℕ) → Below d → FindBody d
  find_body d below n l few i = elim (token? l.token Name) [
    | yes e ↦ limited d n l few (inl e) (λ le free _. let m = next l i in body_good (rule l.start none) m.0 (name le e m.1) free m.1.what) below
    | no a ↦ elim (token? l.token Open) [
      | yes e ↦ limited d n l few (inr e) (λ le free find. let r = next l i in bracketed d n l r.0 le free e r.1 (find r.0 r.1.what)) below
      | no b ↦ elim (token? l.token Long) [
        | yes e ↦ body_bad LongName l.start (long_body e)
        | no c ↦ body_bad Misplaced l.start (no_body (⊎_elim a c) b)
      ]
    ]
  ]

  -- a rule with its bodies so far
  record Begun (d : ℕ) (l b : Lexeme) : Type 0 where
    after : Lexeme
    named : l.token ≡ Name
    follows : Follows bs l after
    conditional : after.token ≡ If
    begins : Follows bs after b

  -- what is found after the bodies ts and t, where one more begins with x
  abbrev FindMore : ℕ → Lexeme → Rules → Rule → Lexeme → Type 0
  FindMore d l ts t m = (x : Lexeme) → m.token ≡ Comma → Follows bs m x → (u : Rule) (k : Lexeme) → IsBody bs (suc d) x u k → count (ts ▸ t) < most_bodies → Lexed bs k → RuleFound d l

  found_more : (d : ℕ) (l b x : Lexeme) → Begun d l b → (ts : Rules) (t : Rule) (m : Lexeme) → Bodies bs (suc d) b (ts ▸ t) m → m.token ≡ Comma → Follows bs m x → FindMore d l ts t m → BodyFound (suc d) (count (ts ▸ t)) x → RuleFound d l
  found_more d l b x g ts t m bodies c f go (body_bad r p q) = rule_bad r p (later g.named g.follows g.conditional g.begins bodies c f q)
  found_more d l b x g ts t m bodies c f go (body_good u k q few i) = go x c f u k q few i

  after_body : (d : ℕ) (l b : Lexeme) → FindBody (suc d) → Begun d l b → (ts : Rules) (t : Rule) (m : Lexeme) → Bodies bs (suc d) b (ts ▸ t) m → count (ts ▸ t) ≤ most_bodies → Lexed bs m → FindMore d l ts t m → RuleFound d l
  after_body d l b find g ts t m bodies few i go = elim (token? m.token Comma) [
    | no ne ↦ rule_good (rule l.start (ts ▸ t)) m (ruled g.named g.follows g.conditional g.begins bodies) ne i
    | yes c ↦ (let h = next m i in found_more d l b h.0 g ts t m bodies c h.1 go (find (count (ts ▸ t)) h.0 few h.1.what))
  ]

  -- the rule after its bodies ts and t, where so many more may follow
  find_more : (d left : ℕ) (l b : Lexeme) → FindBody (suc d) → Begun d l b → (ts : Rules) (t : Rule) (m : Lexeme) → Bodies bs (suc d) b (ts ▸ t) m → count (ts ▸ t) + left ≡ most_bodies → Lexed bs m → RuleFound d l
  find_more d zero l b find g ts t m bodies e i = after_body d l b find g ts t m bodies (omega arith) i (λ x c f u k q few j. absurd (omega arith))
  find_more d (suc left) l b find g ts t m bodies e i =
      after_body d l b find g ts t m bodies (omega arith) i (λ x c f u k q few j. find_more d left l b find g (ts ▸ t) u k (another bodies c f few q) (omega arith) j)

  found_first : (d : ℕ) (l b : Lexeme) → FindBody (suc d) → Begun d l b → BodyFound (suc d) 0 b → RuleFound d l
  found_first d l b find g (body_bad r p q) = rule_bad r p (first g.named g.follows g.conditional g.begins q)
  found_first d l b find g (body_good t m q few i) = find_more d 7 l b find g none t m (one q) refl i

  find_rule : (d : ℕ) → FindBody (suc d) → FindRule d
  find_rule d find l i = elim (token? l.token Name) [
    | yes e ↦ (
        let f = next l i in
        elim (token? f.0.token If) [
          | no ne ↦ rule_good (rule l.start none) f.0 (bare e f.1) ne f.1.what
          | yes w ↦ (
              let g = next f.0 f.1.what in
              let begun : Begun d l g.0 = record { after = f.0; named = e; follows = f.1; conditional = w; begins = g.1 } in
              found_first d l g.0 find begun (find 0 g.0 (omega arith) g.1.what))
        ])
    | no a ↦ elim (token? l.token Long) [
      | yes e ↦ rule_bad LongName l.start (long_head e)
      | no b ↦ rule_bad Misplaced l.start (no_head (⊎_elim a b))
    ]
  ]

  -- rules at the depth d, with so many depths left below it
  descend : (left d : ℕ) → d + left ≡ deepest → FindRule d
  descend zero d e = find_rule d (find_body (suc d) (too_deep (omega arith)))
  descend (suc left) d e = find_rule d (find_body (suc d) (may_stand (omega arith) (descend left (suc d) (omega arith))))

  -- a text that is short enough
  whole : (l : Lexeme) → length bs ≤ rule_bytes → Lexes bs 0 l → RuleFound 1 l → (r : Reading Naming) × TextReading bs r
  whole l short i (rule_bad r p b) = (_, refused (bad short i b))
  whole l short i (rule_good t m reads_t stops j) = elim (token? m.token Finish) [
    | yes e ↦ (_, accepted (record { short = short; first = l; last = m; begins = i; reads = reads_t; finished = e }))
    | no ne ↦ (_, refused (extra short i reads_t stops ne))
  ]

-- what a text is read as
pub text_read : (bs : List ℕ) → (r : Reading Naming) × TextReading bs r
text_read bs = elim (dec_le (length bs) rule_bytes) [
  | no long ↦ (_, refused (oversize (omega arith)))
  | yes short ↦ (let l = lexed bs 0 (omega arith) in whole bs l.0 short l.1 (descend bs 15 1 refl l.0 l.1.what))
]

abbrev pub text_reading : List ℕ → Reading Naming
text_reading bs = (text_read bs).0

-- a text is read as one thing only
abbrev pub OneAnswer : Type 0
OneAnswer = (bs : List ℕ) (r : Reading Naming) → TextReading bs r → r ≡ text_reading bs
