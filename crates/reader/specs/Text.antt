-- The grammar of the text form, over its words and marks.
use Rattle.std.specs.Prelude.{◌≡◌, ℕ, suc, ◌<◌, ◌≤◌, ◌⊎◌, List, length, ◌≢◌}
use Rattle.reader.specs.declared.fault.Reason.{Reason}
use Rattle.reader.specs.declared.fault.Reason.TheVariants.{Oversize, Misplaced, LongName, Deep, Ninth}
use Rattle.reader.specs.declared.lexer.Token.{Token}
use Rattle.reader.specs.declared.lexer.Token.TheVariants.{Open, Close, Comma, If, Name, Long, Finish}
use Rattle.reader.specs.declared.lexer.Lexeme.{Lexeme}
use Rattle.reader.specs.declared.outline.Outline.{Outline}
use Rattle.reader.specs.Lexemes.{Lexes}
use Rattle.reader.specs.Limits.{rule_bytes, deepest, most_bodies}
use Rattle.reader.specs.Outlines.{Outlines}
use Rattle.reader.specs.Tree.{Rule, Rules, rule, none, ◌▸◌, count}

-- m is the word or mark next after l
abbrev pub Follows : List ℕ → Lexeme → Lexeme → Type 0
Follows bs l m = Lexes bs l.end m

mutual
  -- a rule at the depth d begins with l, and m follows it: a name, or a name, `if`, and bodies
  pub data IsRule (bs : List ℕ) : ℕ → Lexeme → Rule → Lexeme → Type 0 where
    bare : {d : ℕ} {l m : Lexeme} → l.token ≡ Name → Follows bs l m → IsRule bs d l (rule l.start none) m
    ruled : {d : ℕ} {l i b m : Lexeme} {ts : Rules} → l.token ≡ Name → Follows bs l i → i.token ≡ If → Follows bs i b → Bodies bs (suc d) b ts m → IsRule bs d l (rule l.start ts) m

  -- bodies, one at least and eight at most, at the depth d begin with l, with commas between them, and m follows them
  pub data Bodies (bs : List ℕ) : ℕ → Lexeme → Rules → Lexeme → Type 0 where
    one : {d : ℕ} {l m : Lexeme} {t : Rule} → IsBody bs d l t m → Bodies bs d l (none ▸ t) m
    another : {d : ℕ} {l c b m : Lexeme} {ts : Rules} {t : Rule} → Bodies bs d l ts c → c.token ≡ Comma → Follows bs c b → count ts < most_bodies → IsBody bs d b t m → Bodies bs d l (ts ▸ t) m

  -- a body at the depth d begins with l, and m follows it: a name, or a rule in brackets
  pub data IsBody (bs : List ℕ) : ℕ → Lexeme → Rule → Lexeme → Type 0 where
    name : {d : ℕ} {l m : Lexeme} → d ≤ deepest → l.token ≡ Name → Follows bs l m → IsBody bs d l (rule l.start none) m
    bracket : {d : ℕ} {l r c m : Lexeme} {t : Rule} → d ≤ deepest → l.token ≡ Open → Follows bs l r → IsRule bs d r t c → c.token ≡ Close → Follows bs c m → IsBody bs d l t m

-- the rule t does not go on with this word or mark
abbrev pub Stops : Rule → Token → Type 0
Stops (rule p none) k = k ≡ If → ⊥
Stops (rule p (ts ▸ t)) k = k ≡ Comma → ⊥

-- a name begins with this word
abbrev pub Names : Token → Type 0
Names k = (k ≡ Name) ⊎ (k ≡ Long)

-- a body begins with this word or mark
abbrev pub Begins : Token → Type 0
Begins k = (k ≡ Name) ⊎ (k ≡ Open)

mutual
  -- the earliest offence of what should be a rule at the depth d and begins with l: its reason and its place
  pub data BadRule (bs : List ℕ) : ℕ → Lexeme → Reason → ℕ → Type 0 where
    no_head : {d : ℕ} {l : Lexeme} → (Names l.token → ⊥) → BadRule bs d l Misplaced l.start
    long_head : {d : ℕ} {l : Lexeme} → l.token ≡ Long → BadRule bs d l LongName l.start
    first : {d p : ℕ} {l i b : Lexeme} {r : Reason} → l.token ≡ Name → Follows bs l i → i.token ≡ If → Follows bs i b → BadBody bs (suc d) 0 b r p → BadRule bs d l r p
    later : {d p : ℕ} {l i b c e : Lexeme} {ts : Rules} {r : Reason} → l.token ≡ Name → Follows bs l i → i.token ≡ If → Follows bs i b → Bodies bs (suc d) b ts c → c.token ≡ Comma → Follows bs c e → BadBody bs (suc d) (count ts) e r p → BadRule bs d l r p

  -- the same of what should be a body at the depth d after n others
  pub data BadBody (bs : List ℕ) : ℕ → ℕ → Lexeme → Reason → ℕ → Type 0 where
    no_body : {d n : ℕ} {l : Lexeme} → (Names l.token → ⊥) → (l.token ≢ Open) → BadBody bs d n l Misplaced l.start
    long_body : {d n : ℕ} {l : Lexeme} → l.token ≡ Long → BadBody bs d n l LongName l.start
    deep : {d n : ℕ} {l : Lexeme} → Begins l.token → deepest < d → BadBody bs d n l Deep l.start
    ninth : {d : ℕ} {l : Lexeme} → Begins l.token → d ≤ deepest → BadBody bs d most_bodies l Ninth l.start
    within : {d n p : ℕ} {l i : Lexeme} {r : Reason} → d ≤ deepest → n < most_bodies → l.token ≡ Open → Follows bs l i → BadRule bs d i r p → BadBody bs d n l r p
    unclosed : {d n : ℕ} {l i c : Lexeme} {t : Rule} → d ≤ deepest → n < most_bodies → l.token ≡ Open → Follows bs l i → IsRule bs d i t c → Stops t c.token → (c.token ≢ Close) → BadBody bs d n l Misplaced c.start

-- the text is read as the rule t
pub record Reads (bs : List ℕ) (t : Rule) : Type 0 where
  pub short : length bs ≤ rule_bytes
  pub first : Lexeme
  pub last : Lexeme
  pub begins : Lexes bs 0 first
  pub reads : IsRule bs 1 first t last
  pub finished : last.token ≡ Finish

-- the text is read as the rule that has this outline
abbrev pub ReadsAs : List ℕ → Outline → Type 0
ReadsAs bs o = (t : Rule) × Reads bs t × Outlines t o

-- why a text is refused, and where
pub data Refused (bs : List ℕ) : Reason → ℕ → Type 0 where
  oversize : rule_bytes < length bs → Refused bs Oversize rule_bytes
  bad : {l : Lexeme} {r : Reason} {p : ℕ} → length bs ≤ rule_bytes → Lexes bs 0 l → BadRule bs 1 l r p → Refused bs r p
  extra : {l m : Lexeme} {t : Rule} → length bs ≤ rule_bytes → Lexes bs 0 l → IsRule bs 1 l t m → Stops t m.token → (m.token ≢ Finish) → Refused bs Misplaced m.start

-- at most one reading
abbrev pub OneReading : Type 0
OneReading = (bs : List ℕ) (t t' : Rule) → Reads bs t → Reads bs t' → t ≡ t'

-- at most one refusal: one reason, at one place
abbrev pub OneRefusal : Type 0
OneRefusal = (bs : List ℕ) (r r' : Reason) (p p' : ℕ) → Refused bs r p → Refused bs r' p' → (r ≡ r') × (p ≡ p')

-- no text is both read and refused
abbrev pub NeverBoth : Type 0
NeverBoth = (bs : List ℕ) (t : Rule) (r : Reason) (p : ℕ) → Reads bs t → Refused bs r p → ⊥
