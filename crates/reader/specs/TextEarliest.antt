-- What could still become a rule: the text form with no limit on depth and bodies.
use Rattle.std.specs.Prelude.{◌≡◌, ℕ, List, ◌++◌, take, ◌≢◌}
use Rattle.reader.specs.declared.fault.Reason.{Reason}
use Rattle.reader.specs.declared.fault.Reason.TheVariants.{Oversize}
use Rattle.reader.specs.declared.lexer.Token.TheVariants.{Open, Close, Comma, If, Name, Finish}
use Rattle.reader.specs.declared.lexer.Lexeme.{Lexeme}
use Rattle.reader.specs.Lexemes.{Lexes}
use Rattle.reader.specs.Text.{Follows, Refused}

mutual
  -- a rule begins with l, and m follows it
  pub data Shaped (bs : List ℕ) : Lexeme → Lexeme → Type 0 where
    fact : {l m : Lexeme} → l.token ≡ Name → Follows bs l m → Shaped bs l m
    conditional : {l i b m : Lexeme} → l.token ≡ Name → Follows bs l i → i.token ≡ If → Follows bs i b → ShapedBodies bs b m → Shaped bs l m

  -- bodies begin with l, and m follows them
  pub data ShapedBodies (bs : List ℕ) : Lexeme → Lexeme → Type 0 where
    single : {l m : Lexeme} → ShapedBody bs l m → ShapedBodies bs l m
    further : {l c b m : Lexeme} → ShapedBodies bs l c → c.token ≡ Comma → Follows bs c b → ShapedBody bs b m → ShapedBodies bs l m

  -- a body begins with l, and m follows it
  pub data ShapedBody (bs : List ℕ) : Lexeme → Lexeme → Type 0 where
    named : {l m : Lexeme} → l.token ≡ Name → Follows bs l m → ShapedBody bs l m
    bracketed : {l r c m : Lexeme} → l.token ≡ Open → Follows bs l r → Shaped bs r c → c.token ≡ Close → Follows bs c m → ShapedBody bs l m

-- the text is a rule, of any length, with any depth and any number of bodies
pub record Shape (bs : List ℕ) : Type 0 where
  pub first : Lexeme
  pub last : Lexeme
  pub begins : Lexes bs 0 first
  pub shaped : Shaped bs first last
  pub finished : last.token ≡ Finish

-- a refusal is at the earliest place: what stands before it could still become a rule, the limits aside
abbrev pub Earliest : Type 0
Earliest = (bs : List ℕ) (r : Reason) (p : ℕ) → Refused bs r p → (r ≢ Oversize) → (rest : List ℕ) × Shape (take p bs ++ rest)
