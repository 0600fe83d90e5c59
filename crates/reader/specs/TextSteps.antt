-- What the text reader's functions do to its outline.
use Rattle.std.specs.Prelude.{◌≡◌, ℕ, ◌+◌, ◌*◌, ◌≤◌, List, [], ◌∷◌, ◌++◌}
use Rattle.reader.specs.declared.lexer.Token.TheVariants.{Name}
use Rattle.reader.specs.declared.text.TextReader.{TextReader}
use Rattle.reader.specs.declared.outline.Outline.{Outline}
use Rattle.reader.specs.Outlines.{mentions, ended}
use Rattle.reader.specs.Text.{Follows, IsRule, IsBody, Stops}
use Rattle.reader.specs.Tree.{Rule, Rules, size, size_all, places, places_all, ends, ends_all}

abbrev pub input : TextReader → List ℕ
input r = r.bytes.now

-- the outline o with a rule added
pub record Adds (t : Rule) (o o' : Outline) : Type 0 where
  pub mentioned : o'.mentioned ≡ o.mentioned + size t
  pub closed : o'.ended ≡ o.ended + size t
  pub heads : mentions o' ≡ mentions o ++ places t
  pub rules : ended o' ≡ ended o ++ ends o.mentioned t

-- the outline o with bodies added
pub record AddsAll (ts : Rules) (o o' : Outline) : Type 0 where
  pub mentioned : o'.mentioned ≡ o.mentioned + size_all ts
  pub closed : o'.ended ≡ o.ended + size_all ts
  pub heads : mentions o' ≡ mentions o ++ places_all ts
  pub rules : ended o' ≡ ended o ++ ends_all o.mentioned ts

-- a head may stand next
abbrev pub Fresh : TextReader → Type 0
Fresh r = 2 * r.outline.mentioned ≤ r.next.start

-- the reader has gone on by one word or mark
pub record Advanced (r r' : TextReader) : Type 0 where
  pub same : input r' ≡ input r
  pub outline : r'.outline ≡ r.outline
  pub next : Follows (input r) r.next r'.next

-- a rule at the depth d was read
pub record ReadRule (d : ℕ) (r r' : TextReader) : Type 0 where
  pub same : input r' ≡ input r
  pub tree : Rule
  pub reads : IsRule (input r) d r.next tree r'.next
  pub stops : Stops tree r'.next.token
  pub adds : Adds tree r.outline r'.outline
  pub few : 2 * r'.outline.mentioned ≤ r'.next.start + 1

-- a body at the depth d was read
pub record ReadBody (d : ℕ) (r r' : TextReader) : Type 0 where
  pub same : input r' ≡ input r
  pub tree : Rule
  pub reads : IsBody (input r) d r.next tree r'.next
  pub adds : Adds tree r.outline r'.outline
  pub few : 2 * r'.outline.mentioned ≤ r'.next.start + 1

-- a head was read, and got the number n
pub record ReadHead (n : ℕ) (r r' : TextReader) : Type 0 where
  pub same : input r' ≡ input r
  pub named : r.next.token ≡ Name
  pub follows : Follows (input r) r.next r'.next
  pub number : n ≡ r.outline.mentioned
  pub mentioned : r'.outline.mentioned ≡ r.outline.mentioned + 1
  pub closed : r'.outline.ended ≡ r.outline.ended
  pub heads : mentions r'.outline ≡ mentions r.outline ++ r.next.start ∷ []
  pub rules : ended r'.outline ≡ ended r.outline
