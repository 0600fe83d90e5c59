-- Each head of a text is a name.
use Rattle.std.proofs.Common.{◌≡◌, ℕ, List, [], subst}
use Rattle.std.specs.List.{All}
use Rattle.std.proofs.lemmas.List.Elements.{All-nil, All-cons, All-append}
use Rattle.reader.specs.declared.lexer.Token.TheVariants.{Name}
use Rattle.reader.specs.declared.lexer.Lexeme.{Lexeme}
use Rattle.reader.specs.Tree.{Rule, Rules, places, places_all}
use Rattle.reader.specs.Lexemes.{Is, Lexed}
use Rattle.reader.specs.Text as text
use Rattle.reader.specs.Text.{bare, ruled, one, name, bracket}
use Rattle.reader.specs.Names.{Named, HeadsNamed}

named_at : (bs : List ℕ) (l : Lexeme) → l.token ≡ Name → Lexed bs l → Named bs l.start
named_at bs l e i = (l.end, subst (λ k. Is bs k l.start l.end) e i)

mutual
  rule_named : {bs : List ℕ} {d : ℕ} {l m : Lexeme} {t : Rule} → text.IsRule bs d l t m → Lexed bs l → All (Named bs) (places t)
  rule_named {bs} {l = l} (bare n f) i = All-cons (Named bs) l.start [] (named_at bs l n i) (All-nil (Named bs))
  rule_named {bs} {l = l} (ruled n f w g b) i = All-cons (Named bs) _ _ (named_at bs l n i) (bodies_named b g.what)

  bodies_named : {bs : List ℕ} {d : ℕ} {l m : Lexeme} {ts : Rules} → text.Bodies bs d l ts m → Lexed bs l → All (Named bs) (places_all ts)
  bodies_named (one b) i = body_named b i
  bodies_named {bs} (text.another {ts = ts} {t = t} bodies c f few b) i = All-append (Named bs) (places_all ts) (places t) (bodies_named bodies i) (body_named b f.what)

  body_named : {bs : List ℕ} {d : ℕ} {l m : Lexeme} {t : Rule} → text.IsBody bs d l t m → Lexed bs l → All (Named bs) (places t)
  body_named {bs} {l = l} (name le n f) i = All-cons (Named bs) l.start [] (named_at bs l n i) (All-nil (Named bs))
  body_named (bracket le o f r c g) i = rule_named r f.what

pub heads_named : HeadsNamed
heads_named bs t r = rule_named r.reads r.begins.what
