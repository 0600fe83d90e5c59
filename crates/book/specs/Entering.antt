-- Entering a rule as written: its keys get their numbers, and it becomes a rule over these numbers.
use Rattle.std.specs.Prelude.{◌≡◌, ℕ, suc, ◌+◌, Bool, cond, List, [], ◌∷◌, ◌++◌, map, length, nat_le}
use Rattle.std.proofs.Math.Option.{Option, some}
use Rattle.logic.specs.Rules.{Rule, Rules, rule, none, more}
use Rattle.keys.specs.Numbering.{number, appear}
use Rattle.reader.specs.Written.{WrittenRule, WrittenBodies, written, no_body, body, Mention}
use Rattle.reader.specs.declared.outline.End.{End}

module _ {K : Type 0} (same : K → K → Bool) where
  -- keys appear one after the other
  abbrev pub all_appear : List K → List (Mention K) → List K
  all_appear ks [] = ks
  all_appear ks (m ∷ ms) = all_appear (appear same ks m.key) ms

  -- the place of the first key for which no number is left, where there are so many numbers
  abbrev pub left_out : ℕ → List K → List (Mention K) → Option ℕ
  left_out room ks [] = Option.none
  left_out room ks (m ∷ ms) =
      cond (nat_le (length (appear same ks m.key)) room) (left_out room (appear same ks m.key) ms) (some m.place)

  -- the rule with its keys' numbers in place of the keys
  abbrev mutual
    pub numbered : List K → WrittenRule K → Rule
    numbered ks (written k p bs) = rule (number same ks k) (all_numbered ks bs)

    pub all_numbered : List K → WrittenBodies K → Rules
    all_numbered ks no_body = none
    all_numbered ks (body w bs) = more (numbered ks w) (all_numbered ks bs)

  -- the numbers of the keys as they are mentioned
  abbrev pub numbers_of : List K → List (Mention K) → List ℕ
  numbers_of ks ms = map (λ (m : Mention K). number same ks m.key) ms

abbrev mutual
  -- the heads of a rule in the order of the text: its own, then those of its bodies
  pub heads : Rule → List ℕ
  heads (rule h bs) = h ∷ all_heads bs

  pub all_heads : Rules → List ℕ
  all_heads none = []
  all_heads (more r rs) = heads r ++ all_heads rs

-- how many bodies there are
abbrev pub many : Rules → ℕ
many none = 0
many (more r rs) = suc (many rs)

abbrev mutual
  -- a rule and the rules in it, in the order in which they end: each with the place of its head among the heads,
  -- which are counted from m on, and with how many bodies it has
  pub endings : ℕ → Rule → List End
  endings m (rule h bs) = all_endings (m + 1) bs ++ record { mention = m; bodies = many bs } ∷ []

  pub all_endings : ℕ → Rules → List End
  all_endings m none = []
  all_endings m (more r rs) = endings m r ++ all_endings (m + length (heads r)) rs

-- the rule r has these heads, and these are the rules in it as they end
pub record LaidOut (r : Rule) (ns : List ℕ) (es : List End) : Type 0 where
  pub heads_are : ns ≡ heads r
  pub endings_are : es ≡ endings 0 r
