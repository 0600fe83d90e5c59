-- Where the heads of a rule in codes stand.
use Rattle.std.proofs.Common.{ℕ, ◌<◌, ◌≤◌, List, arith}
use Rattle.std.specs.List.{All}
use Rattle.std.proofs.lemmas.List.Elements.{All-nil, All-cons, All-append}
use Rattle.reader.specs.Codes.{IsRule, coded, Bodies, nothing, another}
use Rattle.reader.specs.FeatureCodes.{Whole, HeadsWhole}
use Rattle.reader.specs.Tree.{Rule, Rules, places, places_all}

-- bodies end where they begin or later
mutual
  pub rule_on : {bs : List ℕ} {d i j : ℕ} {t : Rule} → IsRule bs d i t j → i < j
  rule_on (coded le a b c) = let on = bodies_on b in omega arith

  pub bodies_on : {bs : List ℕ} {d i j : ℕ} {ts : Rules} → Bodies bs d i ts j → i ≤ j
  bodies_on nothing = omega arith
  bodies_on (another b few r) = let x = bodies_on b in let y = rule_on r in omega arith

mutual
  rule_whole : {bs : List ℕ} {d i j : ℕ} {t : Rule} → IsRule bs d i t j → All (Whole bs) (places t)
  rule_whole {bs} (coded le a b c) = let on = bodies_on b in All-cons (Whole bs) _ _ (omega (arith, c.0)) (bodies_whole b)

  bodies_whole : {bs : List ℕ} {d i j : ℕ} {ts : Rules} → Bodies bs d i ts j → All (Whole bs) (places_all ts)
  bodies_whole nothing = All-nil _
  bodies_whole {bs} (another {ts = ts} {t = t} b few r) = All-append (Whole bs) (places_all ts) (places t) (bodies_whole b) (rule_whole r)

pub heads_whole : HeadsWhole
heads_whole bs t r = rule_whole r.reads
