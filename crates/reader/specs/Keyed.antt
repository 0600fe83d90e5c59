-- A rule over places as a rule over the keys that stand there.
use Rattle.std.specs.Prelude.{ℕ}
use Rattle.reader.specs.Tree.{Rule, Rules, rule, none, ◌▸◌}
use Rattle.reader.specs.Written.{WrittenRule, WrittenBodies, written, no_body, body}

module _ {K : Type 0} (key : ℕ → K) where
  abbrev mutual
    pub keyed : Rule → WrittenRule K
    keyed (rule p ts) = written (key p) p (keyed_all ts no_body)

    -- the bodies ts, and others behind them
    pub keyed_all : Rules → WrittenBodies K → WrittenBodies K
    keyed_all none ws = ws
    keyed_all (ts ▸ t) ws = keyed_all ts (body (keyed t) ws)
