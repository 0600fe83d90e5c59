-- The charts that the three makes stand for.
use Rattle.std.specs.Prelude.{ℕ, cond, ◌&&◌, List, ◌==◌, nat_lt, slice_index}
use Rattle.keys.specs.Limits.{most_names}
use Rattle.logic.specs.Charts.{Chart, line}
use Rattle.charts.specs.Bits.{bit}

-- one release, which carries the numbers whose bits are set
abbrev pub single : ℕ → Chart
single names = record {
  size = 1;
  follows = λ w v. (v == 0) && (w == 0);
  carries = λ w x. (w == 0) && bit names x;
}

-- a line of n releases: first[x] is the first that carries x
abbrev pub lined : ℕ → List ℕ → Chart
lined n first = line n (λ x. cond (nat_lt x most_names) (slice_index first x) n)

-- n releases: bit v of word w of `followers` says that v follows w, and bit x of word w of `names` that w carries x
abbrev pub charted : ℕ → List ℕ → List ℕ → Chart
charted n followers names = record {
  size = n;
  follows = λ w v. nat_lt v n && (nat_lt w n && bit (slice_index followers w) v);
  carries = λ w x. nat_lt w n && bit (slice_index names w) x;
}
