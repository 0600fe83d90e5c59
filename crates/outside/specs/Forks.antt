-- A chart that branches: releases 1 and 2 follow 0, and not each other.
use Rattle.std.specs.Prelude.{Bool, ◌&&◌, ◌||◌, ◌==◌, nat_lt}
use Rattle.logic.specs.Charts.{Chart}

-- all three releases carry the number 5, or none does
abbrev pub fork : Bool → Chart
fork carried = record {
  size = 3;
  follows = λ w v. nat_lt v 3 && (v == w || w == 0);
  carries = λ w x. nat_lt w 3 && (x == 5 && carried);
}
