-- What holds of each element of two lists put together holds of each of the first, and of each of the second.
use Rattle.std.proofs.Common.{List, ◌++◌, length, sym}
use lib.Seq.{take-append_seam, drop-append_seam}
use Rattle.std.specs.List.{All}
use Rattle.std.proofs.lemmas.List.Elements.{All-same, All-take, All-drop}

module _ {X : Type 0} (P : X → Type 0) (xs ys : List X) where
  pub all_left : All P (xs ++ ys) → All P xs
  all_left h = All-same P xs _ (sym (take-append_seam xs ys)) (All-take P (length xs) (xs ++ ys) h)

  pub all_right : All P (xs ++ ys) → All P ys
  all_right h = All-same P ys _ (sym (drop-append_seam xs ys)) (All-drop P (length xs) (xs ++ ys) h)
