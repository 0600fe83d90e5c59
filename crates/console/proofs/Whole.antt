-- Whole lines, piece by piece.
use Rattle.std.proofs.Common.{◌≡◌, ℕ, ◌^◌, ◌<◌, ◌≤◌, List, [], ◌++◌, length, decimal, ◌∙◌, subst, arith, append_assoc, length-append, take_all}
use Rattle.std.proofs.lemmas.Fmt.{length-decimal-le}
use Rattle.console.specs.Limits.{printed_bytes, room}
use Rattle.console.specs.Lines.{bad_line, count_line, yes_line}
use Rattle.console.specs.Texts.{Printed, text, Keeps, Gains}
use Rattle.console.proofs.Hex.{hex_length}

-- one piece behind the other
infixl 60 ◌⨾◌
pub ◌⨾◌ : {p q r : Printed} {bs cs : List ℕ} → Gains p bs q → Gains q cs r → Gains p (bs ++ cs) r
◌⨾◌ {p} {q} {r} {bs} {cs} first second = record {
  keeps = λ whole kept. subst (Keeps r) (append_assoc whole bs cs) (second.keeps (whole ++ bs) (first.keeps whole kept));
}

-- a whole line: where nothing was printed before it, and it fits
pub finished : {p q : Printed} {line : List ℕ} → length line ≤ printed_bytes → Keeps p [] → Gains p line q → text q ≡ line
finished {line} fits bare pieces = pieces.keeps [] bare ∙ take_all printed_bytes line fits

-- a number of the machine has at most twenty digits
digits_fit : (n : ℕ) → n < 2 ^ 64 → length (decimal n) ≤ 20
digits_fit n small = length-decimal-le 20 n (omega arith) (omega arith) small

pub bad_fits : (n p : ℕ) → n < 2 ^ 64 → p < 2 ^ 64 → length (bad_line n p) ≤ printed_bytes
bad_fits n p n_small p_small = simp length-append (omega (arith, digits_fit n n_small, digits_fit p p_small))

pub count_fits : (w : List ℕ) (n : ℕ) → length w ≤ 16 → n < 2 ^ 64 → length (count_line w n) ≤ printed_bytes
count_fits w n short small = simp length-append (omega (arith, digits_fit n small))

pub yes_fits : (n : ℕ) (tree : List ℕ) → n < 2 ^ 64 → length tree ≤ room → length (yes_line n tree) ≤ printed_bytes
yes_fits n tree small short = simp length-append (omega (arith, digits_fit n small, hex_length tree))
