-- The library's hexadecimal is the console's.
use Rattle.std.proofs.Common.{◌≡◌, ℕ, ◌*◌, ◌/◌, ◌%◌, ◌<◌, suc, false, List, [], ◌∷◌, length, get_or, map, refl, ap, ap₂, ◌∙◌, arith, w8, Fits}
use Rattle.std.specs.List.{range_with_len}
use Rattle.std.specs.Fmt.{digit_glyph}
use Rattle.std.proofs.lemmas.List.FromFn.{get_or-map-range_with_len}
use Rattle.hex.specs.Hex.{encode_with, encode_lower, lower_digits}
use Rattle.console.specs.Texts.{hex_all}

-- each byte has two digits
pub hex_length : (bs : List ℕ) → length (hex_all bs) ≡ 2 * length bs
hex_length [] = refl
hex_length (b ∷ bs) = let rest = hex_length bs in omega arith

-- the library's table of digits
table : lower_digits ≡ map (digit_glyph false) (range_with_len 0 16)
table = refl

glyph : (d : ℕ) → d < 16 → get_or lower_digits d 0 ≡ digit_glyph false d
glyph d small = ap (λ t. get_or t d 0) table ∙ get_or-map-range_with_len (digit_glyph false) 0 16 d d 0 small (omega arith)

pub hex_same : (bs : List ℕ) → ((i : ℕ) → Fits w8 (get_or bs i 0)) → encode_lower bs ≡ hex_all bs
unfolding encode_with
hex_same [] bytes = refl
hex_same (b ∷ bs) bytes =
    let small = bytes 0 in
    ap₂ (λ d (ds : List ℕ). d ∷ ds) (glyph (b / 16) (omega arith))
    (ap₂ (λ d (ds : List ℕ). d ∷ ds) (glyph (b % 16) (omega arith)) (hex_same bs (λ i. bytes (suc i))))
