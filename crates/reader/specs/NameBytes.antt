-- Names are the same if they have the same bytes, and the name of a word has the bytes of the word.
use Rattle.std.specs.Prelude.{◌≡◌, ℕ, ◌+◌, ◌-◌, ◌<◌, ◌≤◌, min, true, false, List, ◌++◌, length, take, drop, slice_index, refl}
use Rattle.std.proofs.Common.{sym, ap, subst, ◌∙◌, arith, length-take, length-drop, take_all, replicate}
use Rattle.std.proofs.lemmas.List.{get_or-drop, take_min, drop-replicate}
use Rattle.std.proofs.Math.Bridge.{le_prop}
use Rattle.std.proofs.Math.Nat.{ℕ_set}
use Rattle.std.proofs.Math.Seq.{take-append_seam}
use Rattle.std.proofs.lemmas.List.Sums.{prefix_len_is}
use Rattle.std.proofs.lemmas.Slice.Eq.{bytes_eq-Decides}
use Rattle.reader.specs.declared.name.Name.{Name}
use Rattle.reader.specs.Lexemes.{wordly}
use Rattle.reader.specs.Limits.{name_bytes}
use Rattle.reader.specs.Names.{text, same_name, named, padded, word, NamesSpelt}

same_if : (x y : Name) → text x ≡ text y → same_name x y ≡ true
same_if x y e = (bytes_eq-Decides (text x) (text y)).1 e

if_same : (x y : Name) → same_name x y ≡ true → text x ≡ text y
if_same x y e = (bytes_eq-Decides (text x) (text y)).0 e

pub same_reflexive : (x : Name) → same_name x x ≡ true
same_reflexive x = same_if x x refl

pub same_symmetric : (x y : Name) → same_name x y ≡ true → same_name y x ≡ true
same_symmetric x y e = same_if y x (sym (if_same x y e))

pub same_transitive : (x y z : Name) → same_name x y ≡ true → same_name y z ≡ true → same_name x z ≡ true
same_transitive x y z e f = same_if x z (if_same x y e ∙ if_same y z f)

-- names are equal if their bytes are
pub one_name : (n n' : ℕ) (bs bs' : List ℕ) (h : n ≤ name_bytes) (h' : n' ≤ name_bytes) (w : length bs ≡ name_bytes) (w' : length bs' ≡ name_bytes) → n ≡ n' → bs ≡ bs'
    → ◌≡◌ {A = Name} (record { len = n; bytes = bs; short = h; whole = w }) (record { len = n'; bytes = bs'; short = h'; whole = w' })
one_name n n' bs bs' h h' w w' e f =
    subst (λ m. (short : m ≤ name_bytes) → ◌≡◌ {A = Name} (record { len = n; bytes = bs; short = h; whole = w }) (record { len = m; bytes = bs'; short = short; whole = w' })) e
    (subst (λ cs. (whole : length cs ≡ name_bytes) (short : n ≤ name_bytes) → ◌≡◌ {A = Name} (record { len = n; bytes = bs; short = h; whole = w }) (record { len = n; bytes = cs; short = short; whole = whole })) f
    (λ whole short i. record { len = n; bytes = bs; short = le_prop h short i; whole = ℕ_set (length bs) name_bytes w whole i }) w') h'

-- the first m bytes are written over zeros
pub padded_is : (n m : ℕ) (xs : List ℕ) → m ≡ min (length xs) n → take m xs ++ drop m (replicate n 0) ≡ padded n xs
padded_is n m xs is =
    let front : m ≡ min n (length xs) = omega arith in
    let left : n - m ≡ n - length xs = omega arith in
    ap (λ l. l ++ drop m (replicate n 0)) (ap (λ k. take k xs) front ∙ take_min n xs)
    ∙ ap (λ l. take n xs ++ l) (drop-replicate {X = ℕ} m n 0 ∙ ap (λ k. replicate k 0) left)

-- the first bytes that may stand in a word, as many as can be, are the word
pub word_run : (bs : List ℕ) (n : ℕ) → n ≤ length bs → ((k : ℕ) → k < n → wordly (slice_index bs k) ≡ true) → (n < length bs → wordly (slice_index bs n) ≡ false)
    → take n bs ≡ word bs
word_run bs n within all stops = ap (λ k. take k bs) (sym (prefix_len_is wordly bs n 0 within all stops))

-- a short word is kept whole
text_whole : (xs : List ℕ) → length xs ≤ name_bytes → text (named xs) ≡ xs
text_whole xs le =
    let whole : min (length xs) name_bytes ≡ length xs = omega arith in
    ap (λ n. take n (padded name_bytes xs)) whole
    ∙ ap (λ l. take (length xs) (l ++ replicate (name_bytes - length xs) 0)) (take_all name_bytes xs le)
    ∙ take-append_seam xs (replicate (name_bytes - length xs) 0)

pub names_spelt : NamesSpelt
names_spelt bs p e i =
    let w = i.0 in
    let there : p + (e - p) ≡ e = omega (arith, w.some) in
    let long : length (drop p bs) ≡ length bs - p = length-drop p bs in
    let spelt : take (e - p) (drop p bs) ≡ word (drop p bs) =
    word_run (drop p bs) (e - p) (omega (arith, long, w.within))
    (λ k lt. ap wordly (get_or-drop p bs k 0) ∙ w.all (p + k) (omega arith) (omega arith))
    (λ lt. ap wordly (get_or-drop p bs (e - p) 0) ∙ subst (λ k. wordly (slice_index bs k) ≡ false) (sym there) (w.stops (omega (arith, long)))) in
    let short : length (word (drop p bs)) ≤ name_bytes = subst (λ l. length l ≤ name_bytes) spelt (omega (arith, length-take (e - p) (drop p bs), i.1)) in
    text_whole (word (drop p bs)) short ∙ sym spelt
