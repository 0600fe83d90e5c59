-- Records behind the others, and records cut off.
use Rattle.std.proofs.Common.{◌≡◌, ℕ, ◌+◌, ◌<◌, ◌≤◌, List, [], ◌∷◌, ◌++◌, map, length, get_or, take, set, sym, ap, ◌∙◌, arith, length-take}
use lib.ListN.{length-map}
use Rattle.std.proofs.lemmas.List.{take_more_set, take-map, take-take, map_push, get_or_append_left, get_or_push, get_or-take, get_or_past, get_or-map}
use Rattle.logic.specs.Rules as rules
use Rattle.logic.specs.Rules.{head_of, bodies_of, blank}
use Rattle.book.specs.Records.{stored, record_of}
use Rattle.book.specs.declared.record.Record.{Record}

pub length_stored : (n : ℕ) (rs : List Record) → n ≤ length rs → length (stored n rs) ≡ n
length_stored n rs h = simp (length-map, length-take) (omega arith)

pub stored_push : (n : ℕ) (rs : List Record) (x : Record) → n < length rs → stored (n + 1) (set rs n x) ≡ stored n rs ++ record_of x ∷ []
stored_push n rs x h = ap (map record_of) (take_more_set rs n x h) ∙ map_push record_of (take n rs) x

pub stored_cut : (m n : ℕ) (rs : List Record) → m ≤ n → stored m rs ≡ take m (stored n rs)
stored_cut m n rs h = ap (map record_of) (sym (take-take m n rs h)) ∙ sym (take-map record_of m (take n rs))

-- record r of the first n
pub stored_at : (n r : ℕ) (rs : List Record) (d : Record) → r < n → r < length rs → get_or (stored n rs) r blank ≡ record_of (get_or rs r d)
stored_at n r rs d h l =
    get_or-map record_of (take n rs) r d blank (simp length-take (omega arith)) ∙ ap record_of (get_or-take n rs r d h)

-- ---- a book with one more record

pub head_before : (book : rules.Book) (x : rules.Record) (r : ℕ) → r < length book → head_of (book ++ x ∷ []) r ≡ head_of book r
unfolding head_of
head_before book x r h = ap (λ (e : rules.Record). e.head) (get_or_append_left book (x ∷ []) blank r h)

pub head_last : (book : rules.Book) (x : rules.Record) (r : ℕ) → length book ≡ r → head_of (book ++ x ∷ []) r ≡ x.head
unfolding head_of
head_last book x r h = ap (λ (e : rules.Record). e.head) (get_or_push book x blank r h)

pub bodies_before : (book : rules.Book) (x : rules.Record) (r : ℕ) → r < length book → bodies_of (book ++ x ∷ []) r ≡ bodies_of book r
unfolding bodies_of
bodies_before book x r h = ap (λ (e : rules.Record). e.bodies) (get_or_append_left book (x ∷ []) blank r h)

pub bodies_last : (book : rules.Book) (x : rules.Record) (r : ℕ) → length book ≡ r → bodies_of (book ++ x ∷ []) r ≡ x.bodies
unfolding bodies_of
bodies_last book x r h = ap (λ (e : rules.Record). e.bodies) (get_or_push book x blank r h)

-- ---- a book cut back

pub head_cut : (n : ℕ) (book : rules.Book) (r : ℕ) → r < n → head_of (take n book) r ≡ head_of book r
unfolding head_of
head_cut n book r h = ap (λ (e : rules.Record). e.head) (get_or-take n book r blank h)

pub bodies_cut : (n : ℕ) (book : rules.Book) (r : ℕ) → r < n → bodies_of (take n book) r ≡ bodies_of book r
unfolding bodies_of
bodies_cut n book r h = ap (λ (e : rules.Record). e.bodies) (get_or-take n book r blank h)

pub bodies_past : (book : rules.Book) (r : ℕ) → length book ≤ r → bodies_of book r ≡ []
unfolding bodies_of
bodies_past book r h = ap (λ (e : rules.Record). e.bodies) (get_or_past book r blank h)
