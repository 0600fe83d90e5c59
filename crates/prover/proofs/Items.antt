-- A rule's bodies, one after the other.
use Rattle.std.proofs.Common.{◌≡◌, ℕ, ◌+◌, ◌<◌, ◌≤◌, List, [], ◌∷◌, length, get_or, drop, sym, ap, ◌∙◌, arith}
use lib.ListN.{length-map}
use Rattle.std.proofs.lemmas.List.{drop_more, drop_all, get_or-map}
use Rattle.logic.specs.Rules.{bodies_of}
use Rattle.book.specs.Books.{records_of}
use Rattle.book.specs.Numbers.{record_indices}
use Rattle.book.specs.declared.book.Book.{Book}
use Rattle.book.specs.declared.number.RecordNumber.{RecordNumber}
use Rattle.book.proofs.Telling.{body_used}

module _ (rs : List RecordNumber) (i : ℕ) (x : RecordNumber) (there : i < length rs) (is : x ≡ get_or rs i x) where
  number_at : get_or (record_indices rs) i 0 ≡ x.index
  number_at = get_or-map (λ (r : RecordNumber). r.index) rs i x 0 there ∙ sym (ap (λ (r : RecordNumber). r.index) is)

  within : i < length (record_indices rs)
  within = simp length-map (omega arith)

  -- the i-th record stands first of those from there on
  pub next_number : drop i (record_indices rs) ≡ x.index ∷ drop (i + 1) (record_indices rs)
  next_number = drop_more (record_indices rs) i 0 within ∙ ap (λ (n : ℕ). n ∷ drop (i + 1) (record_indices rs)) number_at

  -- a body of a record in use is in use
  pub body_recorded : (b : Book) (r : ℕ) → r < length (records_of b) → record_indices rs ≡ bodies_of (records_of b) r
      → x.index < length (records_of b)
  body_recorded b r used all =
      let l : i < length (bodies_of (records_of b) r) = omega (arith, within, ap length all) in
      omega (arith, sym number_at ∙ ap (λ (ns : List ℕ). get_or ns i 0) all, body_used b r i used l)

-- with none left, all were
pub none_left : (rs : List RecordNumber) (i : ℕ) → length rs ≤ i → drop i (record_indices rs) ≡ []
none_left rs i h = drop_all i (record_indices rs) (simp length-map (omega arith))
