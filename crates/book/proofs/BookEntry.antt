-- What entering a rule leaves in the book.
use Rattle.std.proofs.Common.{◌≡◌, ℕ, ◌+◌, ◌%◌, ◌^◌, ◌≤◌, min, max, List, length, take, false, Some, None, Option, refl, sym, ap, ◌∙◌, subst, ap₂, mod-eq_of_lt, arith, length-append}
use Rattle.std.specs.Option.{is_some, ok_or}
use Rattle.std.proofs.lemmas.List.{length_push}
use Rattle.logic.specs.Rules.{Rule, Rules, rule, none, more}
use Rattle.logic.specs.Rules as rules
use Rattle.logic.specs.Store.{store, stores, numbers}
use Rattle.keys.specs.Limits.{most_names}
use Rattle.keys.specs.Kept.{Front}
use Rattle.keys.proofs.Numbering.{front_take}
use Rattle.reader.specs.declared.outline.End.{End}
use Rattle.book.specs.Books.{records_of, names_of, in_force_of, Shows, needed, CutBack}
use Rattle.book.specs.Entering.{endings, all_endings, heads, many, LaidOut}
use Rattle.book.specs.Entries.{Longer, Refuses}
use Rattle.book.specs.declared.book.Book.{Book}
use Rattle.book.specs.declared.fault.BookFault.TheVariants.{TooManyRecords}
use Rattle.book.specs.declared.number.RecordNumber.{RecordNumber}
use Rattle.book.proofs.Adding.{length_records}
use Rattle.book.proofs.Cutting.{needed_least}

-- ---- a rule has as many records as rules end in it

mutual
  unfolding store

  store_many : (r : Rule) (book : rules.Book) (m : ℕ) → length (store book r) ≡ length book + length (endings m r)
  store_many (rule h bs) book m =
      omega (arith, length_push (stores book bs) (record { head = h; bodies = numbers book bs }), stores_many bs book (m + 1), length_push (all_endings (m + 1) bs) (record { mention = m; bodies = many bs }))

  stores_many : (rs : Rules) (book : rules.Book) (m : ℕ) → length (stores book rs) ≡ length book + length (all_endings m rs)
  stores_many none book m = omega arith
  stores_many (more r rs) book m =
      omega (arith, stores_many rs (store book r) (m + length (heads r)), store_many r book m, length-append (endings m r) (all_endings (m + length (heads r)) rs))

pub records_many : (r : Rule) (book : rules.Book) (ns : List ℕ) (es : List End) → LaidOut r ns es → length (store book r) ≡ length book + length es
records_many r book ns es laid = store_many r book 0 ∙ ap (λ (x : List End). length book + length x) (sym laid.endings_are)

-- ---- the book after it

module _ (b b₁ b₂ : Book) (names : ℕ) (few : names ≤ most_names)
    (admitted : Shows b₁ (records_of b) (max (names_of b) (min names most_names)) (in_force_of b)) (longer : Longer b₁ b₂) where
  -- cut back to what it was
  pub given_back : (b₃ : Book) (records marked : ℕ) → records ≡ length (records_of b) → marked ≡ names_of b → CutBack b₂ records marked b₃
      → Shows b₃ (records_of b) (names_of b) (in_force_of b)
  given_back b₃ records marked e f cut =
      let front : Front (records_of b) (records_of b₂) = subst (λ (x : rules.Book). Front x (records_of b₂)) admitted.records longer.records in
      let kept : take records (records_of b₂) ≡ records_of b = ap (λ (n : ℕ). take n (records_of b₂)) e ∙ front_take front in
      let least : needed (records_of b) ≤ names_of b = needed_least (names_of b) (records_of b) (λ r l. b.named r (omega (arith, l, length_records b))) in
      record {
        records = cut.records ∙ kept;
        names = cut.names ∙ ap (λ (x : rules.Book). max (needed x) (min marked (names_of b₂))) kept ∙ omega (arith, least, f, longer.names, admitted.names);
        in_force =
            cut.in_force ∙ ap₂ (λ (x y : ℕ). x % 2 ^ y) (longer.in_force ∙ admitted.in_force) (e ∙ length_records b)
            ∙ mod-eq_of_lt b.standing;
      }

-- what is handed on: the number, or else the refusal
pub refused : (b b' : Book) (o : Option RecordNumber) → (is_some o ≡ false → Shows b' (records_of b) (names_of b) (in_force_of b))
    → Refuses b b' (ok_or o TooManyRecords)
refused b b' (Some n) back = tt
refused b b' None back = (refl, back refl)
