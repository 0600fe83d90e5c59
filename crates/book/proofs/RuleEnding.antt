-- A rule ends: its record is put behind the others.
use Rattle.std.proofs.Common.{◌≡◌, ℕ, ◌<◌, ◌≤◌, List, [], ◌∷◌, ◌++◌, length, get_or, take, drop, Some, None, Option, sym, subst, arith}
use Rattle.std.proofs.lemmas.List.{get_or-take}
use Rattle.logic.specs.Sets.{AllBelow}
use Rattle.logic.specs.Rules as rules
use Rattle.reader.specs.declared.outline.End.{End}
use Rattle.book.specs.Limits.{most_records}
use Rattle.book.specs.Books.{records_of, names_of, in_force_of, Shows, Pushed}
use Rattle.book.specs.Indices.{indices}
use Rattle.book.specs.KeyLists.{numbers_in}
use Rattle.book.specs.Entries.{others, EndsRule}
use Rattle.book.specs.declared.book.Book.{Book}
use Rattle.book.specs.declared.key_numbers.KeyNumbers.{KeyNumbers}
use Rattle.book.specs.declared.number.RecordNumber.{RecordNumber}
use Rattle.book.proofs.KeyLists.{many_are}
use Rattle.book.proofs.Waits.{below_drop}

-- each key's number is one of a name in use
pub below_names : (ks : KeyNumbers) (m : ℕ) → m < length (numbers_in ks) → get_or (numbers_in ks) m 0 < ks.names
below_names ks m l =
    let within : m < ks.count = omega (arith, l, many_are ks.at ks.count (omega (arith, ks.whole, ks.few))) in
    omega (arith, get_or-take ks.count (indices ks.at) m 0 within, ks.named m within)

module _ (ns ws ws' : List ℕ) (e : End) (b b' : Book) (head : ℕ) (bodies : List ℕ) (mentioned : e.mention < length ns)
    (head_is : head ≡ get_or ns e.mention 0) (enough : e.bodies ≤ length ws) (bodies_are : bodies ≡ drop (others ws e.bodies) ws)
    (left : ws' ≡ take (others ws e.bodies) ws) (room : length (records_of b) < most_records) (named : head < names_of b)
    (below : AllBelow (length (records_of b)) ws) where
  record_is : ◌≡◌ {A = rules.Record} (record { head = head; bodies = bodies }) (record { head = get_or ns e.mention 0; bodies = drop (others ws e.bodies) ws })
  record_is = λ i. record { head = head_is i; bodies = bodies_are i }

  pub ends_rule : (o : Option RecordNumber) → Pushed b head bodies b' o → EndsRule ns ws e b ws' b' o
  ends_rule (Some n) p = record {
    headed = mentioned;
    bodied = enough;
    number_is = p.1;
    waiting_are = left;
    book_is = subst (λ (r : rules.Record). Shows b' (records_of b ++ r ∷ []) (names_of b) (in_force_of b)) record_is p.2;
  }
  ends_rule None p = (
    λ _ _.
        p.0 (record {
          room = room;
          named = named;
          earlier = subst (AllBelow (length (records_of b))) (sym bodies_are) (below_drop (length (records_of b)) (others ws e.bodies) ws below);
        }),
    p.1,
  )
