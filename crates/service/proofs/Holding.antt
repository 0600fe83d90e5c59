-- What a register and a book hold after they have grown or were cut back.
use Rattle.std.proofs.Common.{◌≡◌, ℕ, ◌%◌, ◌^◌, ◌<◌, ◌≤◌, min, max, List, [], ◌∷◌, ◌++◌, length, take, sym, ap, ◌∙◌, arith}
use lib.Bits.{bit_or}
use Rattle.logic.specs.Sets.{mask}
use Rattle.logic.specs.Rules as rules
use Rattle.logic.specs.Rules.{rule, more}
use Rattle.logic.specs.Store.{store, stores, numbers, number_of}
use Rattle.keys.specs.Kept.{Front}
use Rattle.keys.proofs.Numbering.{front_take}
use Rattle.book.specs.Books.{PutInForce, records_of, names_of, needed}
use Rattle.book.specs.declared.book.Book.{Book}
use Rattle.law.specs.Standing.{Standing, behind}
use Rattle.law.specs.Kept.{HeadsBelow, AllHeadsBelow}
use Rattle.law.proofs.RecordsKept.{front_length, records_kept, number_within}
use Rattle.service.specs.Contents.{Contents, held, held_with, Holds, GivenBack}
use Rattle.service.specs.declared.state.Draft.{Draft}

-- ---- how many names the heads need

needed_push : (n : ℕ) (book : rules.Book) (x : rules.Record) → needed book ≤ n → x.head < n → needed (book ++ x ∷ []) ≤ n
needed_push n [] x l h = omega (arith, h)
needed_push n (r ∷ rs) x l h = omega (arith, needed_push n rs x (omega (arith, l)) h, l)

mutual
  unfolding store

  needed_store : (n : ℕ) (r : rules.Rule) (book : rules.Book) → needed book ≤ n → HeadsBelow n r → needed (store book r) ≤ n
  needed_store n (rule h bs) book l b =
      needed_push n (stores book bs) (record { head = h; bodies = numbers book bs }) (needed_stores n bs book l b.1) b.0

  needed_stores : (n : ℕ) (rs : rules.Rules) (book : rules.Book) → needed book ≤ n → AllHeadsBelow n rs → needed (stores book rs) ≤ n
  needed_stores n rules.none book l b = l
  needed_stores n (more r rs) book l b = needed_stores n rs (store book r) (needed_store n r book l b.0) b.1

-- where the heads of the rules are below n, their records need n names at the most
pub needed_standing : (n : ℕ) (rs : rules.Rules) → AllHeadsBelow n rs → needed (stores [] rs) ≤ n
needed_standing n rs b = needed_stores n rs [] (omega arith) b

-- ---- cutting back

-- what stands first in what is held, so that cutting back leads to it
pub record First {K : Type 0} (c c' : Contents K) : Type 0 where
  pub keys : Front c.keys c'.keys
  pub records : Front c.records c'.records
  pub in_force : c'.in_force % 2 ^ length c.records ≡ c.in_force
  pub named : needed c.records ≤ length c.keys

module _ {K : Type 0} (d d' : Draft K) where
  pub cut_back : (slots : ℕ) (c c' : Contents K) → First c c' → Holds slots c' d
      → GivenBack d (record { records = length c.records; names = length c.keys }) d' → Holds slots c d'
  cut_back slots c c' f h back =
      let cut = back.book in
      let same_records : take (length c.records) (records_of d.book) ≡ c.records =
      ap (take (length c.records)) h.book_is.records ∙ front_take f.records in
      record {
        slots_are = back.slots ∙ h.slots_are;
        keys_are = back.keys ∙ ap (take (length c.keys)) h.keys_are ∙ front_take f.keys;
        book_is = record {
          records = cut.records ∙ same_records;
          names =
              cut.names
              ∙ ap (λ (x : rules.Book). max (needed x) (min (length c.keys) (names_of d.book))) same_records
              ∙ omega (arith, f.named, h.book_is.names, front_length f.keys);
          in_force = cut.in_force ∙ ap (λ (S : ℕ). S % 2 ^ length c.records) h.book_is.in_force ∙ f.in_force;
        };
      }

-- ---- putting a rule in force

module _ {K : Type 0} (d : Draft K) (b' : Book) where
  pub put_in : (slots : ℕ) (s : Standing K) (ks : List K) (r : rules.Rule) (n : ℕ) → n ≡ number_of (stores [] s.rules) r
      → Holds slots (held_with s ks r) d → PutInForce d.book n b'
      → Holds slots (held (record { keys = ks; rules = behind s.rules r })) (record { register = d.register; book = b' })
  put_in slots s ks r n is h put =
      let recorded : n < length (records_of d.book) =
      omega (arith, is, ap length h.book_is.records, (number_within r (stores [] s.rules)).1) in
      let shows = put.standing recorded in
      record {
        slots_are = h.slots_are;
        keys_are = h.keys_are;
        book_is = record {
          records = shows.records ∙ h.book_is.records ∙ sym (records_kept.stored s.rules r);
          names = shows.names ∙ h.book_is.names;
          in_force =
              shows.in_force ∙ ap (λ (S : ℕ). bit_or S (2 ^ n)) h.book_is.in_force
              ∙ ap (λ (k : ℕ). bit_or (mask (numbers [] s.rules)) (2 ^ k)) is ∙ sym (records_kept.forced s.rules r);
        };
      }
