-- What taking a rule in does, from what the reader, the register and the book do.
use Rattle.std.proofs.Common.{◌≡◌, ℕ, ◌<◌, ◌≤◌, Bool, true, false, cond, leb, List, length, take, Ok, Err, Result, sym, refl, ap, ◌∙◌, subst, arith}
use Rattle.std.proofs.lemmas.Bool.{le-leb, lt-leb}
use mathlib.Core.Option.{Option, none, some}
use Rattle.logic.specs.Rules.{Rule, Book as Records}
use Rattle.logic.specs.Store.{store, number_of, book_of}
use Rattle.keys.specs.Kept.{Front}
use Rattle.keys.specs.Registers.{keys_in, slots_of, room}
use Rattle.keys.specs.declared.numbers.RegisterFault.{RegisterFault}
use Rattle.keys.specs.declared.register.Register.{Register}
use Rattle.keys.proofs.Numbering.{front_take}
use Rattle.reader.specs.Outlines.{ended}
use Rattle.reader.specs.Written.{Kind, WrittenRule, Reading, reads, unread, mentions, IsOutline, Outlined}
use Rattle.reader.specs.declared.fault.ReaderFault.{ReaderFault}
use Rattle.reader.specs.declared.outline.Outline.{Outline}
use Rattle.book.specs.Limits.{most_records}
use Rattle.book.specs.Books.{records_of}
use Rattle.book.specs.Entering.{all_appear, left_out, numbered, LaidOut}
use Rattle.book.specs.KeyLists.{numbers_in, AllNumbered}
use Rattle.book.specs.Entries.{EntersRule, Refuses}
use Rattle.book.specs.declared.book.Book.{Book}
use Rattle.book.specs.declared.fault.BookFault.{BookFault}
use Rattle.book.specs.declared.key_numbers.KeyNumbers.{KeyNumbers}
use Rattle.book.specs.declared.number.RecordNumber.{RecordNumber}
use Rattle.book.proofs.Building.{numbered_laid_out}
use Rattle.law.specs.Standing.{Standing, Entry, entered, fit, enter_read}
use Rattle.law.proofs.KeysKept.{all_front}
use Rattle.law.proofs.RecordsKept.{front_length}
use Rattle.service.specs.Contents.{held, Holds, TakenIn, TakesIn}
use Rattle.service.specs.Faults as faults
use Rattle.service.specs.declared.fault.Fault.TheVariants as fault
use Rattle.service.specs.declared.state.Draft.{Draft}

-- what the bytes are read as, where there is an outline
pub record ReadAs {K : Type 0} (x : Reading K) (o : Outline) : Type 0 where
  pub rule : WrittenRule K
  pub is : x ≡ reads rule
  pub outlined : IsOutline rule o

pub read_as : {K : Type 0} (x : Reading K) (o : Outline) → Outlined x (Ok o) → ReadAs x o
read_as (reads w) o h = record { rule = w; is = refl; outlined = h }
read_as (unread u) o h = absurd h

module _ {K : Type 0} (kind : Kind K) (w : List ℕ) (d : Draft K) where
  -- ---- the reader refuses

  pub unread_in : (f : ReaderFault) → Outlined (kind.reading w) (Err f) → TakesIn kind w (Err (fault.Reader f)) d d
  unread_in f out slots s h = go (kind.reading w) out
    where
      go : (x : Reading K) → Outlined x (Err f) → TakenIn slots s (enter_read kind slots s x) (Err (fault.Reader f)) d
      go (reads v) o = absurd o
      go (unread u) o = (o, h)

  -- ---- the register refuses

  module _ (v : WrittenRule K) (is : kind.reading w ≡ reads v) where
    -- the refusal or the rule, where left_out is known
    fits : (slots : ℕ) (s : Standing K) → keys_in d.register ≡ s.keys → slots_of d.register ≡ slots → (o : Option ℕ)
        → left_out kind.same (room (slots_of d.register)) (keys_in d.register) (mentions v) ≡ o
        → enter_read kind slots s (kind.reading w)
        ≡ fit kind slots s (all_appear kind.same s.keys (mentions v)) (numbered kind.same (all_appear kind.same s.keys (mentions v)) v) o
    fits slots s keys size o e =
        let ks = all_appear kind.same s.keys (mentions v) in
        ap (enter_read kind slots s) is
        ∙ ap (fit kind slots s ks (numbered kind.same ks v))
        (ap (λ (n : ℕ). left_out kind.same (room n) s.keys (mentions v)) (sym size)
        ∙ ap (λ (l : List K). left_out kind.same (room (slots_of d.register)) l (mentions v)) (sym keys) ∙ e)

    pub left_out_in : (g' : Register K) (f : RegisterFault) → left_out kind.same (room (slots_of d.register)) (keys_in d.register) (mentions v) ≡ some f.place
        → keys_in g' ≡ keys_in d.register → slots_of g' ≡ slots_of d.register → TakesIn kind w (Err (fault.Register f)) d (record { register = g'; book = d.book })
    left_out_in g' f out same_keys same_slots slots s h =
        subst (λ (e : Entry K). TakenIn slots s e (Err (fault.Register f)) (record { register = g'; book = d.book }))
        (sym (fits slots s h.keys_are h.slots_are (some f.place) out))
        (refl, record { slots_are = same_slots ∙ h.slots_are; keys_are = same_keys ∙ h.keys_are; book_is = h.book_is })

    -- ---- the keys have their numbers

    module _ (o : Outline) (outlined : IsOutline v o) (g' : Register K) (ns : KeyNumbers)
        (all : AllNumbered kind.same (room (slots_of d.register)) (keys_in d.register) v (keys_in g') (numbers_in ns))
        (same_slots : slots_of g' ≡ slots_of d.register) where
      -- the rule over its keys' numbers
      this : Rule
      this = numbered kind.same (keys_in g') v

      laid_out : LaidOut this (numbers_in ns) (ended o)
      unfolding this
      laid_out =
          subst (λ (l : List ℕ). LaidOut (numbered kind.same (keys_in g') v) l (ended o)) (sym all.numbers_are)
          (numbered_laid_out K kind.same (keys_in g') v o outlined)

      front : Front (keys_in d.register) (keys_in g')
      front = subst (Front (keys_in d.register)) (sym all.keys_are) (all_front kind.same (keys_in d.register) (mentions v))

      -- entering comes down to the number of records
      sized : (slots : ℕ) (s : Standing K) → Holds slots (held s) d
          → enter_read kind slots s (kind.reading w) ≡ fit kind slots s (keys_in g') this none
      unfolding this
      sized slots s h =
          let same_keys : all_appear kind.same s.keys (mentions v) ≡ keys_in g' =
          ap (λ (l : List K). all_appear kind.same l (mentions v)) (sym h.keys_are) ∙ sym all.keys_are in
          fits slots s h.keys_are h.slots_are none all.none_left_out
          ∙ ap (λ (l : List K). fit kind slots s l (numbered kind.same l v) none) same_keys

      same_store : (slots : ℕ) (s : Standing K) → Holds slots (held s) d → store (records_of d.book) this ≡ book_of s.rules this
      same_store slots s h = ap (λ (x : Records). store x this) h.book_is.records

      -- ---- the book refuses

      pub full_in : (b' : Book) (g'' : Register K) (f : BookFault) (x : Result RecordNumber BookFault) → x ≡ Err f
          → ((r : Rule) → LaidOut r (numbers_in ns) (ended o) → EntersRule d.book ns.names r b' x) → Refuses d.book b' x
          → keys_in g'' ≡ take (length (keys_in d.register)) (keys_in g') → slots_of g'' ≡ slots_of g' → TakesIn kind w (Err (fault.Book f)) d (record { register = g''; book = b' })
      full_in b' g'' f x is enters refuses cut same_slots' slots s h =
          let refuses' = subst (Refuses d.book b') is refuses in
          let over : leb (length (book_of s.rules this)) most_records ≡ false =
          lt-leb (length (book_of s.rules this)) most_records
          (subst (λ (x : Records). most_records < length x) (same_store slots s h) (subst (EntersRule d.book ns.names this b') is (enters this laid_out))) in
          subst (λ (e : Entry K). TakenIn slots s e (Err (fault.Book f)) (record { register = g''; book = b' }))
          (sym
          (sized slots s h
          ∙ ap (λ (x : Bool). cond x (entered (keys_in g') this) (Entry.refused (record { number = 21; place = 0 }))) over)) (
            ap (λ (x : BookFault). faults.refusal (fault.Book x)) (sym refuses'.0),
            record {
              slots_are = same_slots' ∙ same_slots ∙ h.slots_are;
              keys_are = cut ∙ front_take front ∙ h.keys_are;
              book_is = record {
                records = refuses'.1.records ∙ h.book_is.records;
                names = refuses'.1.names ∙ h.book_is.names;
                in_force = refuses'.1.in_force ∙ h.book_is.in_force;
              };
            },
          )

      -- ---- the rule is taken in

      pub stored_in : (b' : Book) (n : RecordNumber) (x : Result RecordNumber BookFault) → x ≡ Ok n → ns.names ≡ length (keys_in g')
          → ((r : Rule) → LaidOut r (numbers_in ns) (ended o) → EntersRule d.book ns.names r b' x) → TakesIn kind w (Ok n) d (record { register = g'; book = b' })
      stored_in b' n x is names enters slots s h =
          let e = subst (EntersRule d.book ns.names this b') is (enters this laid_out) in
          let within : leb (length (book_of s.rules this)) most_records ≡ true =
          le-leb (length (book_of s.rules this)) most_records
          (subst (λ (x : Records). length x ≤ most_records) (same_store slots s h) e.room) in
          subst (λ (x : Entry K). TakenIn slots s x (Ok n) (record { register = g'; book = b' }))
          (sym
          (sized slots s h
          ∙ ap (λ (x : Bool). cond x (entered (keys_in g') this) (Entry.refused (record { number = 21; place = 0 }))) within)) (
            e.number_is ∙ ap (λ (x : Records). number_of x this) h.book_is.records,
            record {
              slots_are = same_slots ∙ h.slots_are;
              keys_are = refl;
              book_is = record {
                records = e.book_is.records ∙ same_store slots s h;
                names = e.book_is.names ∙ omega (arith, names, h.book_is.names, ap length h.keys_are, front_length front);
                in_force = e.book_is.in_force ∙ h.book_is.in_force;
              };
            },
          )
