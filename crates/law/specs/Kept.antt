-- What stands grows only at its end, so that what is taken out leaves the rest as it was.
use Rattle.std.specs.Prelude.{◌≡◌, ℕ, ◌%◌, ◌^◌, ◌<◌, ◌≤◌, Bool, true, false, List, [], ◌∷◌, ◌++◌, length, bit_or}
use Rattle.logic.specs.Sets.{mask}
use Rattle.logic.specs.Rules.{Rule, Rules, rule, none, more, Book}
use Rattle.logic.specs.Store.{stores, numbers, number_of, store, book_of}
use Rattle.keys.specs.Numbering.{number}
use Rattle.keys.specs.Registers.{room}
use Rattle.keys.specs.Kept.{Front}
use Rattle.reader.specs.Written.{Kind, WrittenRule, Mention, mentions}
use Rattle.book.specs.Limits.{most_records}
use Rattle.book.specs.Entering.{all_appear, numbered}
use Rattle.law.specs.Limits.{most_suppositions}
use Rattle.law.specs.Standing.{Standing, nothing, entered, enter, after_entry, behind}
use Rattle.law.specs.Calls.{Call, add, reopen, suppose, withdraw, Tally, Takes, at_start, in_force, taken}
use Rattle.law.specs.Defined.{standing, next}

-- each head in the rule is below n
abbrev mutual
  pub HeadsBelow : ℕ → Rule → Type 0
  HeadsBelow n (rule h bs) = (h < n) × AllHeadsBelow n bs

  pub AllHeadsBelow : ℕ → Rules → Type 0
  AllHeadsBelow n none = Unit {0}
  AllHeadsBelow n (more b bs) = HeadsBelow n b × AllHeadsBelow n bs

-- The keys of a rule get numbers behind the others, and those that had one keep it.
pub record KeysKept {K : Type 0} (same : K → K → Bool) : Type 0 where
  pub appended : (ks : List K) (ms : List (Mention K)) → Front ks (all_appear same ks ms)
  pub kept : (ks : List K) (ms : List (Mention K)) (k : K) → number same ks k < length ks
      → number same (all_appear same ks ms) k ≡ number same ks k
  -- the heads of a rule whose keys have appeared are numbers of keys
  pub heads : ((k : K) → same k k ≡ true) → (ks : List K) (w : WrittenRule K)
      → HeadsBelow (length (all_appear same ks (mentions w))) (numbered same (all_appear same ks (mentions w)) w)

-- One more rule puts its records behind the others.
pub record RecordsKept : Type 0 where
  pub stored : (rules : Rules) (r : Rule) → stores [] (behind rules r) ≡ book_of rules r
  pub front : (book : Book) (r : Rule) → Front book (store book r)
  pub numbers_are : (rules : Rules) (r : Rule) → numbers [] (behind rules r) ≡ numbers [] rules ++ number_of (stores [] rules) r ∷ []
  pub forced : (rules : Rules) (r : Rule) → mask (numbers [] (behind rules r)) ≡ bit_or (mask (numbers [] rules)) (2 ^ number_of (stores [] rules) r)

-- the keys and the records of s stand first in those of s', and of these records the same are in force
pub record Grows {K : Type 0} (s s' : Standing K) : Type 0 where
  pub keys : Front s.keys s'.keys
  pub records : Front (stores [] s.rules) (stores [] s'.rules)
  pub in_force : mask (numbers [] s'.rules) % 2 ^ length (stores [] s.rules) ≡ mask (numbers [] s.rules)

module _ {K : Type 0} (kind : Kind K) (slots : ℕ) where
  -- each rule in turn is entered, not refused
  abbrev pub AllEnter : Standing K → List (List ℕ) → Type 0
  AllEnter s [] = Unit {0}
  AllEnter s (w ∷ ws) = ((ks : List K) × (r : Rule) × (enter kind slots s w ≡ entered ks r)) × AllEnter (after_entry kind slots s (enter kind slots s w)) ws

  -- what is true of the tally wherever calls lead from the start
  pub record TallyRight (t : Tally) : Type 0 where
    pub entered_all : AllEnter nothing (in_force t)
    pub few : length t.supposed ≤ most_suppositions
    pub draft : t.sealed ≡ false → t.supposed ≡ []

  pub record StandingKept : Type 0 where
    -- entering a rule or a goal puts new keys behind the others
    pub goal_keys : (s : Standing K) (w : List ℕ) (ks : List K) (r : Rule) → enter kind slots s w ≡ entered ks r → Front s.keys ks
    -- what stands with one more supposition, or one more rule in a draft, is what stands after entering it
    pub supposed : (t : Tally) (w : List ℕ)
        → standing kind slots (taken t (suppose w)) ≡ after_entry kind slots (standing kind slots t) (enter kind slots (standing kind slots t) w)
    pub added : (t : Tally) (w : List ℕ) → t.supposed ≡ []
        → standing kind slots (taken t (add w)) ≡ after_entry kind slots (standing kind slots t) (enter kind slots (standing kind slots t) w)
    -- withdraw takes a supposition back
    pub withdrawn : (t : Tally) (w : List ℕ) → taken (taken t (suppose w)) withdraw ≡ t
    -- what stands after withdraw or reopen stands first in what stood before
    pub withdraw_front : (t : Tally) → Grows (standing kind slots (taken t withdraw)) (standing kind slots t)
    pub reopen_front : (t : Tally) → Grows (standing kind slots (taken t reopen)) (standing kind slots t)
    -- there are never more keys than numbers, nor more records than a book holds
    pub within : (t : Tally) → (length (standing kind slots t).keys ≤ room slots) × (length (stores [] (standing kind slots t).rules) ≤ most_records)
    -- the heads of what stands are numbers of keys
    pub headed : ((k : K) → kind.same k k ≡ true) → (t : Tally)
        → AllHeadsBelow (length (standing kind slots t).keys) (standing kind slots t).rules
    -- the tally holds rules that were entered, so many suppositions at most, and none in a draft: so it is at the start, and so it stays
    pub start_right : TallyRight at_start
    pub next_right : (t : Tally) (c : Call) → Takes t c → TallyRight t → TallyRight (next kind slots t c)

abbrev pub KeysKeptAll : Type 0 → Type 0
KeysKeptAll K = (same : K → K → Bool) → KeysKept same

abbrev pub StandingKeptAll : Type 0 → Type 0
StandingKeptAll K = (kind : Kind K) (slots : ℕ) → StandingKept kind slots
