-- What the numbers of a rule's keys stand for, and what numbering them gives.
use Rattle.std.specs.Prelude.{◌≡◌, ℕ, ◌<◌, ◌≤◌, Bool, List, length, take, Some, None, Ok, Err, Option as Maybe, Result, slice_index}
use Rattle.std.proofs.Math.Option.{Option, some}
use Rattle.keys.specs.declared.numbers.KeyNumber.{KeyNumber}
use Rattle.keys.specs.declared.numbers.RegisterFault.{RegisterFault}
use Rattle.reader.specs.Outlines.{ended}
use Rattle.reader.specs.Written.{WrittenRule, mentions, IsOutline}
use Rattle.reader.specs.declared.outline.Outline.{Outline}
use Rattle.book.specs.Entering.{all_appear, left_out, numbered, numbers_of, LaidOut}
use Rattle.book.specs.Indices.{indices}
use Rattle.book.specs.declared.key_numbers.KeyNumbers.{KeyNumbers}

-- the numbers in order
abbrev pub numbers_in : KeyNumbers → List ℕ
numbers_in ns = take ns.count (indices ns.at)

-- the number of the key that is mentioned at a place, or nothing where none is
abbrev pub Mentioned : List ℕ → ℕ → Maybe KeyNumber → Type 0
Mentioned ns m (Some n) = (m < length ns) × (n.index ≡ slice_index ns m)
Mentioned ns m None = length ns ≤ m

module _ {K : Type 0} (same : K → K → Bool) (room : ℕ) (ks : List K) (w : WrittenRule K) where
  -- the rule's keys have appeared and have these numbers
  pub record AllNumbered (ks' : List K) (ns : List ℕ) : Type 0 where
    pub none_left_out : left_out same room ks (mentions w) ≡ Option.none
    pub keys_are : ks' ≡ all_appear same ks (mentions w)
    pub numbers_are : ns ≡ numbers_of same ks' (mentions w)

  -- what numbering a rule's keys gives, and the keys then
  abbrev pub Numbers : List K → Result KeyNumbers RegisterFault → Type 0
  Numbers ks' (Ok ns) = AllNumbered ks' (numbers_in ns)
  Numbers ks' (Err f) = left_out same room ks (mentions w) ≡ some f.place

-- The rule over its keys' numbers is laid out by the numbers of its keys and the ends of its outline.
abbrev pub NumberedLaidOut : Type 0 → Type 0
NumberedLaidOut K = (same : K → K → Bool) (ks : List K) (w : WrittenRule K) (o : Outline) → IsOutline w o
    → LaidOut (numbered same ks w) (numbers_of same ks (mentions w)) (ended o)

-- the names in use are those of the keys; after a refusal the keys are as before
abbrev pub KeysHeld : {K : Type 0} → List K → List K → Result KeyNumbers RegisterFault → Type 0
KeysHeld ks ks' (Ok ns) = ns.names ≡ length ks'
KeysHeld ks ks' (Err f) = ks' ≡ ks
