-- What a register holds, and what looking up and entering a key give.
use Rattle.std.specs.Prelude.{◌≡◌, ℕ, ◌<◌, ◌≤◌, min, Bool, List, length, take, Some, None, Ok, Err, Option, Result}
use Rattle.keys.specs.Limits.{most_names}
use Rattle.keys.specs.Numbering.{number, appear}
use Rattle.keys.specs.declared.numbers.KeyNumber.{KeyNumber}
use Rattle.keys.specs.declared.numbers.RegisterFault.{RegisterFault}
use Rattle.keys.specs.declared.register.Register.{Register}

-- how many keys a register over so many slots can number
abbrev pub room : ℕ → ℕ
room slots = min most_names slots

-- how many slots a register has
abbrev pub slots_of : {K : Type 0} → Register K → ℕ
slots_of g = length g.slots.now

-- the keys that have a number, in the order of their numbers: the slots behind them are free
abbrev pub keys_in : {K : Type 0} → Register K → List K
keys_in g = take g.used.count g.slots.now

module _ {K : Type 0} (same : K → K → Bool) (ks : List K) (k : K) where
  -- the first place of a key that is the same, or nothing where there is none
  abbrev pub First : Option ℕ → Type 0
  First (Some i) = (i ≡ number same ks k) × (i < length ks)
  First None = number same ks k ≡ length ks

  -- looking up a key gives its number, or nothing where it is absent
  abbrev pub Looked : Option KeyNumber → Type 0
  Looked (Some n) = (n.index ≡ number same ks k) × (n.index < length ks)
  Looked None = number same ks k ≡ length ks

  -- the key has appeared and has this number
  pub record Entered (slots : ℕ) (ks' : List K) (n : KeyNumber) : Type 0 where
    pub number_is : n.index ≡ number same ks k
    pub keys_are : ks' ≡ appear same ks k
    pub in_room : length ks' ≤ room slots

  -- there is no number for the key, which is at this place
  pub record LeftOut (slots place : ℕ) (ks' : List K) (f : RegisterFault) : Type 0 where
    pub place_is : f.place ≡ place
    pub keys_are : ks' ≡ ks
    pub no_room : room slots < length (appear same ks k)

  -- what entering a key that is written at this place gives, and the keys then
  abbrev pub Enters : (slots place : ℕ) → List K → Result KeyNumber RegisterFault → Type 0
  Enters slots place ks' (Ok n) = Entered slots ks' n
  Enters slots place ks' (Err f) = LeftOut slots place ks' f
