-- Rules as written, over any kind of key.
use Rattle.std.specs.Prelude.{◌≡◌, ℕ, suc, ◌+◌, Bool, List, [], ◌∷◌, ◌++◌, Ok, Err, Result}
use Rattle.std.specs.List.{All}
use Rattle.reader.specs.declared.fault.ReaderFault.{ReaderFault}
use Rattle.reader.specs.declared.outline.End.{End}
use Rattle.reader.specs.declared.outline.Outline.{Outline}
use Rattle.reader.specs.Faults.{number_of}
use Rattle.reader.specs.Outlines as outlines

-- why something is refused, and where: the number of the refusal, and a place in the bytes
pub record Refusal : Type 0 where
  pub number : ℕ
  pub place : ℕ

mutual
  -- a rule as it is read: the key of its head, that key's place in the bytes, and its bodies
  pub data WrittenRule (K : Type 0) : Type 0 where
    written : K → ℕ → WrittenBodies K → WrittenRule K

  -- bodies in order, the first one outermost
  pub data WrittenBodies (K : Type 0) : Type 0 where
    no_body : WrittenBodies K
    body : WrittenRule K → WrittenBodies K → WrittenBodies K

-- what bytes are read as
pub data Reading (K : Type 0) : Type 0 where
  reads : WrittenRule K → Reading K
  unread : Refusal → Reading K

-- a kind of key: which keys are the same, and how rules over them are written
pub record Kind (K : Type 0) : Type 0 where
  pub same : K → K → Bool
  pub reading : List ℕ → Reading K

-- a key as it appears in a rule, and its place
pub record Mention (K : Type 0) : Type 0 where
  pub key : K
  pub place : ℕ

abbrev mutual
  -- the keys of a rule in the order of the bytes: its head, then its bodies
  pub mentions : {K : Type 0} → WrittenRule K → List (Mention K)
  mentions (written k p bs) = record { key = k; place = p } ∷ mentions_all bs

  pub mentions_all : {K : Type 0} → WrittenBodies K → List (Mention K)
  mentions_all no_body = []
  mentions_all (body w bs) = mentions w ++ mentions_all bs

-- the places of keys
abbrev pub places : {K : Type 0} → List (Mention K) → List ℕ
places [] = []
places (m ∷ ms) = m.place ∷ places ms

-- how many bodies there are
abbrev pub count : {K : Type 0} → WrittenBodies K → ℕ
count no_body = 0
count (body w bs) = suc (count bs)

abbrev mutual
  -- how many heads there are
  pub size : {K : Type 0} → WrittenRule K → ℕ
  size (written k p bs) = suc (size_all bs)

  pub size_all : {K : Type 0} → WrittenBodies K → ℕ
  size_all no_body = 0
  size_all (body w bs) = size w + size_all bs

abbrev mutual
  -- the rules in the order in which they end, each with the number of its head,
  -- where the heads are numbered from m on, and with how many bodies it has
  pub ends : {K : Type 0} → ℕ → WrittenRule K → List End
  ends m (written k p bs) = ends_all (m + 1) bs ++ (record { mention = m; bodies = count bs } ∷ [])

  pub ends_all : {K : Type 0} → ℕ → WrittenBodies K → List End
  ends_all m no_body = []
  ends_all m (body w bs) = ends m w ++ ends_all (m + size w) bs

-- the refusal that a reader's fault tells
abbrev pub refusal : ReaderFault → Refusal
refusal f = record { number = number_of f.reason; place = f.place }

-- o is the outline of the rule w
pub record IsOutline {K : Type 0} (w : WrittenRule K) (o : Outline) : Type 0 where
  pub heads : outlines.mentions o ≡ places (mentions w)
  pub rules : outlines.ended o ≡ ends 0 w

-- the outline of what the bytes are read as, or its refusal
abbrev pub Outlined : {K : Type 0} → Reading K → Result Outline ReaderFault → Type 0
Outlined (reads w) (Ok o) = IsOutline w o
Outlined (reads w) (Err f) = ⊥
Outlined (unread u) (Ok o) = ⊥
Outlined (unread u) (Err f) = u ≡ refusal f

-- k is the key of each head at the place p
abbrev pub KeyAt : {K : Type 0} → Reading K → ℕ → K → Type 0
KeyAt (reads w) p k = All (λ m. m.place ≡ p → m.key ≡ k) (mentions w)
KeyAt (unread u) p k = Unit {0}
