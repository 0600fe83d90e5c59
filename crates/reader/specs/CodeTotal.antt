-- What bytes in the code form are read as: a total function, right by its type.
use Rattle.std.specs.Prelude.{◌≡◌, ℕ, zero, suc, ◌+◌, ◌<◌, ◌≤◌, ◌≢◌, List, [], ◌∷◌, length, slice_index}
use Rattle.std.proofs.Common.{sym, subst, arith}
use Rattle.std.proofs.Math.Decide.{ℕ_discrete, dec_le}
use Rattle.reader.specs.declared.fault.Reason.{Reason}
use Rattle.reader.specs.declared.fault.Reason.TheVariants.{Misplaced, Deep, Ninth}
use Rattle.reader.specs.declared.feature_code.FeatureCode.{FeatureCode}
use Rattle.reader.specs.CodeLeft.{left_few, left_deep, left_head, left_closed, left_ended}
use Rattle.reader.specs.Codes.{At, IsRule, Frame, Room, Left, start, Offends, stray, extra, cut, cut_head, deep, ninth, Reads, Refused, oversize, offends}
use Rattle.reader.specs.FeatureCodes.{code_at}
use Rattle.reader.specs.Limits.{rule_bytes, deepest, most_bodies}
use Rattle.reader.specs.Readings.{ReadAs, accepted, refused}
use Rattle.reader.specs.Tree.{Rule, none, count}
use Rattle.reader.specs.Written.{Reading}

-- the bytes are a rule over the feature codes in them, or they are refused
abbrev pub CodeReading : List ℕ → Reading FeatureCode → Type 0
CodeReading bs = ReadAs (code_at bs) (Reads bs) (Refused bs)

-- where a reading of the bytes stands before p
data Spot (bs : List ℕ) (p : ℕ) : Type 0 where
  kind : (fs : List Frame) → Left bs fs p → Spot bs p
  head : (fs : List Frame) (i k : ℕ) → Left bs fs i → Room fs → At bs i 1 → p + suc k ≡ i + 4 → Spot bs p
  over : (t : Rule) → IsRule bs 1 0 t p → Spot bs p
  bad : (r : Reason) (q : ℕ) → Offends bs r q → Spot bs p

module _ (bs : List ℕ) where
  -- a rule is opened, if there is room
  open_inside : (p : ℕ) (f : Frame) (fs : List Frame) → Left bs (f ∷ fs) p → At bs p 1 → Spot bs (p + 1)
  open_inside p f fs l a = elim (ℕ_discrete (suc (length fs)) deepest) [
    | yes e ↦ bad Deep p (deep l a e)
    | no shallow ↦ (
        let le = left_deep l in
        let few = left_few l in
        elim (ℕ_discrete (count f.so_far) most_bodies) [
          | yes e ↦ bad Ninth p (ninth l a (omega arith) e)
          | no fewer ↦ head (f ∷ fs) p 2 l (omega arith, omega arith) a (omega arith)
        ])
  ]

  opens : (p : ℕ) (fs : List Frame) → Left bs fs p → At bs p 1 → Spot bs (p + 1)
  opens p [] l a = head [] p 2 l tt a (omega arith)
  opens p (f ∷ fs) l a = open_inside p f fs l a

  -- the rule opened last closes
  closes : (p : ℕ) (f : Frame) (fs : List Frame) → Left bs (f ∷ fs) p → At bs p 2 → Spot bs (p + 1)
  closes p f [] l a = over _ (left_ended l a)
  closes p f (g ∷ gs) l a = kind _ (left_closed l a)

  -- any other kind byte is stray
  other : (p : ℕ) (fs : List Frame) → Left bs fs p → p < length bs → slice_index bs p ≢ 1 → Spot bs (p + 1)
  other p [] l lt ne = bad Misplaced p (stray l lt ne)
  other p (f ∷ fs) l lt ne = elim (ℕ_discrete (slice_index bs p) 2) [
    | yes e ↦ closes p f fs l (lt, e)
    | no ne' ↦ bad Misplaced p (stray l lt (ne, ne'))
  ]

  -- the byte at p
  moves : (p : ℕ) → p < length bs → Spot bs p → Spot bs (p + 1)
  moves p lt (kind fs l) = elim (ℕ_discrete (slice_index bs p) 1) [
    | yes e ↦ opens p fs l (lt, e)
    | no ne ↦ other p fs l lt ne
  ]
  moves p lt (head fs i zero l r a e) =
      let n : i + 4 ≡ p + 1 = sym e in
      kind (record { head = i + 1; so_far = none } ∷ fs) (subst (λ k. Left bs (record { head = i + 1; so_far = none } ∷ fs) k) n (left_head l r a (omega arith)))
  moves p lt (head fs i (suc k) l r a e) = head fs i k l r a (omega arith)
  moves p lt (over t r) = bad Misplaced p (extra r lt)
  moves p lt (bad r q o) = bad r q o

  -- the bytes from p on, of which there are n
  goes : (n p : ℕ) → p + n ≡ length bs → Spot bs p → Spot bs (length bs)
  goes zero p e s = subst (Spot bs) (omega arith) s
  goes (suc n) p e s = goes n (p + 1) (omega arith) (moves p (omega arith) s)

  -- what comes of it at the end of the bytes
  ends : length bs ≤ rule_bytes → Spot bs (length bs) → (r : Reading FeatureCode) × CodeReading bs r
  ends short (kind fs l) = (_, refused (offends short (cut l)))
  ends short (head fs i k l r a e) = (_, refused (offends short (cut_head l r a (omega arith))))
  ends short (over t r) = (_, accepted (record { short = short; reads = r }))
  ends short (bad r q o) = (_, refused (offends short o))

-- what the bytes are read as
pub code_read : (bs : List ℕ) → (r : Reading FeatureCode) × CodeReading bs r
code_read bs = elim (dec_le (length bs) rule_bytes) [
  | yes short ↦ ends bs short (goes bs (length bs) 0 (omega arith) (kind [] start))
  | no long ↦ (_, refused (oversize (omega arith)))
]

abbrev pub code_reading : List ℕ → Reading FeatureCode
code_reading bs = (code_read bs).0

-- bytes are read as one thing only
abbrev pub OneAnswer : Type 0
OneAnswer = (bs : List ℕ) (r : Reading FeatureCode) → CodeReading bs r → r ≡ code_reading bs
