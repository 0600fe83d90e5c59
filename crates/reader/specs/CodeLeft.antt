-- The left part of a rule in codes: what its limits say, and what a kind byte makes of it.
use Rattle.std.specs.Prelude.{◌≡◌, ℕ, suc, ◌+◌, ◌≤◌, List, [], ◌∷◌, length, refl}
use Rattle.std.proofs.Common.{subst, arith}
use Rattle.reader.specs.Codes.{At, IsRule, coded, Bodies, nothing, another, Frame, Room, Left, start, inside}
use Rattle.reader.specs.Limits.{deepest, most_bodies}
use Rattle.reader.specs.Tree.{Rules, rule, none, ◌▸◌, count}

-- no body too many
bodies_few : {bs : List ℕ} {d i j : ℕ} {ts : Rules} → Bodies bs d i ts j → count ts ≤ most_bodies
bodies_few nothing = omega arith
bodies_few (another b few r) = few

-- the rule opened last has no body too many
pub left_few : {bs : List ℕ} {f : Frame} {fs : List Frame} {p : ℕ} → Left bs (f ∷ fs) p → count f.so_far ≤ most_bodies
left_few (inside l r a b le) = bodies_few b

-- no rule too deep stands open
room_deep : (fs : List Frame) → Room fs → suc (length fs) ≤ deepest
room_deep [] r = omega arith
room_deep (f ∷ fs) r = r.0

pub left_deep : {bs : List ℕ} {fs : List Frame} {p : ℕ} → Left bs fs p → length fs ≤ deepest
left_deep start = omega arith
left_deep (inside {fs = fs} l r a b le) = room_deep fs r

-- no rule stands open at the start alone
left_start : {bs : List ℕ} {p : ℕ} → Left bs [] p → p ≡ 0
left_start start = refl

-- the head of the rule opened last has been read
pub left_head : {bs : List ℕ} {fs : List Frame} {i : ℕ} → Left bs fs i → Room fs → At bs i 1 → i + 4 ≤ length bs → Left bs (record { head = i + 1; so_far = none } ∷ fs) (i + 4)
left_head l r a le = inside l r a nothing le

-- the rule opened last closes, inside another
pub left_closed : {bs : List ℕ} {f g : Frame} {gs : List Frame} {p : ℕ} → Left bs (f ∷ g ∷ gs) p → At bs p 2 → Left bs (record { head = g.head; so_far = g.so_far ▸ rule f.head f.so_far } ∷ gs) (p + 1)
left_closed {gs = gs} (inside (inside l' r' a' b' le') r a b le) c =
    inside l' r' a' (another b' r.1 (coded (omega (arith, r.0)) a b c)) (omega (arith, c.0))

-- the whole rule closes
pub left_ended : {bs : List ℕ} {f : Frame} {p : ℕ} → Left bs (f ∷ []) p → At bs p 2 → IsRule bs 1 0 (rule f.head f.so_far) (p + 1)
left_ended {bs} {p = p} (inside {i = i} {ts = ts} l r a b le) c =
    subst (λ k. IsRule bs 1 k (rule (i + 1) ts) (p + 1)) (left_start l) (coded (omega arith) a b c)
