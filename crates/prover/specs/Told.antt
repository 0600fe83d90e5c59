-- What each part of the search comes to, on every way down that the rules in force track.
use Rattle.std.specs.Prelude.{◌≡◌, ℕ, zero, ◌≤◌, Bool, true, false, List, ◌++◌, length, take, Ok, Err, Result}
use Rattle.logic.specs.Begun.{Tracks}
use Rattle.logic.specs.Rules.{head_of, bodies_of, supposing}
use Rattle.logic.specs.Search.{Query, Outcome, succeeded, failed, spent, Setting, Asked, Tried, Bodies}
use Rattle.book.specs.Books.{records_of}
use Rattle.prover.specs.Settings.{allowed, query_of}
use Rattle.prover.specs.Written.{Wrote}
use Rattle.prover.specs.declared.progress.Spent.{Spent}
use Rattle.prover.specs.declared.progress.Search.{Search}
use Rattle.prover.specs.declared.in_force.InForce.{InForce}

-- what a search is asked
abbrev pub setting_of : Search → Setting
setting_of s =
    record { book = records_of s.book.now; restart = allowed s.restart; goal = s.goal.index; budget = s.progress.budget }

-- A part of the search leaves what is asked as it is, and the buffer where it is; queries are only counted.
pub record Kept (s t : Search) : Type 0 where
  pub setting : setting_of t ≡ setting_of s
  pub buffer : t.out.ghost_name ≡ s.out.ghost_name
  pub room : length t.out.now ≡ length s.out.now
  pub grown : s.progress.count ≤ t.progress.count

-- P of every way down that what is in force tracks
abbrev pub EachWay : InForce → (List Query → Type 0) → Type 0
EachWay f P = (way : List Query) → Tracks way f.set.bits f.begun → P way

-- a name is asked, with n queries counted before and m after
abbrev pub NameAsked : Setting → InForce → (x n m : ℕ) → Outcome → Type 0
NameAsked s f x n m o = EachWay f (λ way. Asked s way (query_of f.set.bits x) n o m)

-- all records are tried for a name, and then restart
abbrev pub RulesTried : Setting → InForce → (x n m : ℕ) → Outcome → Type 0
RulesTried s f x n m o = EachWay f (λ way. Tried s way (query_of f.set.bits x) zero n o m)

-- the bodies of record r are asked
abbrev pub BodiesAsked : Setting → InForce → (r n m : ℕ) → Outcome → Type 0
BodiesAsked s f r n m o = EachWay f (λ way. Bodies s way f.set.bits (bodies_of s.book r) n o m)

-- the head of record r is asked, with its bodies put in force
abbrev pub BodyAsked : Setting → InForce → (r n m : ℕ) → Outcome → Type 0
BodyAsked s f r n m o = EachWay f (λ way. Asked s way (query_of (supposing s.book f.set.bits r) (head_of s.book r)) n o m)

-- Of the outcome, P holds. The bytes u and those of the tree were written behind the n bytes that were there; where there is no
-- tree, those n bytes are kept.
abbrev pub Came : (P : Outcome → Type 0) (u : List ℕ) (out : List ℕ) (n : ℕ) (out' : List ℕ) (n' : ℕ) → Result Bool Spent → Type 0
Came P u out n out' n' (Ok true) = (t : List ℕ) × P (succeeded t) × Wrote out n (u ++ t) out' n'
Came P u out n out' n' (Ok false) = P failed × (n' ≡ n) × (take n out' ≡ take n out)
Came P u out n out' n' (Err _) = P spent

-- the same, from one state of the search to another
abbrev pub Told : (P : (n m : ℕ) → Outcome → Type 0) (u : List ℕ) (s t : Search) → Result Bool Spent → Type 0
Told P u s t r = Came (P s.progress.count t.progress.count) u s.out.now s.progress.len t.out.now t.progress.len r

-- from one state of the search to another the bytes u were written
abbrev pub Writes : (s : Search) (u : List ℕ) (t : Search) → Type 0
Writes s u t = Wrote s.out.now s.progress.len u t.out.now t.progress.len
