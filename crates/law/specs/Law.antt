-- The law over every list of calls: what never occurs.
use Rattle.std.specs.Prelude.{◌≡◌, ℕ, ◌<◌, Bool, true, false, List, [], ◌∷◌, ◌++◌, length, take}
use Rattle.logic.specs.Rules.{Rule}
use Rattle.logic.specs.Charts.{Chart, Lawful}
use Rattle.reader.specs.Written.{Refusal, Kind}
use Rattle.law.specs.Calls.{Call, ask, check, look, Answer, refused, long, accepted, told, handed, Tally, at_start}
use Rattle.law.specs.Defined.{standing, Goal, TreeOf, Defined, next}
use Rattle.law.specs.Runs.{Event, AllKeep, Run, Happens}

module _ {K : Type 0} (kind : Kind K) (slots : ℕ) where
  -- the bytes are one whole success tree for the goal as written, at this tally
  abbrev pub TreeFor : Tally → List ℕ → Bool → List ℕ → Type 0
  TreeFor t goal restart tree = (r : Rule) × Goal kind slots t goal r × TreeOf restart (standing kind slots t).rules r tree

  -- at this tally look tells: at the release all rules in force hold, and the goal does not
  abbrev pub BreaksAt : Tally → List ℕ → Chart → ℕ → Type 0
  BreaksAt t goal chart release = Defined kind slots t (look goal chart release) (told true false) []

  -- in a run from the start, at tally t, the call gets this answer and leaves this buffer, and rest follows
  abbrev pub Occurs : Tally → Call → Answer → List ℕ → List Event → Type 0
  Occurs t c a b rest =
      (run : List Event) × Run kind slots at_start run
      × Happens kind slots at_start run t (record { call = c; answer = a; buffer = b }) rest

  pub record Law : Type 0 where
    -- A refused call leaves the tally and the buffer as they were.
    pub refused_leaves : (t : Tally) (c : Call) (f : Refusal) (b : List ℕ) (rest : List Event)
        → Occurs t c (refused f) b rest → (next kind slots t c ≡ t) × (b ≡ handed c)
    -- Where check accepts a tree without restart in it (one that is a tree where restart is not allowed), no lawful chart breaks the goal;
    pub accepted_holds : (t : Tally) (goal tree : List ℕ) (restart : Bool) (b : List ℕ) (rest : List Event)
        → Occurs t (check goal tree restart) accepted b rest → TreeFor t goal false tree
        → (chart : Chart) → Lawful chart → (release : ℕ) → BreaksAt t goal chart release → ⊥
    -- where restart is not allowed, only such trees are accepted;
    pub accepted_plain : (t : Tally) (goal tree b : List ℕ) (rest : List Event)
        → Occurs t (check goal tree false) accepted b rest → TreeFor t goal false tree
    -- and where check accepts any tree, no lawful chart of a single release breaks the goal.
    pub accepted_holds_now : (t : Tally) (goal tree : List ℕ) (restart : Bool) (b : List ℕ) (rest : List Event)
        → Occurs t (check goal tree restart) accepted b rest
        → (chart : Chart) → Lawful chart → chart.size ≡ 1 → (release : ℕ) → BreaksAt t goal chart release → ⊥
    -- Where ask without restart says no, a lawful chart breaks the goal at one of its releases;
    pub no_breaks : (t : Tally) (goal : List ℕ) (budget : ℕ) (buffer : List ℕ) (k : ℕ) (b : List ℕ) (rest : List Event)
        → Occurs t (ask goal budget buffer false) (Answer.no k) b rest
        → (chart : Chart) × Lawful chart × (release : ℕ) × (release < chart.size) × BreaksAt t goal chart release
    -- with restart, one of a single release.
    pub no_breaks_now : (t : Tally) (goal : List ℕ) (budget : ℕ) (buffer : List ℕ) (k : ℕ) (b : List ℕ) (rest : List Event)
        → Occurs t (ask goal budget buffer true) (Answer.no k) b rest
        → (chart : Chart) × Lawful chart × (chart.size ≡ 1) × (release : ℕ) × (release < chart.size) × BreaksAt t goal chart release
    -- Where ask says yes, each later check of that tree for that goal, with the same choice of restart, is accepted,
    -- if between them there is no reopen, and no suppose or withdraw but refused ones.
    pub yes_checks : (t : Tally) (goal : List ℕ) (budget : ℕ) (buffer : List ℕ) (restart : Bool) (k n : ℕ) (b : List ℕ)
        (between : List Event) (a : Answer) (b' : List ℕ) (others : List Event)
        → Occurs t (ask goal budget buffer restart) (Answer.yes k n) b
        (between ++ record { call = check goal (take n b) restart; answer = a; buffer = b' } ∷ others)
        → AllKeep between → a ≡ accepted
    -- Ask says yes only where the goal has a success tree: the first n bytes of the buffer are one;
    pub yes_tree : (t : Tally) (goal : List ℕ) (budget : ℕ) (buffer : List ℕ) (restart : Bool) (k n : ℕ) (b : List ℕ) (rest : List Event)
        → Occurs t (ask goal budget buffer restart) (Answer.yes k n) b rest → TreeFor t goal restart (take n b)
    -- too long only where it has one that is longer than the buffer;
    pub long_tree : (t : Tally) (goal : List ℕ) (budget : ℕ) (buffer : List ℕ) (restart : Bool) (k n : ℕ) (b : List ℕ) (rest : List Event)
        → Occurs t (ask goal budget buffer restart) (long k n) b rest
        → (tree : List ℕ) × TreeFor t goal restart tree × (length tree ≡ n) × (length buffer < n)
    -- no only where it has none.
    pub no_tree : (t : Tally) (goal : List ℕ) (budget : ℕ) (buffer : List ℕ) (restart : Bool) (k : ℕ) (b : List ℕ) (rest : List Event)
        → Occurs t (ask goal budget buffer restart) (Answer.no k) b rest
        → (tree : List ℕ) → TreeFor t goal restart tree → ⊥

-- The law holds of each kind of key and any number of slots.
abbrev pub LawHolds : Type 0 → Type 0
LawHolds K = (kind : Kind K) (slots : ℕ) → Law kind slots
