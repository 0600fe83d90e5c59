-- What each call answers, told from the tally alone, and the tally after it.
use Rattle.std.specs.Prelude.{◌≡◌, ℕ, ◌-◌, Bool, true, false, cond, ◌&&◌, T, ◌↔◌, List, [], ◌∷◌, ◌++◌, length, replicate, nat_le, nat_lt}
use Rattle.std.proofs.Math.Option.{Option, none, some}
use Rattle.logic.specs.Sets.{mask}
use Rattle.logic.specs.Rules.{Rule, Rules, head_of, supposing}
use Rattle.logic.specs.Charts.{Holds, AllHold}
use Rattle.logic.specs.Search.{Query, Outcome, succeeded, failed}
use Rattle.logic.specs.Check.{Answers, Rejects}
use Rattle.logic.specs.Store.{book_of, stores, numbers, number_of, RulesAsked}
use Rattle.reader.specs.Written.{Refusal, Kind}
use Rattle.law.specs.Standing.{Standing, nothing, Entry, entered, enter, enter_all}
use Rattle.law.specs.Limits.{most_suppositions, largest_budget, tree_bytes}
use Rattle.law.specs.Calls.{Call, add, seal, reopen, suppose, withdraw, ask, check, look, Answer, done, refused, long, accepted, rejected, told, handed, Tally, in_force, unless_refused}

-- ---- refusals

-- refused at place 0, unless the test passes
abbrev pub unless : Bool → ℕ → Option Refusal
unless true n = none
unless false n = some (record { number = n; place = 0 })

-- the first refusal, or else the second
abbrev pub or_else : Option Refusal → Option Refusal → Option Refusal
or_else (some f) g = some f
or_else none g = g

abbrev pub refusal_of : {K : Type 0} → Entry K → Option Refusal
refusal_of (Entry.refused f) = some f
refusal_of (entered ks r) = none

-- ---- answers, once a call is not refused

abbrev pub zeros : ℕ → List ℕ
zeros n = replicate n 0

-- what ask answers when its goal comes out so, and what is then in the buffer
abbrev pub found : List ℕ → Outcome → ℕ → Answer
found buffer (succeeded t) k = cond (nat_le (length t) (length buffer)) (Answer.yes k (length t)) (long k (length t))
found buffer failed k = Answer.no k
found buffer Outcome.spent k = Answer.spent k

abbrev pub filled : List ℕ → Outcome → List ℕ
filled buffer (succeeded t) = cond (nat_le (length t) (length buffer)) (t ++ zeros (length buffer - length t)) (zeros (length buffer))
filled buffer failed = zeros (length buffer)
filled buffer Outcome.spent = zeros (length buffer)

-- the query that a goal asks: its bodies are put in force with the rules, and its head is asked
abbrev pub goal_query : Rules → Rule → Query
goal_query rules goal =
    let book = book_of rules goal in
    let r = number_of (stores [] rules) goal in
    record { in_force = supposing book (mask (numbers [] rules)) r; name = head_of book r }

-- the bytes are one whole success tree of the goal
abbrev pub TreeOf : Bool → Rules → Rule → List ℕ → Type 0
TreeOf restart rules goal bs = Answers (book_of rules goal) restart (goal_query rules goal).name (goal_query rules goal ∷ []) bs

-- what check answers
pub data Checked (restart : Bool) (rules : Rules) (goal : Rule) (bs : List ℕ) : Answer → Type 0 where
  accepts : TreeOf restart rules goal bs → Checked restart rules goal bs accepted
  rejects : {p : ℕ} → Rejects (book_of rules goal) restart (goal_query rules goal).name (goal_query rules goal ∷ []) 0 bs p
      → Checked restart rules goal bs (rejected p)

module _ {K : Type 0} (kind : Kind K) (slots : ℕ) where
  -- what stands when the rules in force are entered into an empty draft
  abbrev pub standing : Tally → Standing K
  standing t = enter_all kind slots nothing (in_force t)

  -- the bytes are entered as this goal, behind what stands
  abbrev pub Goal : Tally → List ℕ → Rule → Type 0
  Goal t w goal = (ks : List K) × (enter kind slots (standing t) w ≡ entered ks goal)

  -- the refusals of entering a rule or goal as written
  abbrev pub entering : Tally → List ℕ → Option Refusal
  entering t w = refusal_of (enter kind slots (standing t) w)

  -- why a call is refused, if it is
  abbrev pub refusal : Tally → Call → Option Refusal
  refusal t (add rule) = entering t rule
  refusal t seal = none
  refusal t reopen = none
  refusal t (suppose rule) = or_else (unless (nat_lt (length t.supposed) most_suppositions) 30) (entering t rule)
  refusal t withdraw = unless (nat_lt 0 (length t.supposed)) 31
  refusal t (ask goal budget buffer restart) =
      or_else (unless (nat_le 1 budget && nat_le budget largest_budget) 32) (or_else (unless (nat_le (length buffer) tree_bytes) 33) (entering t goal))
  refusal t (check goal tree restart) = or_else (unless (nat_le (length tree) tree_bytes) 33) (entering t goal)
  refusal t (look goal chart release) = or_else (entering t goal) (unless (nat_lt release chart.size) 34)

  -- what a call that is not refused answers, and the buffer after it
  abbrev pub Says : Tally → Call → Answer → List ℕ → Type 0
  Says t (add rule) a b = (a ≡ done) × (b ≡ [])
  Says t seal a b = (a ≡ done) × (b ≡ [])
  Says t reopen a b = (a ≡ done) × (b ≡ [])
  Says t (suppose rule) a b = (a ≡ done) × (b ≡ [])
  Says t withdraw a b = (a ≡ done) × (b ≡ [])
  Says t (ask w budget buffer restart) a b =
      (goal : Rule) × Goal t w goal × (out : Outcome) × (k : ℕ) × RulesAsked restart (standing t).rules goal budget out k
      × (a ≡ found buffer out k) × (b ≡ filled buffer out)
  Says t (check w tree restart) a b =
      (goal : Rule) × Goal t w goal × Checked restart (standing t).rules goal tree a × (b ≡ [])
  Says t (look w chart release) a b =
      (goal : Rule) × Goal t w goal × (all one : Bool) × (T all ↔ AllHold chart release (standing t).rules) × (T one ↔ Holds chart release goal)
      × (a ≡ told all one) × (b ≡ [])

  -- what a call answers, and the buffer after it: a refusal leaves the buffer as it was
  pub data Defined (t : Tally) (c : Call) : Answer → List ℕ → Type 0 where
    refuses : {f : Refusal} → refusal t c ≡ some f → Defined t c (refused f) (handed c)
    answers : {a : Answer} {b : List ℕ} → refusal t c ≡ none → Says t c a b → Defined t c a b

  -- the tally after a call
  abbrev pub next : Tally → Call → Tally
  next t c = unless_refused t c (refusal t c)
