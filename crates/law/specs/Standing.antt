-- What stands: the keys and the rules that come of entering rules as written, one after the other, into an empty draft.
use Rattle.std.specs.Prelude.{ℕ, cond, List, [], ◌∷◌, length, nat_le}
use Rattle.std.proofs.Math.Option.{Option, some}
use Rattle.logic.specs.Rules.{Rule, Rules, none, more}
use Rattle.logic.specs.Store.{book_of}
use Rattle.keys.specs.Registers.{room}
use Rattle.reader.specs.Written.{Refusal, Reading, reads, unread, Kind, mentions}
use Rattle.book.specs.Limits.{most_records}
use Rattle.book.specs.Entering.{all_appear, left_out, numbered}

-- what stands: the keys in the order of their numbers, and the rules over these numbers
pub record Standing (K : Type 0) : Type 0 where
  pub keys : List K
  pub rules : Rules

-- at the start nothing stands
abbrev pub nothing : {K : Type 0} → Standing K
nothing = record { keys = []; rules = none }

-- what comes of entering a rule: a refusal; or the keys that are numbered then, and the rule over their numbers
pub data Entry (K : Type 0) : Type 0 where
  refused : Refusal → Entry K
  entered : List K → Rule → Entry K

-- the rules with one more behind them
abbrev pub behind : Rules → Rule → Rules
behind none r = more r none
behind (more x xs) r = more x (behind xs r)

module _ {K : Type 0} (kind : Kind K) (slots : ℕ) where
  -- A key for which no number is left is refused, and so is a rule by which there would be more records than a book holds.
  abbrev pub fit : Standing K → List K → Rule → Option ℕ → Entry K
  fit s ks r (some p) = refused (record { number = 11; place = p })
  fit s ks r Option.none = cond (nat_le (length (book_of s.rules r)) most_records) (entered ks r) (refused (record { number = 21; place = 0 }))

  abbrev pub enter_read : Standing K → Reading K → Entry K
  enter_read s (unread f) = refused f
  enter_read s (reads w) =
      let ks = all_appear kind.same s.keys (mentions w) in
      fit s ks (numbered kind.same ks w) (left_out kind.same (room slots) s.keys (mentions w))

  -- entering a rule as written where s stands
  abbrev pub enter : Standing K → List ℕ → Entry K
  enter s w = enter_read s (kind.reading w)

  -- what stands after it; a refused rule leaves what stands
  abbrev pub after_entry : Standing K → Entry K → Standing K
  after_entry s (refused f) = s
  after_entry s (entered ks r) = record { keys = ks; rules = behind s.rules r }

  abbrev pub enter_all : Standing K → List (List ℕ) → Standing K
  enter_all s [] = s
  enter_all s (w ∷ ws) = enter_all (after_entry s (enter s w)) ws

  -- what stood before each of the rules was entered
  abbrev pub stood : Standing K → List (List ℕ) → List (Standing K)
  stood s [] = []
  stood s (w ∷ ws) = s ∷ stood (after_entry s (enter s w)) ws
