-- A goal that is taken in and given back.
use Rattle.std.proofs.Common.{◌≡◌, ℕ, ◌<◌, true, List, [], length, Ok, Err, refl, ap, ◌∙◌, subst, mod-eq_of_lt, arith}
use Rattle.arrayvec.specs.ArrayVec.{ArrayVec}
use Rattle.logic.specs.Store.{stores}
use Rattle.reader.specs.Written.{Kind}
use Rattle.book.specs.Books.{records_of, names_of}
use Rattle.book.specs.declared.book.Book.{Book}
use Rattle.book.specs.declared.book.Mark.{Mark}
use Rattle.book.specs.declared.number.RecordNumber.{RecordNumber}
use Rattle.law.specs.Standing.{Standing, Entry, entered, enter}
use Rattle.law.specs.Defined.{standing}
use Rattle.law.proofs.Kept.{standing_kept}
use Rattle.law.proofs.RecordsKept.{records_kept, force_below, number_within}
use Rattle.service.specs.Contents.{held, held_with, Holds, TakenIn, TakesIn, GivenBack}
use Rattle.service.specs.Goals.{GoalIn, GoalRefused, GoalHeld}
use Rattle.service.specs.Represents.{mark_of}
use Rattle.service.specs.declared.fault.Fault.{Fault}
use Rattle.service.specs.declared.state.Draft.{Draft}
use Rattle.service.proofs.Doing.{refused_in}
use Rattle.service.proofs.Holding.{cut_back, needed_standing}
use Rattle.service.proofs.Supposing.{same_mark}

module _ {K : Type 0} (kind : Kind K) (w : List ℕ) where
  -- the record of the goal is in use
  pub recorded : (slots : ℕ) (s : Standing K) (b : Book) (n : RecordNumber) → GoalIn kind w slots s b n → n.index < length (records_of b)
  recorded slots s b n x = omega (arith, x.number_is, ap length x.book_is.records, (number_within x.goal (stores [] s.rules)).1)

  module _ (d d' : Draft K) where
    -- the goal is entered behind what stands
    record Behind (slots : ℕ) (s : Standing K) (n : RecordNumber) : Type 0 where
      goal_in : GoalIn kind w slots s d'.book n
      holds : Holds slots (held_with s goal_in.keys goal_in.goal) d'

    behind : (slots : ℕ) (s : Standing K) (n : RecordNumber) → TakenIn slots s (enter kind slots s w) (Ok n) d' → Behind slots s n
    behind slots s n = go (enter kind slots s w) refl
      where
        go : (e : Entry K) → enter kind slots s w ≡ e → TakenIn slots s e (Ok n) d' → Behind slots s n
        go (entered ks r) e h = record {
          goal_in = record { keys = ks; goal = r; is = e; number_is = h.0; book_is = h.1.book_is };
          holds = h.1;
        }
        go (Entry.refused f) e h = absurd h

    module _ (ms : ArrayVec Mark) where
      pub goal_refused : (e : Fault) → TakesIn kind w (Err e) d d'
          → GoalRefused kind w (record { draft = d; marks = ms }) e (record { draft = d'; marks = ms })
      goal_refused e takes_in slots t h =
          let s = standing kind slots t in
          let x = refused_in kind w d d' slots s e (takes_in slots s h.holds) in
          (x.is, record { shut = h.shut; marked = h.marked; holds = x.holds })

      -- cutting back to where the book stood before the goal
      pub goal_held : ((k : K) → kind.same k k ≡ true) → (d'' : Draft K) (n : RecordNumber) (m : Mark) → TakesIn kind w (Ok n) d d'
          → m.records ≡ length (records_of d.book) → m.names ≡ names_of d.book → GivenBack d' m d''
          → GoalHeld kind w (record { draft = d; marks = ms }) d'.book n (record { draft = d''; marks = ms })
      goal_held reflexive d'' n m takes_in records names back slots t h =
          let s = standing kind slots t in
          let x = behind slots s n (takes_in slots s h.holds) in
          let is_mark : m ≡ mark_of s =
          same_mark m (mark_of s) (records ∙ ap length h.holds.book_is.records) (names ∙ h.holds.book_is.names) in (
            x.goal_in,
            record {
              shut = h.shut;
              marked = h.marked;
              holds =
                  cut_back d' d'' slots (held s) (held_with s x.goal_in.keys x.goal_in.goal)
                  record {
                    keys = (standing_kept K kind slots).goal_keys s w x.goal_in.keys x.goal_in.goal x.goal_in.is;
                    records = records_kept.front (stores [] s.rules) x.goal_in.goal;
                    in_force = mod-eq_of_lt (force_below s.rules);
                    named = needed_standing (length s.keys) s.rules ((standing_kept K kind slots).headed reflexive t);
                  }
                  x.holds (subst (λ (k : Mark). GivenBack d' k d'') is_mark back);
            },
          )
