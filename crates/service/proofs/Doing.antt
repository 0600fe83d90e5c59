-- What each call does, from what its parts leave behind.
use Rattle.std.proofs.Common.{◌≡◌, ℕ, List, [], map, Ok, Err, sym, refl, ap, ◌∙◌, subst}
use mathlib.Core.Option.{none, some}
use Rattle.arrayvec.specs.ArrayVec.{ArrayVec}
use Rattle.logic.specs.Rules.{Rule}
use Rattle.logic.specs.Store.{store}
use Rattle.keys.specs.Registers.{keys_in, slots_of}
use Rattle.reader.specs.Written.{Refusal, Kind}
use Rattle.book.specs.Books.{Shows, PutInForce}
use Rattle.book.specs.declared.book.Book.{Book}
use Rattle.book.specs.declared.book.Mark.{Mark}
use Rattle.book.specs.declared.number.RecordNumber.{RecordNumber}
use Rattle.law.specs.Standing.{Standing, Entry, entered, enter, after_entry, stood}
use Rattle.law.specs.Calls.{Call, add, seal, at_start, Answer, done, refused, handed, Tally, Takes, taken, unless_refused}
use Rattle.law.specs.Defined.{standing, refusal_of, refusal, Says, Defined, refuses, answers, next}
use Rattle.law.proofs.Kept.{standing_kept}
use Rattle.service.specs.Contents.{held, Holds, TakenIn, TakesIn}
use Rattle.service.specs.Faults as faults
use Rattle.service.specs.Represents.{mark_of, unsupposed, Represents, Does}
use Rattle.service.specs.declared.fault.Fault.{Fault}
use Rattle.service.specs.declared.state.Draft.{Draft}
use Rattle.service.specs.declared.state.State.{State}
use Rattle.service.specs.declared.state.State.TheVariants.{Open, Shut}
use Rattle.service.proofs.Holding.{put_in}

module _ {K : Type 0} (kind : Kind K) (slots : ℕ) where
  -- what a call does at one tally
  abbrev pub DoesAt : Tally → Call → Answer → List ℕ → State K → Type 0
  DoesAt t c a b s = Takes t c × Defined kind slots t c a b × Represents kind slots (next kind slots t c) s

  -- a call that is not refused
  pub answered : (t : Tally) (c : Call) (a : Answer) (b : List ℕ) (s : State K) → Takes t c → refusal kind slots t c ≡ none
      → Says kind slots t c a b → Represents kind slots (taken t c) s → DoesAt t c a b s
  answered t c a b s takes e says r =
      (takes, answers e says, subst (λ (u : Tally). Represents kind slots u s) (sym (ap (unless_refused t c) e)) r)

  -- a call that is refused
  pub turned_down : (t : Tally) (c : Call) (f : Refusal) (s : State K) → Takes t c → refusal kind slots t c ≡ some f
      → Represents kind slots t s → DoesAt t c (refused f) (handed c) s
  turned_down t c f s takes e r =
      (takes, refuses e, subst (λ (u : Tally). Represents kind slots u s) (sym (ap (unless_refused t c) e)) r)

module _ {K : Type 0} (kind : Kind K) (w : List ℕ) (d d' : Draft K) where
  -- what is entered, and what is held then
  pub record Entered (slots : ℕ) (s : Standing K) (n : RecordNumber) : Type 0 where
    pub ks : List K
    pub rule : Rule
    pub is : enter kind slots s w ≡ entered ks rule
    pub holds : (b'' : Book) → PutInForce d'.book n.index b''
        → Holds slots (held (after_entry kind slots s (enter kind slots s w))) (record { register = d'.register; book = b'' })

  pub entered_in : (slots : ℕ) (s : Standing K) (n : RecordNumber) → TakenIn slots s (enter kind slots s w) (Ok n) d' → Entered slots s n
  entered_in slots s n = go (enter kind slots s w) refl
    where
      go : (e : Entry K) → enter kind slots s w ≡ e → TakenIn slots s e (Ok n) d' → Entered slots s n
      go (entered ks r) e h = record {
        ks = ks;
        rule = r;
        is = e;
        holds = λ b'' put.
            subst (λ (x : Entry K). Holds slots (held (after_entry kind slots s x)) (record { register = d'.register; book = b'' })) (sym e)
            (put_in d' b'' slots s ks r n.index h.0 h.1 put);
      }
      go (Entry.refused f) e h = absurd h

  pub record Refused (slots : ℕ) (s : Standing K) (e : Fault) : Type 0 where
    pub is : enter kind slots s w ≡ Entry.refused (faults.refusal e)
    pub holds : Holds slots (held s) d'

  pub refused_in : (slots : ℕ) (s : Standing K) (e : Fault) → TakenIn slots s (enter kind slots s w) (Err e) d' → Refused slots s e
  refused_in slots s e = go (enter kind slots s w) refl
    where
      go : (x : Entry K) → enter kind slots s w ≡ x → TakenIn slots s x (Err e) d' → Refused slots s e
      go (entered ks r) is h = absurd h
      go (Entry.refused f) is h = record { is = is ∙ ap Entry.refused h.0; holds = h.1 }

  pub does_add : (n : RecordNumber) (b'' : Book) → TakesIn kind w (Ok n) d d' → PutInForce d'.book n.index b''
      → Does kind (add w) (Open d) done [] (Open (record { register = d'.register; book = b'' }))
  does_add n b'' takes_in put slots t h =
      let x = entered_in slots (standing kind slots t) n (takes_in slots (standing kind slots t) h.holds) in
      answered kind slots t (add w) done [] (Open (record { register = d'.register; book = b'' })) h.unsealed (ap refusal_of x.is) (refl, refl)
      record {
        unsealed = h.unsealed;
        bare = h.bare;
        holds =
            subst (λ (s : Standing K). Holds slots (held s) (record { register = d'.register; book = b'' })) (sym ((standing_kept K kind slots).added t w h.bare)) (x.holds b'' put);
      }

  pub does_add_refused : (e : Fault) → TakesIn kind w (Err e) d d'
      → Does kind (add w) (Open d) (refused (faults.refusal e)) [] (Open d')
  does_add_refused e takes_in slots t h =
      let x = refused_in slots (standing kind slots t) e (takes_in slots (standing kind slots t) h.holds) in
      turned_down kind slots t (add w) (faults.refusal e) (Open d') h.unsealed (ap refusal_of x.is)
      record { unsealed = h.unsealed; bare = h.bare; holds = x.holds }

module _ {K : Type 0} (kind : Kind K) (d : Draft K) where
  pub does_new : (slots : ℕ) → keys_in d.register ≡ [] → slots_of d.register ≡ slots → Shows d.book [] 0 0
      → Represents kind slots at_start (Open d)
  unfolding store
  does_new slots keys size shows = record {
    unsealed = refl;
    bare = refl;
    holds = record { slots_are = size; keys_are = keys; book_is = shows };
  }

  pub does_seal : (ms : ArrayVec Mark) → ms.items ≡ []
      → Does kind seal (Open d) done [] (Shut (record { draft = d; marks = ms }))
  does_seal ms none_set slots t h =
      answered kind slots t seal done [] (Shut (record { draft = d; marks = ms })) h.unsealed refl (refl, refl)
      record {
        shut = refl;
        marked = none_set ∙ ap (λ (ws : List (List ℕ)). map mark_of (stood kind slots (unsupposed kind slots t) ws)) (sym h.bare);
        holds = h.holds;
      }
