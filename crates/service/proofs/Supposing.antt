-- What suppose, withdraw and reopen do.
use Rattle.std.proofs.Common.{◌≡◌, ℕ, ◌<◌, ◌≤◌, Bool, true, false, ltb, List, [], ◌∷◌, ◌++◌, map, length, slice_get, Some, None, Option as Maybe, option_to_list, ok_or, IsSome, ◌↔◌, Ok, Err, Result, sym, refl, ap, ◌∙◌, subst, ap₂, arith}
use Rattle.std.proofs.lemmas.Bool.{lt-ltb, le-ltb}
use mathlib.Core.Option.{Option, some}
use Rattle.std.proofs.lemmas.List.{append-nil, length-map, length_push, map_push, same_from_push}
use Rattle.arrayvec.specs.ArrayVec.{ArrayVec}
use Rattle.logic.specs.Store.{stores}
use Rattle.reader.specs.Written.{Refusal, Kind}
use Rattle.book.specs.Books.{PutInForce, records_of, names_of, needed}
use Rattle.book.specs.declared.book.Book.{Book}
use Rattle.book.specs.declared.book.Mark.{Mark}
use Rattle.book.specs.declared.fault.BookFault.{BookFault}
use Rattle.book.specs.declared.fault.BookFault.TheVariants.{NoneStanding}
use Rattle.book.specs.declared.number.RecordNumber.{RecordNumber}
use Rattle.law.specs.Limits.{most_suppositions}
use Rattle.law.specs.Standing.{Standing, nothing, enter_all, stood}
use Rattle.law.specs.Calls.{suppose, withdraw, reopen, done, refused, Tally, taken}
use Rattle.law.specs.Defined.{standing, unless, or_else, entering, refusal_of}
use Rattle.law.specs.Kept.{Grows}
use Rattle.law.proofs.Refusals.{none_or, passed_unless}
use Rattle.law.proofs.Kept.{standing_kept, all_append, stood_push, stood_length}
use Rattle.service.specs.Contents.{held, Holds, TakesIn, GivenBack}
use Rattle.service.specs.Faults as faults
use Rattle.service.specs.Represents.{mark_of, unsupposed, SealedHolds, Does}
use Rattle.service.specs.declared.fault.Fault.{Fault}
use Rattle.service.specs.declared.fault.Fault.TheVariants as fault
use Rattle.service.specs.declared.state.Draft.{Draft}
use Rattle.service.specs.declared.state.Sealed.{Sealed}
use Rattle.service.specs.declared.state.State.TheVariants.{Open, Shut}
use Rattle.service.proofs.Holding.{First, cut_back, needed_standing}
use Rattle.service.proofs.Doing.{answered, turned_down, entered_in, refused_in}

-- ---- lists with a last

record Last {X : Type 0} (xs : List X) : Type 0 where
  front : List X
  last : X
  split : xs ≡ front ++ last ∷ []

with_last : {X : Type 0} (x : X) (xs : List X) → Last (x ∷ xs)
with_last x [] = record { front = []; last = x; split = refl }
with_last {X} x (y ∷ ys) =
    let l = with_last y ys in
    record { front = x ∷ l.front; last = l.last; split = ap (λ (zs : List X). x ∷ zs) l.split }

has_last : {X : Type 0} (xs : List X) → 0 < length xs → Last xs
has_last [] l = absurd (omega (arith, l))
has_last (x ∷ xs) l = with_last x xs

pub same_mark : (m n : Mark) → m.records ≡ n.records → m.names ≡ n.names → m ≡ n
same_mark m n p q = λ i. record { records = p i; names = q i }

-- what grows leads back to what it grew from
first_held : {K : Type 0} (s s' : Standing K) → Grows s s' → needed (stores [] s.rules) ≤ length s.keys
    → First (held s) (held s')
first_held s s' grows named = record { keys = grows.keys; records = grows.records; in_force = grows.in_force; named = named }

module _ {K : Type 0} (kind : Kind K) (slots : ℕ) where
  -- there is a mark for each supposition
  marked_length : (t : Tally) (s : Sealed K) → SealedHolds kind slots t s → length (s.marks.items) ≡ length t.supposed
  marked_length t s h =
      ap length h.marked ∙ length-map (stood kind slots (unsupposed kind slots t) t.supposed) mark_of
      ∙ stood_length kind slots (unsupposed kind slots t) t.supposed

  -- what stands is what comes of the suppositions behind the rules added
  standing_is : (t : Tally) → standing kind slots t ≡ enter_all kind slots (unsupposed kind slots t) t.supposed
  standing_is t = all_append kind slots nothing t.added t.supposed

-- ---- suppose

module _ {K : Type 0} (kind : Kind K) (w : List ℕ) (d d' : Draft K) (ms : ArrayVec Mark) where
  pub does_suppose : (n : RecordNumber) (b'' : Book) (m : Mark) (ms' : ArrayVec Mark) → length (ms.items) < most_suppositions
      → m.records ≡ length (records_of d.book) → m.names ≡ names_of d.book
      → TakesIn kind w (Ok n) d d' → PutInForce d'.book n.index b'' → ms'.items ≡ ms.items ++ m ∷ []
      → Does kind (suppose w) (Shut (record { draft = d; marks = ms })) done [] (Shut (record { draft = record { register = d'.register; book = b'' }; marks = ms' }))
  does_suppose n b'' m ms' few records names takes_in put more slots t h =
      let s = standing kind slots t in
      let u = unsupposed kind slots t in
      let x = entered_in kind w d d' slots s n (takes_in slots s h.holds) in
      let count = marked_length kind slots t (record { draft = d; marks = ms }) h in
      let is_mark : m ≡ mark_of s =
      same_mark m (mark_of s) (records ∙ ap length h.holds.book_is.records) (names ∙ h.holds.book_is.names) in
      answered kind slots t (suppose w) done [] (Shut (record { draft = record { register = d'.register; book = b'' }; marks = ms' })) h.shut
      (none_or (passed_unless 30 (lt-ltb (length t.supposed) most_suppositions (omega (arith, count, few)))) (ap refusal_of x.is))
      (refl, refl)
      record {
        shut = h.shut;
        marked =
            more ∙ ap₂ (λ (l : List Mark) (k : Mark). l ++ k ∷ []) h.marked (is_mark ∙ ap mark_of (standing_is kind slots t))
            ∙ sym (map_push mark_of (stood kind slots u t.supposed) (enter_all kind slots u t.supposed))
            ∙ ap (map mark_of) (sym (stood_push kind slots u t.supposed w));
        holds = subst (λ (s' : Standing K). Holds slots (held s') (record { register = d'.register; book = b'' })) (sym ((standing_kept K kind slots).supposed t w)) (x.holds b'' put);
      }

  pub does_suppose_refused : (e : Fault) → length (ms.items) < most_suppositions → TakesIn kind w (Err e) d d'
      → Does kind (suppose w) (Shut (record { draft = d; marks = ms })) (refused (faults.refusal e)) []
      (Shut (record { draft = d'; marks = ms }))
  does_suppose_refused e few takes_in slots t h =
      let s = standing kind slots t in
      let x = refused_in kind w d d' slots s e (takes_in slots s h.holds) in
      let count = marked_length kind slots t (record { draft = d; marks = ms }) h in
      turned_down kind slots t (suppose w) (faults.refusal e) (Shut (record { draft = d'; marks = ms })) h.shut
      (ap (λ (f : Option Refusal). or_else f (entering kind slots t w))
      (passed_unless 30 (lt-ltb (length t.supposed) most_suppositions (omega (arith, count, few)))) ∙ ap refusal_of x.is)
      record { shut = h.shut; marked = h.marked; holds = x.holds }

module _ {K : Type 0} (kind : Kind K) (s : Sealed K) where
  pub does_suppose_full : (w : List ℕ) → (length (s.marks.items) < most_suppositions → ⊥)
      → Does kind (suppose w) (Shut s) (refused (record { number = 30; place = 0 })) [] (Shut s)
  does_suppose_full w full slots t h =
      let count = marked_length kind slots t s h in
      let over : ltb (length t.supposed) most_suppositions ≡ false =
      le-ltb (length t.supposed) most_suppositions (omega (arith, count, full)) in
      turned_down kind slots t (suppose w) (record { number = 30; place = 0 }) (Shut s) h.shut
      (ap (λ (x : Bool). or_else (unless x 30) (entering kind slots t w)) over) h

-- ---- withdraw

-- the fault, where there is one
abbrev fault_of : {X : Type 0} → Result X BookFault → BookFault
fault_of (Ok x) = NoneStanding
fault_of (Err f) = f

-- a list that would leave a last mark, were it not empty
none_marked : (xs : List Mark) → (0 < length xs → IsSome {T = Mark} None) → length xs ≡ 0
none_marked [] e = refl
none_marked (x ∷ xs) e = let false_is_true = e (omega arith) in cc

module _ {K : Type 0} (kind : Kind K) (d : Draft K) (ms : ArrayVec Mark) where
  pub does_withdraw_none : (ms' : ArrayVec Mark) (o : Maybe Mark) (f : BookFault) → ms.items ≡ ms'.items ++ option_to_list o
      → (IsSome o ↔ (0 < length ms.items)) → o ≡ None → Err f ≡ ok_or o NoneStanding
      → Does kind withdraw (Shut (record { draft = d; marks = ms })) (refused (faults.refusal (fault.Book f))) []
      (Shut (record { draft = d; marks = ms' }))
  does_withdraw_none ms' o f parts some_left none_left is slots t h =
      let count = marked_length kind slots t (record { draft = d; marks = ms }) h in
      let none_set : ms.items ≡ ms'.items = parts ∙ ap (λ (x : Maybe Mark). ms'.items ++ option_to_list x) none_left ∙ append-nil ms'.items in
      let none_supposed : length t.supposed ≡ 0 = sym count ∙ none_marked ms.items (λ l. subst IsSome none_left (some_left.1 l)) in
      turned_down kind slots t withdraw (faults.refusal (fault.Book f)) (Shut (record { draft = d; marks = ms' })) h.shut
      (ap (λ (k : ℕ). unless (ltb 0 k) 31) none_supposed
      ∙ ap (λ (x : BookFault). some (faults.refusal (fault.Book x))) (sym (ap fault_of (is ∙ ap (λ (x : Maybe Mark). ok_or x NoneStanding) none_left))))
      record { shut = h.shut; marked = sym none_set ∙ h.marked; holds = h.holds }

module _ {K : Type 0} (kind : Kind K) (reflexive : (k : K) → kind.same k k ≡ true) (d d' : Draft K) (ms : ArrayVec Mark) (m : Mark) where
  -- cutting back to the mark of what stood at a tally
  back_to : (slots : ℕ) (t t₀ : Tally) → Grows (standing kind slots t₀) (standing kind slots t) → m ≡ mark_of (standing kind slots t₀)
      → Holds slots (held (standing kind slots t)) d → GivenBack d m d' → Holds slots (held (standing kind slots t₀)) d'
  back_to slots t t₀ grows is h back =
      let s₀ = standing kind slots t₀ in
      cut_back d d' slots (held s₀) (held (standing kind slots t))
      (first_held s₀ (standing kind slots t) grows (needed_standing (length s₀.keys) s₀.rules ((standing_kept K kind slots).headed reflexive t₀)))
      h (subst (λ (k : Mark). GivenBack d k d') is back)

  pub does_withdraw : (ms' : ArrayVec Mark) (o : Maybe Mark) → ms.items ≡ ms'.items ++ option_to_list o → o ≡ Some m → GivenBack d m d'
      → Does kind withdraw (Shut (record { draft = d; marks = ms })) done [] (Shut (record { draft = d'; marks = ms' }))
  does_withdraw ms' o parts is back slots t h =
      let fewer : ms.items ≡ ms'.items ++ m ∷ [] = parts ∙ ap (λ (x : Maybe Mark). ms'.items ++ option_to_list x) is in
      let count = marked_length kind slots t (record { draft = d; marks = ms }) h in
      let some' : 0 < length t.supposed = omega (arith, count, ap length fewer, length_push (ms'.items) m) in
      let l = has_last t.supposed some' in
      let u = unsupposed kind slots t in
      let t₀ : Tally = record { added = t.added; supposed = l.front; sealed = t.sealed } in
      let before : taken t withdraw ≡ t₀ =
      ap (λ (ws : List (List ℕ)). taken (record { added = t.added; supposed = ws; sealed = t.sealed }) withdraw) l.split
      ∙ (standing_kept K kind slots).withdrawn t₀ l.last in
      let marks : ms'.items ++ m ∷ [] ≡ map mark_of (stood kind slots u l.front) ++ mark_of (enter_all kind slots u l.front) ∷ [] =
      sym fewer ∙ h.marked ∙ ap (λ (ws : List (List ℕ)). map mark_of (stood kind slots u ws)) l.split
      ∙ ap (map mark_of) (stood_push kind slots u l.front l.last)
      ∙ map_push mark_of (stood kind slots u l.front) (enter_all kind slots u l.front) in
      let parts = same_from_push (ms'.items) (map mark_of (stood kind slots u l.front)) m (mark_of (enter_all kind slots u l.front)) marks in
      let grows = subst (λ (v : Tally). Grows (standing kind slots v) (standing kind slots t)) before ((standing_kept K kind slots).withdraw_front t) in
      answered kind slots t withdraw done [] (Shut (record { draft = d'; marks = ms' })) h.shut
      (passed_unless 31 (lt-ltb 0 (length t.supposed) some')) (refl, refl)
      (subst (λ (v : Tally). SealedHolds kind slots v (record { draft = d'; marks = ms' })) (sym before)
      record {
        shut = h.shut;
        marked = parts.0;
        holds = back_to slots t t₀ grows (parts.1 ∙ ap mark_of (sym (standing_is kind slots t₀))) h.holds back;
      })

  -- ---- reopen

  pub does_reopen : slice_get ms.items 0 ≡ Some m → GivenBack d m d'
      → Does kind reopen (Shut (record { draft = d; marks = ms })) done [] (Open d')
  does_reopen first back slots t h =
      let u = unsupposed kind slots t in
      let bare : standing kind slots (taken t reopen) ≡ u = ap (enter_all kind slots nothing) (append-nil t.added) in
      answered kind slots t reopen done [] (Open d') h.shut refl (refl, refl)
      record {
        unsealed = refl;
        bare = refl;
        holds =
            back_to slots t (taken t reopen) ((standing_kept K kind slots).reopen_front t)
            (first_mark u t.supposed (sym first ∙ ap (λ (l : List Mark). slice_get l 0) h.marked) ∙ ap mark_of (sym bare)) h.holds back;
      }
    where
      mark_or : Maybe Mark → Mark
      mark_or None = m
      mark_or (Some k) = k

      first_mark : (u : Standing K) (ws : List (List ℕ)) → Some m ≡ slice_get (map mark_of (stood kind slots u ws)) 0 → m ≡ mark_of u
      first_mark u [] e = cc
      first_mark u (v ∷ ws) e = ap mark_or e

module _ {K : Type 0} (kind : Kind K) (d : Draft K) (ms : ArrayVec Mark) where
  pub does_reopen_bare : slice_get ms.items 0 ≡ None → Does kind reopen (Shut (record { draft = d; marks = ms })) done [] (Open d)
  does_reopen_bare none_set slots t h =
      let none_supposed : t.supposed ≡ [] = none_supposed_from t.supposed (unsupposed kind slots t) (sym none_set ∙ ap (λ (l : List Mark). slice_get l 0) h.marked) in
      answered kind slots t reopen done [] (Open d) h.shut refl (refl, refl)
      record {
        unsealed = refl;
        bare = refl;
        holds =
            subst (λ (ws : List (List ℕ)). Holds slots (held (enter_all kind slots nothing (t.added ++ ws))) d) none_supposed h.holds;
      }
    where
      none_supposed_from : (ws : List (List ℕ)) (u : Standing K) → None ≡ slice_get (map mark_of (stood kind slots u ws)) 0 → ws ≡ []
      none_supposed_from [] u e = refl
      none_supposed_from (w ∷ ws) u e = cc
