-- Replaying one call more, and what is replayed in the end.
use Rattle.std.proofs.Common.{◌≡◌, ℕ, ◌+◌, ◌-◌, ◌<◌, ◌≤◌, min, List, [], ◌∷◌, ◌++◌, length, get_or, take, drop, set, sym, refl, ap, ◌∙◌, subst, arith, length-append, length-drop, length-set, take-append-drop, length-take, drop-drop, drop-set-lt, Some, None, Option as Maybe, ◌⊎◌, inl, inr}
use mathlib.Core.Option.{Option, none, some}
use lib.Seq.{take-append_seam}
use borrow.Rule.Slice.PartMut.{put_mid}
use Rattle.std.proofs.lemmas.Slice.{take-put_mid, drop-put_mid}
use Rattle.std.proofs.lemmas.List.{take_more, take_more_set}
use Rattle.logic.specs.Charts.{Chart}
use Rattle.reader.specs.Written.{Kind}
use Rattle.law.specs.Calls as law
use Rattle.law.specs.Calls.{Tally, Takes, at_start}
use Rattle.law.specs.Defined.{Defined, next}
use Rattle.law.specs.Runs.{Event, Run, ended, step}
use Rattle.law.specs.OneRun.{calls}
use Rattle.law.specs.Steps.{tally_after}
use Rattle.service.specs.Calls.{room_of, call_of, answer_of}
use Rattle.service.specs.Replays.{part, Replayed, none_yet, taken, passed_over, Replays}
use Rattle.service.specs.Replaying.{Came, CarriesOut, Carries, Replaying, turning, Turns}
use Rattle.service.specs.Represents.{Represents}
use Rattle.service.specs.declared.calls.Answer.{Answer}
use Rattle.service.specs.declared.calls.Answer.TheVariants.{Done}
use Rattle.service.specs.declared.calls.Call.{Call}
use Rattle.service.specs.declared.calls.Call.TheVariants.{Seal, Reopen}
use Rattle.service.specs.declared.state.State.{State}
use Rattle.service.specs.declared.state.State.TheVariants.{Open, Shut}
use Rattle.service.proofs.Carrying.{carries_none}

-- ---- runs that go on

module _ {K : Type 0} (kind : Kind K) (slots : ℕ) where
  tally_push : (t : Tally) (es : List Event) (e : Event)
      → tally_after kind slots t (calls (es ++ e ∷ [])) ≡ next kind slots (tally_after kind slots t (calls es)) e.call
  tally_push t [] e = refl
  tally_push t (d ∷ es) e = tally_push (next kind slots t d.call) es e

  run_push : {t : Tally} {es : List Event} (e : Event) → Run kind slots t es → Takes (tally_after kind slots t (calls es)) e.call
      → Defined kind slots (tally_after kind slots t (calls es)) e.call e.answer e.buffer → Run kind slots t (es ++ e ∷ [])
  run_push e ended takes d = step takes d ended
  run_push e (step takes' d' r) takes d = step takes' d' (run_push e r takes d)

module _ {K : Type 0} (kind : Kind K) (charts : List Chart) (slots : ℕ) (trees₀ : List ℕ) where
  replayed_run : {cs : List Call} {ans : List Answer} {bs : List ℕ} {es : List Event} {t : Tally} → Replayed kind charts slots trees₀ cs ans bs es t
      → Run kind slots at_start es × (tally_after kind slots at_start (calls es) ≡ t)
  replayed_run none_yet = (ended, refl)
  replayed_run (taken {es = es} {t = t} {k = k} {x = x} {after = after} c a r is answered takes defined) =
      let (run, e) = replayed_run r in
      let event : Event = record { call = k; answer = x; buffer = after } in (
        run_push kind slots event run (subst (λ (u : Tally). Takes u k) (sym e) takes)
            (subst (λ (u : Tally). Defined kind slots u k x after) (sym e) defined),
        tally_push kind slots at_start es event ∙ ap (λ (u : Tally). next kind slots u k) e,
      )
  replayed_run (passed_over c a r is not_taken) = replayed_run r

-- ---- one call more

take_of_take : (n : ℕ) (l : List ℕ) → take (length (take n l)) l ≡ take n l
take_of_take n l = ap (take (length (take n l))) (sym (take-append-drop n l)) ∙ take-append_seam (take n l) (drop n l)

-- a part of a list that is written over keeps the list's length
pub length_putMid : (a k : ℕ) (xs ys : List ℕ) → a ≤ length xs → a + k ≤ length xs → k ≡ length ys → length (put_mid a k xs ys) ≡ length xs
length_putMid a k xs ys in_List long_enough k_is =
    omega (
      arith,
      in_List,
      long_enough,
      k_is,
      length-append (take a xs) (ys ++ drop k (drop a xs)),
      length-append ys (drop k (drop a xs)),
      length-take a xs,
      length-drop k (drop a xs),
      length-drop a xs,
    )

-- a part that is written over by itself changes nothing
pub put_same : (a k : ℕ) (xs : List ℕ) → put_mid a k xs (take k (drop a xs)) ≡ xs
put_same a k xs = ap (λ (l : List ℕ). take a xs ++ l) (take-append-drop k (drop a xs)) ∙ take-append-drop a xs

-- the bytes that a call is handed
abbrev pub next_part : Call → ℕ → List ℕ → List ℕ
next_part c byte trees = take (room_of c) (drop byte trees)

module _ {K : Type 0} (kind : Kind K) (charts : List Chart) (slots : ℕ) (trees₀ : List ℕ) (answers₀ : List Answer) (cs : List Call) where
  abbrev StateAt : ℕ → ℕ → List Answer → List ℕ → State K → Type 0
  StateAt call byte answers trees s = Replaying kind charts slots trees₀ answers₀ cs call byte answers trees s

  pub replay_one : (call byte : ℕ) (answers : List Answer) (trees trees' : List ℕ) (s s' : State K) (c : Call) (a : Answer) (after : List ℕ)
      → StateAt call byte answers trees s → call < length cs → call < length answers → byte ≤ length trees → ((d : Call) → get_or cs call d ≡ c)
      → CarriesOut kind charts c (next_part c byte trees) s a after s'
      → length after ≡ length (next_part c byte trees)
      → take (byte + length after) trees' ≡ take byte trees ++ after
      → drop (byte + length after) trees' ≡ drop (byte + length after) trees → length trees' ≡ length trees
      → StateAt (call + 1) (byte + length after) (set answers call a) trees' s'
  replay_one call byte answers trees trees' s s' c a after h in_calls in_answers in_trees is carries same_length front back same =
      let handed : length (take byte trees) ≡ byte = length-take byte trees ∙ omega arith in
      let same_part : part trees₀ c (length (take byte trees)) ≡ next_part c byte trees =
      ap (λ (n : ℕ). part trees₀ c n) handed ∙ ap (take (room_of c)) (sym h.trees_left) in
      let few : length (next_part c byte trees) ≤ room_of c = omega (arith, length-take (room_of c) (drop byte trees)) in
      let same_calls : take (call + 1) cs ≡ take call cs ++ c ∷ [] =
      take_more cs call c in_calls ∙ ap (λ (x : Call). take call cs ++ x ∷ []) (is c) in
      let same_answers : take (call + 1) (set answers call a) ≡ take call answers ++ a ∷ [] = take_more_set answers call a in_answers in
      go same_part same_calls same_answers (answer_of a) refl (carries slots h.tally few h.holds)
    where
      SoFar : List Event → Tally → Type 0
      SoFar es t = Replayed kind charts slots trees₀ (take (call + 1) cs) (take (call + 1) (set answers call a)) (take (byte + length after) trees') es t

      done : (bytes : List ℕ) → after ≡ bytes → take (call + 1) cs ≡ take call cs ++ c ∷ []
          → take (call + 1) (set answers call a) ≡ take call answers ++ a ∷ [] → (es : List Event) (t : Tally)
          → Replayed kind charts slots trees₀ (take call cs ++ c ∷ []) (take call answers ++ a ∷ []) (take byte trees ++ bytes) es t → SoFar es t
      done bytes e same_calls same_answers es t r =
          subst (λ (l : List Call). Replayed kind charts slots trees₀ l (take (call + 1) (set answers call a)) (take (byte + length after) trees') es t) (sym same_calls)
          (subst (λ (l : List Answer). Replayed kind charts slots trees₀ (take call cs ++ c ∷ []) l (take (byte + length after) trees') es t) (sym same_answers)
          (subst (λ (l : List ℕ). Replayed kind charts slots trees₀ (take call cs ++ c ∷ []) (take call answers ++ a ∷ []) l es t)
          (ap (λ (l : List ℕ). take byte trees ++ l) (sym e) ∙ sym front) r))

      left : (es : List Event) (t : Tally) → SoFar es t → Represents kind slots t s' → StateAt (call + 1) (byte + length after) (set answers call a) trees' s'
      left es t r rep = record {
        events = es;
        tally = t;
        replayed = r;
        holds = rep;
        answers_left =
            drop-set-lt (call + 1) answers call a (omega arith) ∙ sym (drop-drop 1 call answers) ∙ ap (drop 1) h.answers_left
            ∙ drop-drop 1 call answers₀;
        trees_left =
            back ∙ sym (drop-drop (length after) byte trees) ∙ ap (drop (length after)) h.trees_left ∙ drop-drop (length after) byte trees₀;
        as_long = same ∙ h.as_long;
        as_many = length-set answers call a ∙ h.as_many;
      }

      go : part trees₀ c (length (take byte trees)) ≡ next_part c byte trees → take (call + 1) cs ≡ take call cs ++ c ∷ []
          → take (call + 1) (set answers call a) ≡ take call answers ++ a ∷ [] → (o : Option law.Answer) → answer_of a ≡ o
          → Came kind slots h.tally (call_of charts c (next_part c byte trees)) (next_part c byte trees) o after s'
          → StateAt (call + 1) (byte + length after) (set answers call a) trees' s'
      go same_part same_calls same_answers (some x) e (k, called, takes, defined, rep) =
          left _ _
          (done after refl same_calls same_answers _ _
          (taken c a h.replayed (ap (call_of charts c) same_part ∙ called) e takes defined)) rep
      go same_part same_calls same_answers none e (not_taken, unchanged, rep) =
          left _ _
          (done (part trees₀ c (length (take byte trees))) (unchanged ∙ sym same_part) same_calls same_answers _ _
          (passed_over c a h.replayed e (λ k called. not_taken k (sym (ap (call_of charts c) same_part) ∙ called)))) rep

  -- the end of the bytes that a call is handed
  end_is : (c : Call) (byte : ℕ) (trees : List ℕ) (end : ℕ) → end ≡ byte + min (room_of c) (length trees - byte)
      → byte + length (next_part c byte trees) ≡ end
  end_is c byte trees end e = omega (arith, e, length-take (room_of c) (drop byte trees), length-drop byte trees)

  -- a call, which is handed its part of the trees
  pub one_more : (call byte : ℕ) (answers : List Answer) (trees : List ℕ) (s s' : State K) (c : Call) (a : Answer) (end : ℕ) (after : List ℕ)
      → StateAt call byte answers trees s → call < length cs → call < length answers → byte ≤ length trees → ((d : Call) → get_or cs call d ≡ c)
      → end ≡ byte + min (room_of c) (length trees - byte)
      → CarriesOut kind charts c (take (end - byte) (drop byte trees)) s a after s'
      → length after ≡ length (take (end - byte) (drop byte trees))
      → StateAt (call + 1) end (set answers call a) (put_mid byte (end - byte) trees after) s'
  one_more call byte answers trees s s' c a end after h in_calls in_answers in_trees is e carries same_length =
      let bytes = next_part c byte trees in
      let here = end_is c byte trees end e in
      let all : take (end - byte) (drop byte trees) ≡ bytes =
      ap (λ (k : ℕ). take k (drop byte trees)) (omega (arith, here)) ∙ take_of_take (room_of c) (drop byte trees) in
      let long : length after ≡ length bytes = same_length ∙ ap length all in
      let k = end - byte in
      let k_is : k ≡ length after = omega (arith, here, long) in
      let long_enough : byte + k ≤ length trees = omega (arith, e, in_trees) in
      subst (λ (n : ℕ). StateAt (call + 1) n (set answers call a) (put_mid byte k trees after) s') (omega (arith, here, long))
      (replay_one call byte answers trees (put_mid byte k trees after) s s' c a after h in_calls in_answers in_trees is
      (subst (λ (l : List ℕ). CarriesOut kind charts c l s a after s') all carries) long
      (take-put_mid byte k trees after (byte + length after) refl in_trees)
      (drop-put_mid byte k trees after (byte + length after) (omega (arith, k_is)) in_trees (sym k_is))
      (length_putMid byte k trees after in_trees long_enough k_is))

  -- the state turns, and has carried out the call by which it does
  pub turned : (c : Call) (bytes : List ℕ) (s s' : State K) → c ≡ turning s → Turns kind s s' → CarriesOut kind charts c bytes s Done bytes s'
  turned c bytes (Open d) s' is turns =
      carries_none kind charts c Seal is refl law.seal (λ b. refl) bytes (Open d) s' law.done turns Done refl
  turned c bytes (Shut d) s' is turns =
      carries_none kind charts c Reopen is refl law.reopen (λ b. refl) bytes (Shut d) s' law.done turns Done refl

  -- the state carries the call out, or it turns
  pub goes_on : (c : Call) (bytes after : List ℕ) (s s₁ s' : State K) (o : Maybe Answer) (a : Answer) → Carries kind charts c bytes s o after s₁
      → ((o ≡ Some a) × (s' ≡ s₁)) ⊎ ((o ≡ None) × (a ≡ Done) × Turns kind s₁ s') → CarriesOut kind charts c bytes s a after s'
  goes_on c bytes after s s₁ s' o a carries (inl (is, same)) =
      subst (λ (x : State K). CarriesOut kind charts c bytes s a after x) (sym same)
      (subst (λ (x : Maybe Answer). Carries kind charts c bytes s x after s₁) is carries)
  goes_on c bytes after s s₁ s' o a carries (inr (is, done, turns)) =
      let (c_is, s_is, after_is) = subst (λ (x : Maybe Answer). Carries kind charts c bytes s x after s₁) is carries in
      subst (λ (l : List ℕ). CarriesOut kind charts c bytes s a l s') (sym after_is)
      (subst (λ (x : Answer). CarriesOut kind charts c bytes s x bytes s') (sym done)
      (turned c bytes s s' c_is (subst (λ (x : State K). Turns kind x s') s_is turns)))

  -- nothing is replayed yet
  pub start : (s : State K) → Represents kind slots at_start s
      → StateAt 0 0 answers₀ trees₀ s
  start s h = record {
    events = [];
    tally = at_start;
    replayed = none_yet;
    holds = h;
    answers_left = refl;
    trees_left = refl;
    as_long = refl;
    as_many = refl;
  }

  -- ---- the end

  pub replays : (call byte : ℕ) (answers : List Answer) (trees : List ℕ) (s : State K) → StateAt call byte answers trees s
      → call ≡ min (length cs) (length answers₀) → byte ≤ length trees → Replays kind charts slots trees₀ cs answers₀ answers trees
  replays call byte answers trees s h e in_trees = record {
    handed_out = take byte trees;
    events = h.events;
    tally = h.tally;
    replayed = subst (λ (n : ℕ). Replayed kind charts slots trees₀ (take n cs) (take n answers) (take byte trees) h.events h.tally) e h.replayed;
    is_run = (replayed_run kind charts slots trees₀ h.replayed).0;
    others = subst (λ (n : ℕ). drop n answers ≡ drop n answers₀) e h.answers_left;
    trees_are =
        sym (take-append-drop byte trees)
        ∙ ap (λ (l : List ℕ). take byte trees ++ l)
        (h.trees_left ∙ ap (λ (n : ℕ). drop n trees₀) (sym (length-take byte trees ∙ omega arith)));
  }
