-- What stands grows only at its end.
use Rattle.std.proofs.Common.{◌≡◌, ℕ, suc, ◌+◌, ◌-◌, ◌%◌, ◌^◌, ◌≤◌, true, ltb, leb, List, [], ◌∷◌, ◌++◌, length, take, drop, sym, refl, ap, ◌∙◌, subst, zero-le, mod-eq_of_lt, arith, take-append-drop, length-take}
use Rattle.std.proofs.lemmas.Bool.{both_ways, true≢false, leb-true, ltb-true, cond_both}
use mathlib.Core.Option.{Option, none, some}
use lib.Pow.{mod-mod-pow}
use lib.Seq.{take-append_seam}
use Rattle.std.proofs.lemmas.List.{append-nil, append_assoc, length_push}
use Rattle.logic.specs.Sets.{mask}
use Rattle.logic.specs.Rules.{Rule, Rules, rule, more, Book}
use Rattle.logic.specs.Store.{stores, numbers, store, book_of}
use Rattle.keys.specs.Registers.{room}
use Rattle.keys.specs.Kept.{Front}
use Rattle.keys.proofs.Numbering.{front_self, front_trans}
use Rattle.reader.specs.Written.{Refusal, Kind, Reading, reads, unread, mentions}
use Rattle.book.specs.Limits.{most_records}
use Rattle.book.specs.Entering.{all_appear, left_out, numbered}
use Rattle.law.specs.Limits.{most_suppositions}
use Rattle.law.specs.Standing.{Standing, nothing, Entry, entered, fit, enter_read, enter, after_entry, enter_all, stood, behind}
use Rattle.law.specs.Calls.{Call, add, seal, reopen, suppose, withdraw, Tally, Takes, at_start, in_force, taken, unless_refused}
use Rattle.law.specs.Defined.{unless, standing, entering, refusal, next}
use Rattle.law.specs.Kept.{HeadsBelow, AllHeadsBelow, Grows, AllEnter, TallyRight, StandingKeptAll}
use Rattle.law.proofs.Refusals.{or_none, unless_none}
use Rattle.law.proofs.OneAnswer.{rule_in, is_entered}
use Rattle.law.proofs.KeysKept.{all_front, none_left_out, all_known, heads_below}
use Rattle.law.proofs.RecordsKept.{front_length, stored_behind, store_front, force_below, force_kept}

mutual
  heads_more : (m n : ℕ) → m ≤ n → (r : Rule) → HeadsBelow m r → HeadsBelow n r
  heads_more m n l (rule h bs) b = (omega (arith, b.0), all_heads_more m n l bs b.1)

  all_heads_more : (m n : ℕ) → m ≤ n → (rs : Rules) → AllHeadsBelow m rs → AllHeadsBelow n rs
  all_heads_more m n l Rules.none b = tt
  all_heads_more m n l (more r rs) b = (heads_more m n l r b.0, all_heads_more m n l rs b.1)

heads_behind : (n : ℕ) (rs : Rules) (r : Rule) → AllHeadsBelow n rs → HeadsBelow n r → AllHeadsBelow n (behind rs r)
heads_behind n Rules.none r b h = (h, tt)
heads_behind n (more x xs) r b h = (b.0, heads_behind n xs r b.1 h)

abbrev IsEntered : {K : Type 0} → Entry K → Type 0
IsEntered (Entry.refused f) = ⊥
IsEntered (entered ks r) = Unit {0}

abbrev keys_in : {K : Type 0} → Entry K → List K
keys_in (Entry.refused f) = []
keys_in (entered ks r) = ks

module _ {K : Type 0} (kind : Kind K) (slots : ℕ) where
  -- what an entry tells of what stands then
  record Enters (s : Standing K) (ks : List K) (r : Rule) : Type 0 where
    front : Front s.keys ks
    few : length s.keys ≤ room slots → length ks ≤ room slots
    fits : length (book_of s.rules r) ≤ most_records
    headed : ((k : K) → kind.same k k ≡ true) → HeadsBelow (length ks) r

  enters_read : (s : Standing K) (x : Reading K) (ks : List K) (r : Rule) → enter_read kind slots s x ≡ entered ks r → Enters s ks r
  enters_read s (unread f) ks r e = absurd (subst IsEntered (sym e) tt)
  enters_read s (reads w) ks r e =
      by (left_out kind.same (room slots) s.keys (mentions w)) refl e
    where
      keys : List K
      keys = all_appear kind.same s.keys (mentions w)

      this : Rule
      this = numbered kind.same keys w

      by : (o : Option ℕ) → left_out kind.same (room slots) s.keys (mentions w) ≡ o → fit kind slots s keys this o ≡ entered ks r → Enters s ks r
      by (some p) h e' = absurd (subst IsEntered (sym e') tt)
      by none h e' =
          cond_both (leb (length (book_of s.rules this)) most_records) (entered keys this) (Entry.refused (record { number = 21; place = 0 }))
          (λ x. x ≡ entered ks r → Enters s ks r)
          (λ fits same.
          let same_keys : keys ≡ ks = ap keys_in same in
          let same_rule : this ≡ r = ap rule_in same in record {
            front = subst (Front s.keys) same_keys (all_front kind.same s.keys (mentions w));
            few = λ l. subst (λ (l' : List K). length l' ≤ room slots) same_keys (none_left_out kind.same (room slots) s.keys (mentions w) l h);
            fits = subst (λ (x : Rule). length (book_of s.rules x) ≤ most_records) same_rule (leb-true (length (book_of s.rules this)) most_records fits);
            headed = λ reflexive.
                subst (λ (l : List K). HeadsBelow (length l) r) same_keys
                (subst (HeadsBelow (length keys)) same_rule
                (heads_below kind.same reflexive w keys (all_known kind.same reflexive s.keys (mentions w))));
          })
          (λ over same. absurd (subst IsEntered (sym same) tt)) e'

  enters : (s : Standing K) (w : List ℕ) (ks : List K) (r : Rule) → enter kind slots s w ≡ entered ks r → Enters s ks r
  enters s w ks r e = enters_read s (kind.reading w) ks r e

  -- ---- entering one after the other

  abbrev then : Standing K → List ℕ → Standing K
  then s w = after_entry kind slots s (enter kind slots s w)

  grows_self : (s : Standing K) → Grows s s
  grows_self s = record {
    keys = front_self s.keys;
    records = front_self (stores [] s.rules);
    in_force = mod-eq_of_lt (force_below s.rules);
  }

  grows_trans : {s s' s'' : Standing K} → Grows s s' → Grows s' s'' → Grows s s''
  grows_trans {s} {s'} {s''} p q =
      let n = length (stores [] s.rules) in
      let n' = length (stores [] s'.rules) in
      let T = mask (numbers [] s''.rules) in
      let more_records : n' ≡ (n' - n) + n = omega (arith, front_length p.records) in
      record {
        keys = front_trans p.keys q.keys;
        records = front_trans p.records q.records;
        in_force =
            sym (mod-mod-pow T (n' - n) n) ∙ ap (λ (m : ℕ). T % 2 ^ m % 2 ^ n) (sym more_records)
            ∙ ap (λ (S : ℕ). S % 2 ^ n) q.in_force ∙ p.in_force;
      }

  -- what each rule that is entered keeps, a list of them keeps
  module _ (P : Standing K → Type 0)
      (kept : (s : Standing K) (ks : List K) (r : Rule) → Enters s ks r → P s → P (record { keys = ks; rules = behind s.rules r })) where
    then_keeps : (s : Standing K) (w : List ℕ) → P s → P (then s w)
    then_keeps s w h = go (enter kind slots s w) refl
      where
        go : (e : Entry K) → enter kind slots s w ≡ e → P (after_entry kind slots s e)
        go (Entry.refused f) e = h
        go (entered ks r) e = kept s ks r (enters s w ks r e) h

    all_keep : (s : Standing K) (ws : List (List ℕ)) → P s → P (enter_all kind slots s ws)
    all_keep s [] h = h
    all_keep s (w ∷ ws) h = all_keep (then s w) ws (then_keeps s w h)

  entered_grows : (s : Standing K) (ks : List K) (r : Rule) → Enters s ks r → Grows s (record { keys = ks; rules = behind s.rules r })
  entered_grows s ks r e = record {
    keys = e.front;
    records = subst (Front (stores [] s.rules)) (sym (stored_behind [] s.rules r)) (store_front r (stores [] s.rules));
    in_force = force_kept s.rules r;
  }

  all_grows : (s : Standing K) (ws : List (List ℕ)) → Grows s (enter_all kind slots s ws)
  all_grows s ws = all_keep (Grows s) (λ s' ks r e g. grows_trans g (entered_grows s' ks r e)) s ws (grows_self s)

  pub all_append : (s : Standing K) (ws vs : List (List ℕ)) → enter_all kind slots s (ws ++ vs) ≡ enter_all kind slots (enter_all kind slots s ws) vs
  all_append s [] vs = refl
  all_append s (w ∷ ws) vs = all_append (then s w) ws vs

  abbrev Room : Standing K → Type 0
  Room s = (length s.keys ≤ room slots) × (length (stores [] s.rules) ≤ most_records)

  all_room : (s : Standing K) (ws : List (List ℕ)) → Room s → Room (enter_all kind slots s ws)
  all_room =
      all_keep Room
      (λ s ks r e h. (e.few h.0, subst (λ (book : Book). length book ≤ most_records) (sym (stored_behind [] s.rules r)) e.fits))

  nothing_room : Room nothing
  unfolding store
  nothing_room = (zero-le, zero-le)

  -- ---- the heads of what stands are numbers of keys

  abbrev Headed : Standing K → Type 0
  Headed s = AllHeadsBelow (length s.keys) s.rules

  all_headed : ((k : K) → kind.same k k ≡ true) → (s : Standing K) (ws : List (List ℕ)) → Headed s → Headed (enter_all kind slots s ws)
  all_headed reflexive =
      all_keep Headed
      (λ s ks r e h. heads_behind (length ks) s.rules r (all_heads_more (length s.keys) (length ks) (front_length e.front) s.rules h) (e.headed reflexive))

  -- ---- what stood before each rule

  pub stood_push : (s : Standing K) (ws : List (List ℕ)) (w : List ℕ)
      → stood kind slots s (ws ++ w ∷ []) ≡ stood kind slots s ws ++ enter_all kind slots s ws ∷ []
  stood_push s [] w = refl
  stood_push s (v ∷ ws) w = ap (λ (l : List (Standing K)). s ∷ l) (stood_push (then s v) ws w)

  pub stood_length : (s : Standing K) (ws : List (List ℕ)) → length (stood kind slots s ws) ≡ length ws
  stood_length s [] = refl
  stood_length s (w ∷ ws) = ap suc (stood_length (then s w) ws)

  -- ---- the tally

  abbrev stand : List (List ℕ) → Standing K
  stand ws = enter_all kind slots nothing ws

  front_grows : (ws vs us : List (List ℕ)) → us ≡ ws ++ vs → Grows (stand ws) (stand us)
  front_grows ws vs us e = subst (Grows (stand ws)) (sym (ap stand e ∙ all_append nothing ws vs)) (all_grows (stand ws) vs)

  supposed_last : (t : Tally) (w : List ℕ) → in_force (taken t (suppose w)) ≡ in_force t ++ w ∷ []
  supposed_last t w = sym (append_assoc t.added t.supposed (w ∷ []))

  added_last : (t : Tally) (w : List ℕ) → t.supposed ≡ [] → in_force (taken t (add w)) ≡ in_force t ++ w ∷ []
  added_last t w e =
      ap (λ (x : List (List ℕ)). (t.added ++ w ∷ []) ++ x) e ∙ append-nil (t.added ++ w ∷ [])
      ∙ ap (λ (x : List (List ℕ)). x ++ w ∷ []) (sym (append-nil t.added) ∙ ap (λ (x : List (List ℕ)). t.added ++ x) (sym e))

  one_more : (t : Tally) (w : List ℕ) (us : List (List ℕ)) → us ≡ in_force t ++ w ∷ [] → stand us ≡ then (standing kind slots t) w
  one_more t w us e = ap stand e ∙ all_append nothing (in_force t) (w ∷ [])

  last_out : (ws : List (List ℕ)) (w : List ℕ) → take (length (ws ++ w ∷ []) - 1) (ws ++ w ∷ []) ≡ ws
  last_out ws w =
      let n : length (ws ++ w ∷ []) - 1 ≡ length ws = omega (arith, length_push ws w) in
      ap (λ (k : ℕ). take k (ws ++ w ∷ [])) n ∙ take-append_seam ws (w ∷ [])

  withdrawn : (t : Tally) (w : List ℕ) → taken (taken t (suppose w)) withdraw ≡ t
  withdrawn t w = λ i. record { added = t.added; supposed = last_out t.supposed w i; sealed = t.sealed }

  -- what withdraw takes out stood at the end
  withdraw_split : (t : Tally) → in_force t ≡ in_force (taken t withdraw) ++ drop (length t.supposed - 1) t.supposed
  withdraw_split t =
      let n = length t.supposed - 1 in
      ap (λ (x : List (List ℕ)). t.added ++ x) (sym (take-append-drop n t.supposed))
      ∙ sym (append_assoc t.added (take n t.supposed) (drop n t.supposed))

  reopen_split : (t : Tally) → in_force t ≡ in_force (taken t reopen) ++ t.supposed
  reopen_split t = ap (λ (x : List (List ℕ)). x ++ t.supposed) (sym (append-nil t.added))

  -- ---- rules that are entered, one after the other

  enter_front : (s : Standing K) (ws vs : List (List ℕ)) → AllEnter kind slots s (ws ++ vs) → AllEnter kind slots s ws
  enter_front s [] vs h = tt
  enter_front s (w ∷ ws) vs h = (h.0, enter_front (then s w) ws vs h.1)

  enter_more : (s : Standing K) (ws vs : List (List ℕ)) → AllEnter kind slots s ws → AllEnter kind slots (enter_all kind slots s ws) vs
      → AllEnter kind slots s (ws ++ vs)
  enter_more s [] vs h k = k
  enter_more s (w ∷ ws) vs h k = (h.0, enter_more (then s w) ws vs h.1 k)

  enter_last : (t : Tally) (w : List ℕ) (us : List (List ℕ)) → us ≡ in_force t ++ w ∷ [] → TallyRight kind slots t → entering kind slots t w ≡ none
      → AllEnter kind slots nothing us
  enter_last t w us e s h =
      subst (AllEnter kind slots nothing) (sym e)
      (enter_more nothing (in_force t) (w ∷ []) s.entered_all (is_entered kind slots (enter kind slots (standing kind slots t) w) h, tt))

  enter_less : (t : Tally) (ws vs : List (List ℕ)) → in_force t ≡ ws ++ vs → TallyRight kind slots t → AllEnter kind slots nothing ws
  enter_less t ws vs e s = enter_front nothing ws vs (subst (AllEnter kind slots nothing) e s.entered_all)

  -- ---- the tally in a run

  taken_right : (t : Tally) (c : Call) → Takes t c → TallyRight kind slots t → refusal kind slots t c ≡ none → TallyRight kind slots (taken t c)
  taken_right t (add w) takes s h = record {
    entered_all = enter_last t w (in_force (taken t (add w))) (added_last t w (s.draft takes)) s h;
    few = s.few;
    draft = s.draft;
  }
  taken_right t seal takes s h = record { entered_all = s.entered_all; few = s.few; draft = λ e. absurd (true≢false e) }
  taken_right t reopen takes s h = record {
    entered_all = enter_less t (in_force (taken t reopen)) t.supposed (reopen_split t) s;
    few = zero-le;
    draft = λ e. refl;
  }
  taken_right t (suppose w) takes s h =
      let parts = or_none (unless (ltb (length t.supposed) most_suppositions) 30) (entering kind slots t w) h in
      let below = ltb-true (length t.supposed) most_suppositions (unless_none (ltb (length t.supposed) most_suppositions) 30 parts.0) in record {
        entered_all = enter_last t w (in_force (taken t (suppose w))) (supposed_last t w) s parts.1;
        few = omega (arith, below, length_push t.supposed w);
        draft = λ e. absurd (both_ways _ e takes);
      }
  taken_right t withdraw takes s h =
      let n = length t.supposed - 1 in record {
        entered_all = enter_less t (in_force (taken t withdraw)) (drop n t.supposed) (withdraw_split t) s;
        few = omega (arith, length-take n t.supposed, s.few);
        draft = λ e. absurd (both_ways _ e takes);
      }
  taken_right t _ takes s h = s

  pub next_right : (t : Tally) (c : Call) → Takes t c → TallyRight kind slots t → TallyRight kind slots (next kind slots t c)
  next_right t c takes s = go (refusal kind slots t c) refl
    where
      go : (f : Option Refusal) → refusal kind slots t c ≡ f → TallyRight kind slots (unless_refused t c f)
      go (some f) e = s
      go none e = taken_right t c takes s e

  pub start_right : TallyRight kind slots at_start
  start_right = record { entered_all = tt; few = zero-le; draft = λ e. refl }

pub standing_kept : (K : Type 0) → StandingKeptAll K
standing_kept K kind slots = record {
  goal_keys = λ s w ks r e. (enters kind slots s w ks r e).front;
  supposed = λ t w. one_more kind slots t w (in_force (taken t (suppose w))) (supposed_last kind slots t w);
  added = λ t w e. one_more kind slots t w (in_force (taken t (add w))) (added_last kind slots t w e);
  withdrawn = withdrawn kind slots;
  withdraw_front = λ t.
      front_grows kind slots (in_force (taken t withdraw)) (drop (length t.supposed - 1) t.supposed) (in_force t)
      (withdraw_split kind slots t);
  reopen_front = λ t. front_grows kind slots (in_force (taken t reopen)) t.supposed (in_force t) (reopen_split kind slots t);
  within = λ t. all_room kind slots nothing (in_force t) (nothing_room kind slots);
  headed = λ reflexive t. all_headed kind slots reflexive nothing (in_force t) tt;
  start_right = start_right kind slots;
  next_right = next_right kind slots;
}
