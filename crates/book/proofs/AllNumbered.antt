-- The keys of a rule get their numbers one after the other.
use Rattle.std.proofs.Common.{◌≡◌, ℕ, suc, ◌+◌, ◌<◌, ◌≤◌, Bool, true, false, cond, leb, List, [], ◌∷◌, ◌++◌, length, get_or, sym, refl, ap, ◌∙◌, subst, ap₂, arith, length-append, le-leb}
use mathlib.Core.Option.{some}
use borrow.Author.Tests.{lt-leb}
use Rattle.std.specs.List.{All}
use Rattle.std.proofs.lemmas.List.Elements.{All-head}
use Rattle.reader.proofs.AllLists.{all_right}
use Rattle.std.proofs.lemmas.List.{append-nil, append_assoc, map-append, length_push, get_or_at}
use Rattle.keys.specs.Kept.{Front}
use Rattle.keys.specs.Numbering.{number, appear}
use Rattle.keys.specs.Registers.{room, Entered, LeftOut}
use Rattle.keys.specs.declared.numbers.KeyNumber.{KeyNumber}
use Rattle.keys.specs.declared.numbers.RegisterFault.{RegisterFault}
use Rattle.keys.proofs.Numbering.{appear_front, number_kept, has_number}
use Rattle.reader.specs.Written.{WrittenRule, Mention, mentions, places}
use Rattle.book.specs.Entering.{all_appear, left_out, numbers_of}
use Rattle.book.specs.KeyLists.{AllNumbered}

places_append : {K : Type 0} (xs ys : List (Mention K)) → places (xs ++ ys) ≡ places xs ++ places ys
places_append [] ys = refl
places_append (x ∷ xs) ys = ap (λ (l : List ℕ). x.place ∷ l) (places_append xs ys)

places_many : {K : Type 0} (xs : List (Mention K)) → length (places xs) ≡ length xs
places_many [] = refl
places_many (x ∷ xs) = ap suc (places_many xs)

every_here : {X : Type 0} (P : X → Type 0) (xs : List X) (x : X) (ys : List X) → All P (xs ++ x ∷ ys) → P x
every_here P xs x ys h = All-head P x ys (all_right P xs (x ∷ ys) h)

module _ {K : Type 0} (same : K → K → Bool) where
  -- each key mentioned has a number
  abbrev pub Known : List K → List (Mention K) → Type 0
  Known ks [] = Unit {0}
  Known ks (m ∷ ms) = (number same ks m.key < length ks) × Known ks ms

  still : (ks ls : List K) (k : K) → Front ks ls → number same ks k < length ks → number same ls k ≡ number same ks k
  still ks ls k f l = ap (λ (l' : List K). number same l' k) f.split ∙ number_kept same ks f.others k l

  longer : (ks ls : List K) → Front ks ls → length ks ≤ length ls
  longer ks ls f = omega (arith, ap length f.split, length-append ks f.others)

  -- keys that have numbers keep them
  known_kept : (ks ls : List K) (ms : List (Mention K)) → Front ks ls → Known ks ms → Known ls ms
  known_kept ks ls [] f h = tt
  known_kept ks ls (m ∷ ms) f h = (omega (arith, still ks ls m.key f h.0, h.0, longer ks ls f), known_kept ks ls ms f h.1)

  numbers_kept : (ks ls : List K) (ms : List (Mention K)) → Front ks ls → Known ks ms → numbers_of same ls ms ≡ numbers_of same ks ms
  numbers_kept ks ls [] f h = refl
  numbers_kept ks ls (m ∷ ms) f h = ap₂ (λ (n : ℕ) (ns : List ℕ). n ∷ ns) (still ks ls m.key f h.0) (numbers_kept ks ls ms f h.1)

  known_more : (ks : List K) (ms : List (Mention K)) (m : Mention K) → Known ks ms → number same ks m.key < length ks → Known ks (ms ++ m ∷ [])
  known_more ks [] m h l = (l, tt)
  known_more ks (x ∷ ms) m h l = (h.0, known_more ks ms m h.1 l)

  -- a key that was entered stands among the keys, behind those that stood there
  pub entered_front : {ks ks' : List K} {k : K} {slots : ℕ} {n : KeyNumber} → Entered same ks k slots ks' n → Front ks ks' × (length ks ≤ length ks')
  entered_front {ks} {ks'} {k} e =
      let front : Front ks ks' = subst (Front ks) (sym e.keys_are) (appear_front same ks k) in (front, longer ks ks' front)

  pub entered_below : ((k : K) → same k k ≡ true) → {ks ks' : List K} {k : K} {slots : ℕ} {n : KeyNumber} → Entered same ks k slots ks' n
      → n.index < length ks'
  entered_below reflexive {ks} {ks'} {k} e =
      let has = has_number same ks k (reflexive k) in
      omega (arith, e.number_is, has.0, has.1, ap length e.keys_are)

  -- the first i keys of ms, which appeared where ks₀ stood, have the numbers ns, and ks are the keys now
  pub record SoFar (n : ℕ) (ks₀ : List K) (ms : List (Mention K)) (ks : List K) (ns : List ℕ) (i : ℕ) : Type 0 where
    pub met : List (Mention K)
    pub left : List (Mention K)
    pub split : ms ≡ met ++ left
    pub many : length met ≡ i
    pub appeared : all_appear same ks left ≡ all_appear same ks₀ ms
    pub out : left_out same n ks left ≡ left_out same n ks₀ ms
    pub known : Known ks met
    pub numbers : ns ≡ numbers_of same ks met

  pub none_yet : (n : ℕ) (ks : List K) (ms : List (Mention K)) → SoFar n ks ms ks [] 0
  none_yet n ks ms = record {
    met = [];
    left = ms;
    split = refl;
    many = refl;
    appeared = refl;
    out = refl;
    known = tt;
    numbers = refl;
  }

  module _ (reflexive : (k : K) → same k k ≡ true) (slots : ℕ) (ks₀ ks ks' : List K) (ms : List (Mention K)) (ns : List ℕ) (i p : ℕ) (k : K)
      (within : i < length (places ms)) (here : p ≡ get_or (places ms) i 0) (read : All (λ (m : Mention K). m.place ≡ p → m.key ≡ k) ms) where
    abbrev Read : Mention K → Type 0
    Read m = m.place ≡ p → m.key ≡ k

    abbrev Now : List (Mention K) → List (Mention K) → Type 0
    Now met left = (ms ≡ met ++ left) × (length met ≡ i) × (all_appear same ks left ≡ all_appear same ks₀ ms)
        × (left_out same (room slots) ks left ≡ left_out same (room slots) ks₀ ms) × Known ks met × (ns ≡ numbers_of same ks met)

    -- the key that was read is the next one
    place_is : (met : List (Mention K)) (m : Mention K) (rest : List (Mention K)) → ms ≡ met ++ m ∷ rest → length met ≡ i → m.place ≡ p
    place_is met m rest e l =
        sym (here ∙ ap (λ (x : List (Mention K)). get_or (places x) i 0) e ∙ ap (λ (x : List ℕ). get_or x i 0) (places_append met (m ∷ rest))
        ∙ get_or_at (places met) m.place (places rest) 0 i (places_many met ∙ l))

    key_is : (met : List (Mention K)) (m : Mention K) (rest : List (Mention K)) → ms ≡ met ++ m ∷ rest → length met ≡ i → m.key ≡ k
    key_is met m rest e l =
        every_here Read met m rest (subst (All Read) e read) (place_is met m rest e l)

    not_last : (met : List (Mention K)) → ms ≡ met ++ [] → length met ≡ i → ⊥
    not_last met e l = omega (arith, within, places_many ms, ap length e, ap length (append-nil met), l)

    pub next_number : (number_at : KeyNumber) → SoFar (room slots) ks₀ ms ks ns i → Entered same ks k slots ks' number_at
        → SoFar (room slots) ks₀ ms ks' (ns ++ number_at.index ∷ []) (i + 1)
    next_number n s e = go s.met s.left (s.split, s.many, s.appeared, s.out, s.known, s.numbers)
      where
        go : (met left : List (Mention K)) → Now met left → SoFar (room slots) ks₀ ms ks' (ns ++ n.index ∷ []) (i + 1)
        go met [] (split, many, appeared, out, known, numbers) = absurd (not_last met split many)
        go met (m ∷ rest) (split, many, appeared, out, known, numbers) =
            let key : m.key ≡ k = key_is met m rest split many in
            let keys : ks' ≡ appear same ks m.key = e.keys_are ∙ ap (appear same ks) (sym key) in
            let front : Front ks ks' = subst (Front ks) (sym keys) (appear_front same ks m.key) in
            let has = has_number same ks m.key (reflexive m.key) in
            let numbered_now : number same ks' m.key ≡ n.index =
            ap (λ (l : List K). number same l m.key) keys ∙ has.1 ∙ ap (number same ks) key ∙ sym e.number_is in
            let below : number same ks' m.key < length ks' = subst (λ (l : List K). number same l m.key < length l) (sym keys) has.0 in
            let fits : leb (length (appear same ks m.key)) (room slots) ≡ true = le-leb _ _ (omega (arith, e.in_room, ap length keys)) in
            record {
              met = met ++ m ∷ [];
              left = rest;
              split = split ∙ sym (append_assoc met (m ∷ []) rest);
              many = length_push met m ∙ ap (λ (x : ℕ). x + 1) many;
              appeared = ap (λ (l : List K). all_appear same l rest) keys ∙ appeared;
              out =
                  ap (λ (l : List K). left_out same (room slots) l rest) keys
                  ∙ sym (ap (λ (b : Bool). cond b (left_out same (room slots) (appear same ks m.key) rest) (some m.place)) fits) ∙ out;
              known = known_more ks' met m (known_kept ks ks' met front known) below;
              numbers =
                  ap₂ (λ (x : List ℕ) (y : ℕ). x ++ y ∷ []) (numbers ∙ sym (numbers_kept ks ks' met front known)) (sym numbered_now)
                  ∙ sym (map-append _ met (m ∷ []));
            }

    pub no_number : (f : RegisterFault) → SoFar (room slots) ks₀ ms ks ns i → LeftOut same ks k slots p ks' f
        → left_out same (room slots) ks₀ ms ≡ some f.place
    no_number f s e = go s.met s.left (s.split, s.many, s.appeared, s.out, s.known, s.numbers)
      where
        go : (met left : List (Mention K)) → Now met left → left_out same (room slots) ks₀ ms ≡ some f.place
        go met [] (split, many, appeared, out, known, numbers) = absurd (not_last met split many)
        go met (m ∷ rest) (split, many, appeared, out, known, numbers) =
            let key : m.key ≡ k = key_is met m rest split many in
            let full : leb (length (appear same ks m.key)) (room slots) ≡ false =
            lt-leb _ _ (omega (arith, e.no_room, ap (λ (x : K). length (appear same ks x)) key)) in
            sym out ∙ ap (λ (b : Bool). cond b (left_out same (room slots) (appear same ks m.key) rest) (some m.place)) full
            ∙ ap some (place_is met m rest split many ∙ sym e.place_is)

  pub all_met : (n : ℕ) (ks₀ ks : List K) (w : WrittenRule K) (ns : List ℕ) (i : ℕ) → SoFar n ks₀ (mentions w) ks ns i
      → length (places (mentions w)) ≤ i → AllNumbered same n ks₀ w ks ns
  all_met n ks₀ ks w ns i s past = go s.left s.split s.appeared s.out
    where
      go : (left : List (Mention K)) → mentions w ≡ s.met ++ left → all_appear same ks left ≡ all_appear same ks₀ (mentions w)
          → left_out same n ks left ≡ left_out same n ks₀ (mentions w) → AllNumbered same n ks₀ w ks ns
      go [] split appeared out = record {
        none_left_out = sym out;
        keys_are = appeared;
        numbers_are = s.numbers ∙ ap (numbers_of same ks) (sym (split ∙ append-nil s.met));
      }
      go (m ∷ rest) split appeared out =
          absurd (omega (arith, past, places_many (mentions w), ap length split, length-append s.met (m ∷ rest), s.many))
