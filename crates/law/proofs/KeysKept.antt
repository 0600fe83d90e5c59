-- The keys of a rule get numbers behind the others.
use Rattle.std.proofs.Common.{◌≡◌, ℕ, ◌<◌, ◌≤◌, Bool, true, leb, List, [], ◌∷◌, ◌++◌, length, sym, ap, ◌∙◌, arith, length-append}
use Rattle.std.proofs.lemmas.Bool.{leb-true, cond_both}
use mathlib.Core.Option.{none, some, none-ne-some}
use Rattle.keys.specs.Numbering.{number, appear}
use Rattle.keys.specs.Kept.{Front}
use Rattle.keys.proofs.Numbering.{front_self, front_trans, appear_front, number_kept, has_number}
use Rattle.reader.specs.Written.{WrittenRule, WrittenBodies, written, no_body, body, Mention, mentions, mentions_all}
use Rattle.book.specs.Entering.{all_appear, left_out, numbered, all_numbered}
use Rattle.law.specs.Kept.{HeadsBelow, AllHeadsBelow, KeysKeptAll}

module _ {K : Type 0} (same : K → K → Bool) where
  pub all_front : (ks : List K) (ms : List (Mention K)) → Front ks (all_appear same ks ms)
  all_front ks [] = front_self ks
  all_front ks (m ∷ ms) = front_trans (appear_front same ks m.key) (all_front (appear same ks m.key) ms)

  -- where no key is left out, there are numbers for all
  pub none_left_out : (room : ℕ) (ks : List K) (ms : List (Mention K)) → length ks ≤ room → left_out same room ks ms ≡ none
      → length (all_appear same ks ms) ≤ room
  none_left_out room ks [] l e = l
  none_left_out room ks (m ∷ ms) l e =
      let first = appear same ks m.key in
      cond_both (leb (length first) room) (left_out same room first ms) (some m.place) (λ o. o ≡ none → length (all_appear same first ms) ≤ room)
      (λ fits e'. none_left_out room first ms (leb-true (length first) room fits) e') (λ over e'. absurd (none-ne-some m.place (sym e'))) e

  -- a key that has a number keeps it
  kept : (ks ls : List K) (k : K) → Front ks ls → number same ks k < length ks → number same ls k ≡ number same ks k
  kept ks ls k f l = ap (λ (l' : List K). number same l' k) f.split ∙ number_kept same ks f.others k l

  -- ---- heads

  module _ (reflexive : (k : K) → same k k ≡ true) where
    -- each key mentioned has a number
    abbrev Known : List K → List (Mention K) → Type 0
    Known ks [] = Unit {0}
    Known ks (m ∷ ms) = (number same ks m.key < length ks) × Known ks ms

    known_left : (ks : List K) (ms ns : List (Mention K)) → Known ks (ms ++ ns) → Known ks ms
    known_left ks [] ns h = tt
    known_left ks (m ∷ ms) ns h = (h.0, known_left ks ms ns h.1)

    known_right : (ks : List K) (ms ns : List (Mention K)) → Known ks (ms ++ ns) → Known ks ns
    known_right ks [] ns h = h
    known_right ks (m ∷ ms) ns h = known_right ks ms ns h.1

    still_known : (ks ls : List K) (k : K) → Front ks ls → number same ks k < length ks → number same ls k < length ls
    still_known ks ls k f l = omega (arith, kept ks ls k f l, l, ap length f.split, length-append ks f.others)

    pub all_known : (ks : List K) (ms : List (Mention K)) → Known (all_appear same ks ms) ms
    all_known ks [] = tt
    all_known ks (m ∷ ms) = (
      still_known (appear same ks m.key) (all_appear same (appear same ks m.key) ms) m.key
          (all_front (appear same ks m.key) ms) (has_number same ks m.key (reflexive m.key)).0,
      all_known (appear same ks m.key) ms,
    )

    mutual
      pub heads_below : (w : WrittenRule K) (ks : List K) → Known ks (mentions w) → HeadsBelow (length ks) (numbered same ks w)
      heads_below (written k p bs) ks h = (h.0, all_heads_below bs ks h.1)

      all_heads_below : (bs : WrittenBodies K) (ks : List K) → Known ks (mentions_all bs) → AllHeadsBelow (length ks) (all_numbered same ks bs)
      all_heads_below no_body ks h = tt
      all_heads_below (body w bs) ks h = (
        heads_below w ks (known_left ks (mentions w) (mentions_all bs) h),
        all_heads_below bs ks (known_right ks (mentions w) (mentions_all bs) h),
      )

pub keys_kept : (K : Type 0) → KeysKeptAll K
keys_kept K same = record {
  appended = all_front same;
  kept = λ ks ms k. kept same ks (all_appear same ks ms) k (all_front same ks ms);
  heads = λ reflexive ks w.
      heads_below same reflexive w (all_appear same ks (mentions w)) (all_known same reflexive ks (mentions w));
}
