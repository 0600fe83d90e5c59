-- Keys get numbers in the order in which they appear, and keep them.
use Rattle.std.proofs.Common.{◌≡◌, suc, ◌+◌, ◌<◌, ◌≤◌, ◌≢◌, Bool, true, false, cond, not, List, [], ◌∷◌, ◌++◌, length, take, sym, refl, ap, ◌∙◌, subst, ⊎_elim, eq-eqb, ne_eqb, not-suc-le-zero, arith}
use lib.Seq.{take-append_seam}
use Rattle.std.specs.List.{position_or_len, prefix_len}
use Rattle.std.proofs.lemmas.Bool.{cases_lt}
use Rattle.std.proofs.lemmas.List.{append-nil, append_assoc, length_push}
use Rattle.std.proofs.lemmas.List.Folds.{prefix_len-append, position_or_len_push}
use Rattle.std.proofs.lemmas.List.Recursion.{is_position_or_len}
use Rattle.std.proofs.lemmas.List.Sums.{prefix_len-le-length}
use Rattle.keys.specs.Numbering.{number, appear}
use Rattle.keys.specs.Kept.{Front, NumbersKept}

pub front_self : {A : Type 0} (xs : List A) → Front xs xs
front_self xs = record { others = []; split = sym (append-nil xs) }

pub front_trans : {A : Type 0} {xs ys zs : List A} → Front xs ys → Front ys zs → Front xs zs
front_trans {A} {xs} {ys} {zs} p q = record {
  others = p.others ++ q.others;
  split = q.split ∙ ap (λ (l : List A). l ++ q.others) p.split ∙ append_assoc xs p.others q.others;
}

pub front_cons : {A : Type 0} (x : A) {xs ys : List A} → Front xs ys → Front (x ∷ xs) (x ∷ ys)
front_cons {A} x p = record { others = p.others; split = ap (λ (l : List A). x ∷ l) p.split }

-- what stands first is what is left when the others are cut off
pub front_take : {A : Type 0} {xs ys : List A} → Front xs ys → take (length xs) ys ≡ xs
front_take {A} {xs} {ys} f = ap (take (length xs)) f.split ∙ take-append_seam xs f.others

module _ {K : Type 0} (same : K → K → Bool) where
  -- the number of a key is the place of the first key that is the same
  pub number_position : (ks : List K) (k : K) → number same ks k ≡ position_or_len (λ x. same x k) ks
  number_position ks k = is_position_or_len (λ xs. number same xs k) (λ x. same x k) refl (λ x xs. ap (cond (same x k) 0) (omega arith)) ks

  -- a key has a number, or there is none that is the same
  pub number_most : (ks : List K) (k : K) → number same ks k ≤ length ks
  number_most ks k = omega (arith, number_position ks k, prefix_len-le-length (λ x. not (same x k)) ks)

  -- a key that has a number keeps it, whatever comes behind
  pub number_kept : (ks others : List K) (k : K) → number same ks k < length ks → number same (ks ++ others) k ≡ number same ks k
  number_kept ks others k l =
      let other : K → Bool = λ x. not (same x k) in
      let ne : prefix_len other ks ≢ length ks = omega (arith, l, number_position ks k) in
      number_position (ks ++ others) k
      ∙ prefix_len-append other ks others
      ∙ ap (λ b. cond b (length ks + prefix_len other others) (prefix_len other ks)) (ne_eqb _ _ ne)
      ∙ sym (number_position ks k)

  -- a key that has a number does not come behind the others
  pub appear_old : (ks : List K) (k : K) → number same ks k < length ks → appear same ks k ≡ ks
  appear_old [] k l = absurd (not-suc-le-zero l)
  appear_old (x ∷ xs) k l = go (same x k) l (appear_old xs k)
    where
      go : (b : Bool) → cond b 0 (suc (number same xs k)) < suc (length xs)
          → (number same xs k < length xs → appear same xs k ≡ xs) → cond b (x ∷ xs) (x ∷ appear same xs k) ≡ x ∷ xs
      go true m ih = refl
      go false m ih = ap (λ (l' : List K). x ∷ l') (ih (omega arith))

  -- a key that has none does
  pub appear_new : (ks : List K) (k : K) → number same ks k ≡ length ks → appear same ks k ≡ ks ++ k ∷ []
  appear_new [] k e = refl
  appear_new (x ∷ xs) k e = go (same x k) e (appear_new xs k)
    where
      go : (b : Bool) → cond b 0 (suc (number same xs k)) ≡ suc (length xs)
          → (number same xs k ≡ length xs → appear same xs k ≡ xs ++ k ∷ [])
          → cond b (x ∷ xs) (x ∷ appear same xs k) ≡ x ∷ (xs ++ k ∷ [])
      go true m ih = absurd (omega (arith, m))
      go false m ih = ap (λ (l' : List K). x ∷ l') (ih (omega arith))

  pub appear_front : (ks : List K) (k : K) → Front ks (appear same ks k)
  appear_front ks k =
      ⊎_elim (λ (l : number same ks k < length ks). subst (Front ks) (sym (appear_old ks k l)) (front_self ks))
      (λ (none : length ks ≤ number same ks k). record { others = k ∷ []; split = appear_new ks k (omega (arith, none, number_most ks k)) })
      (cases_lt (number same ks k) (length ks))

  -- a key that comes behind the others has their count for its number
  number_last : (ks : List K) (k : K) → same k k ≡ true → number same ks k ≡ length ks → number same (ks ++ k ∷ []) k ≡ length ks
  number_last ks k r e =
      let first : position_or_len (λ x. same x k) ks ≡ length ks = sym (number_position ks k) ∙ e in
      number_position (ks ++ k ∷ []) k ∙ position_or_len_push (λ x. same x k) ks k ∙ rw (eq-eqb _ _ first, r) (omega arith)

  pub has_number : (ks : List K) (k : K) → same k k ≡ true
      → (number same (appear same ks k) k < length (appear same ks k)) × (number same (appear same ks k) k ≡ number same ks k)
  has_number ks k r =
      ⊎_elim (λ (l : number same ks k < length ks). subst (λ (a : List K). (number same a k < length a) × (number same a k ≡ number same ks k)) (sym (appear_old ks k l)) (l, refl))
      (λ (none : length ks ≤ number same ks k).
      let e : number same ks k ≡ length ks = omega (arith, none, number_most ks k) in
      let last = number_last ks k r e in
      subst (λ (a : List K). (number same a k < length a) × (number same a k ≡ number same ks k)) (sym (appear_new ks k e)) (omega (arith, last, length_push ks k), last ∙ sym e))
      (cases_lt (number same ks k) (length ks))

pub numbers_kept : (K : Type 0) → NumbersKept K
numbers_kept K same = record { appended = appear_front same; kept = number_kept same; has = has_number same }
