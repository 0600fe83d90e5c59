-- Records made as rules end, each with the records that wait for it as its bodies, are those of the stored rule.
use Rattle.std.proofs.Common.{◌≡◌, ℕ, suc, ◌+◌, ◌-◌, ◌<◌, ◌≤◌, Bool, List, [], ◌∷◌, ◌++◌, length, get_or, take, drop, sym, refl, ap, ◌∙◌, subst, ap₂, arith, length-append}
use Rattle.std.proofs.lemmas.List.{append-nil, append_assoc, map-append, length_push, take_at, drop_at, get_or_at}
use Rattle.logic.specs.Rules.{Rule, Rules, rule, none, more, Book}
use Rattle.logic.specs.Store.{store, number_of, stores, numbers}
use Rattle.keys.specs.Numbering.{number}
use Rattle.reader.specs.declared.outline.End.{End}
use Rattle.reader.specs.Written.{WrittenRule, WrittenBodies, written, no_body, body, mentions, mentions_all, size, size_all, count, ends, ends_all}
use Rattle.book.specs.KeyLists.{NumberedLaidOut}
use Rattle.book.specs.Entering.{numbered, all_numbered, numbers_of, heads, all_heads, many, endings, all_endings, LaidOut}

-- the records so far, and the numbers of those that wait for the rule whose bodies they are
pub record Built : Type 0 where
  pub book : Book
  pub waiting : List ℕ

-- how many go on waiting when a rule ends
abbrev pub others : Built → End → ℕ
others s e = length s.waiting - e.bodies

-- a rule ends: it takes its bodies off those that wait, and waits itself
abbrev pub step : List ℕ → Built → End → Built
step ns s e = record {
  book = s.book ++ record { head = get_or ns e.mention 0; bodies = drop (others s e) s.waiting } ∷ [];
  waiting = take (others s e) s.waiting ++ length s.book ∷ [];
}

-- the rule that ends has a head, and its bodies wait
pub record Ready (ns : List ℕ) (s : Built) (e : End) : Type 0 where
  pub head : e.mention < length ns
  pub bodies : e.bodies ≤ length s.waiting

-- the rules end one after the other, and t is then built
abbrev pub Builds : List ℕ → Built → List End → Built → Type 0
Builds ns s [] t = s ≡ t
Builds ns s (e ∷ es) t = Ready ns s e × Builds ns (step ns s e) es t

-- the rule is stored, and waits
abbrev stored : Built → Rule → Built
stored s r = record { book = store s.book r; waiting = s.waiting ++ number_of s.book r ∷ [] }

abbrev all_stored : Built → Rules → Built
all_stored s rs = record { book = stores s.book rs; waiting = s.waiting ++ numbers s.book rs }

one_built : {book book' : Book} {w w' : List ℕ} → book ≡ book' → w ≡ w'
    → ◌≡◌ {A = Built} (record { book = book; waiting = w }) (record { book = book'; waiting = w' })
one_built p q = λ i. record { book = p i; waiting = q i }

numbers_many : (rs : Rules) (book : Book) → length (numbers book rs) ≡ many rs
unfolding store
numbers_many none book = refl
numbers_many (more r rs) book = ap suc (numbers_many rs (store book r))

-- a rule ends where its bodies wait last
step_is : (ns : List ℕ) (s : Built) (h m : ℕ) (bs : Rules) → get_or ns m 0 ≡ h
    → step ns (all_stored s bs) (record { mention = m; bodies = many bs }) ≡ stored s (rule h bs)
unfolding store
step_is ns s h m bs head =
    let ws = s.waiting in
    let nums = numbers s.book bs in
    let seam : length (ws ++ nums) - many bs ≡ length ws = omega (arith, length-append ws nums, numbers_many bs s.book) in
    let dropped : drop (length (ws ++ nums) - many bs) (ws ++ nums) ≡ nums = ap (λ (n : ℕ). drop n (ws ++ nums)) seam ∙ drop_at ws nums (length ws) refl in
    let kept : take (length (ws ++ nums) - many bs) (ws ++ nums) ≡ ws = ap (λ (n : ℕ). take n (ws ++ nums)) seam ∙ take_at ws nums (length ws) refl in
    λ i. record {
      book = stores s.book bs ++ record { head = head i; bodies = dropped i } ∷ [];
      waiting = kept i ++ length (stores s.book bs) ∷ [];
    }

ready_here : (ns pre post : List ℕ) (s : Built) (h m : ℕ) (bs : Rules) → ns ≡ pre ++ (h ∷ post) → length pre ≡ m
    → Ready ns (all_stored s bs) (record { mention = m; bodies = many bs })
ready_here ns pre post s h m bs e l = record {
  head = omega (arith, ap length e, length-append pre (h ∷ post));
  bodies = omega (arith, length-append s.waiting (numbers s.book bs), numbers_many bs s.book);
}

mutual
  unfolding store

  rule_builds : (r : Rule) (ns pre post : List ℕ) (m : ℕ) (s t : Built) (rest : List End) → ns ≡ pre ++ (heads r ++ post) → length pre ≡ m
      → Builds ns (stored s r) rest t → Builds ns s (endings m r ++ rest) t
  rule_builds (rule h bs) ns pre post m s t rest e l k =
      let end : End = record { mention = m; bodies = many bs } in
      let here : get_or ns m 0 ≡ h = ap (λ (x : List ℕ). get_or x m 0) e ∙ get_or_at pre h (all_heads bs ++ post) 0 m l in
      subst (λ (es : List End). Builds ns s es t) (sym (append_assoc (all_endings (m + 1) bs) (end ∷ []) rest))
      (bodies_build bs ns (pre ++ h ∷ []) post (m + 1) s t (end ∷ rest) (e ∙ sym (append_assoc pre (h ∷ []) (all_heads bs ++ post)))
      (length_push pre h ∙ ap (λ (n : ℕ). n + 1) l)
      (ready_here ns pre (all_heads bs ++ post) s h m bs e l, subst (λ (x : Built). Builds ns x rest t) (sym (step_is ns s h m bs here)) k))

  bodies_build : (rs : Rules) (ns pre post : List ℕ) (m : ℕ) (s t : Built) (rest : List End) → ns ≡ pre ++ (all_heads rs ++ post) → length pre ≡ m
      → Builds ns (all_stored s rs) rest t → Builds ns s (all_endings m rs ++ rest) t
  bodies_build none ns pre post m s t rest e l k =
      subst (λ (x : Built). Builds ns x rest t) (one_built refl (append-nil s.waiting)) k
  bodies_build (more r rs) ns pre post m s t rest e l k =
      let size = length (heads r) in
      subst (λ (es : List End). Builds ns s es t) (sym (append_assoc (endings m r) (all_endings (m + size) rs) rest))
      (rule_builds r ns pre (all_heads rs ++ post) m s t (all_endings (m + size) rs ++ rest)
      (e ∙ ap (λ (x : List ℕ). pre ++ x) (append_assoc (heads r) (all_heads rs) post)) l
      (bodies_build rs ns (pre ++ heads r) post (m + size) (stored s r) t rest
      (e ∙ ap (λ (x : List ℕ). pre ++ x) (append_assoc (heads r) (all_heads rs) post) ∙ sym (append_assoc pre (heads r) (all_heads rs ++ post)))
      (length-append pre (heads r) ∙ ap (λ (n : ℕ). n + size) l)
      (subst (λ (x : Built). Builds ns x rest t)
      (one_built refl (sym (append_assoc s.waiting (number_of s.book r ∷ []) (numbers (store s.book r) rs)))) k)))

-- where nothing waits, a rule that is laid out so builds what is stored
pub laid_out_builds : (r : Rule) (ns : List ℕ) (es : List End) (book : Book) → LaidOut r ns es
    → Builds ns (record { book = book; waiting = [] }) es (record { book = store book r; waiting = number_of book r ∷ [] })
laid_out_builds r ns es book laid =
    let s : Built = record { book = book; waiting = [] } in
    subst (λ (x : List End). Builds ns s x (stored s r)) (append-nil (endings 0 r) ∙ sym laid.endings_are)
    (rule_builds r ns [] [] 0 s (stored s r) [] (laid.heads_are ∙ sym (append-nil (heads r))) refl refl)

-- ---- a rule as written, with the numbers of its keys

module _ {K : Type 0} (same : K → K → Bool) (ks : List K) where
  mutual
    numbered_heads : (w : WrittenRule K) → heads (numbered same ks w) ≡ numbers_of same ks (mentions w)
    numbered_heads (written k p bs) = ap (λ (x : List ℕ). number same ks k ∷ x) (all_numbered_heads bs)

    all_numbered_heads : (bs : WrittenBodies K) → all_heads (all_numbered same ks bs) ≡ numbers_of same ks (mentions_all bs)
    all_numbered_heads no_body = refl
    all_numbered_heads (body w bs) =
        ap₂ ◌++◌ (numbered_heads w) (all_numbered_heads bs)
        ∙ sym (map-append _ (mentions w) (mentions_all bs))

  numbered_many : (bs : WrittenBodies K) → many (all_numbered same ks bs) ≡ count bs
  numbered_many no_body = refl
  numbered_many (body w bs) = ap suc (numbered_many bs)

  mutual
    numbered_size : (w : WrittenRule K) → length (heads (numbered same ks w)) ≡ size w
    numbered_size (written k p bs) = ap suc (all_numbered_size bs)

    all_numbered_size : (bs : WrittenBodies K) → length (all_heads (all_numbered same ks bs)) ≡ size_all bs
    all_numbered_size no_body = refl
    all_numbered_size (body w bs) =
        length-append (heads (numbered same ks w)) (all_heads (all_numbered same ks bs)) ∙ ap₂ ◌+◌ (numbered_size w) (all_numbered_size bs)

  mutual
    numbered_endings : (w : WrittenRule K) (m : ℕ) → endings m (numbered same ks w) ≡ ends m w
    numbered_endings (written k p bs) m =
        ap₂ (λ (es : List End) (n : ℕ). es ++ record { mention = m; bodies = n } ∷ []) (all_numbered_endings bs (m + 1)) (numbered_many bs)

    all_numbered_endings : (bs : WrittenBodies K) (m : ℕ) → all_endings m (all_numbered same ks bs) ≡ ends_all m bs
    all_numbered_endings no_body m = refl
    all_numbered_endings (body w bs) m =
        ap₂ ◌++◌ (numbered_endings w m)
        (ap (λ (n : ℕ). all_endings (m + n) (all_numbered same ks bs)) (numbered_size w) ∙ all_numbered_endings bs (m + size w))

pub numbered_laid_out : (K : Type 0) → NumberedLaidOut K
numbered_laid_out K same ks w o outlined = record {
  heads_are = sym (numbered_heads same ks w);
  endings_are = outlined.rules ∙ sym (numbered_endings same ks w 0);
}
