-- The bytes that answer a query are those of its trees.
use Rattle.std.proofs.Common.{◌≡◌, ℕ, Bool, List, [], ◌∷◌, ◌++◌, sym, refl, ap, ◌∙◌, subst}
use Rattle.std.proofs.lemmas.List.{append-nil, append_assoc}
use Rattle.logic.specs.Rules.{Book, head_of, bodies_of, supposing}
use Rattle.logic.specs.Trees.{Tree, Trees, by_rule, by_restart, no_body, body, bytes, bytes_all}
use Rattle.logic.specs.Search.{Query}
use Rattle.logic.specs.Check.{Answers, none_waits, rule_byte, restart_byte, body_queries}
use Rattle.logic.specs.Theorems.{CheckRight}

module _ (book : Book) (restart : Bool) (g : ℕ) where
  -- ---- the bytes of a tree answer its query

  mutual
    unfolding bytes

    answers_tree : {S x : ℕ} (tree : Tree book restart g S x) {qs : List Query} {us : List ℕ} → Answers book restart g qs us
        → Answers book restart g (record { in_force = S; name = x } ∷ qs) (bytes tree ++ us)
    answers_tree (by_rule r a ts) w = rule_byte r a (answers_trees ts w)
    answers_tree (by_restart t tree) w = restart_byte t (answers_tree tree w)

    answers_trees : {S : ℕ} {bs : List ℕ} (ts : Trees book restart g S bs) {qs : List Query} {us : List ℕ} → Answers book restart g qs us
        → Answers book restart g (body_queries book S bs ++ qs) (bytes_all ts ++ us)
    answers_trees no_body w = w
    answers_trees (body {S = S} {b = b} {bs = bs} t ts) {qs = qs} {us = us} w =
        subst (Answers book restart g (record { in_force = supposing book S b; name = head_of book b } ∷ (body_queries book S bs ++ qs)))
        (sym (append_assoc (bytes t) (bytes_all ts) us)) (answers_tree t (answers_trees ts w))

  -- ---- bytes that answer queries are those of a tree for each

  -- the bytes begin with those of a tree of q, and the others are left
  record Front (S x : ℕ) (bs : List ℕ) : Type 0 where
    tree : Tree book restart g S x
    left : List ℕ
    split : bs ≡ bytes tree ++ left

  abbrev Forest : List Query → List ℕ → Type 0
  Forest [] bs = bs ≡ []
  Forest (q ∷ qs) bs = (f : Front q.in_force q.name bs) × Forest qs f.left

  record Fronts (S : ℕ) (cs : List ℕ) (qs : List Query) (bs : List ℕ) : Type 0 where
    trees : Trees book restart g S cs
    left : List ℕ
    split : bs ≡ bytes_all trees ++ left
    others : Forest qs left

  fronts : (S : ℕ) (cs : List ℕ) (qs : List Query) (bs : List ℕ) → Forest (body_queries book S cs ++ qs) bs → Fronts S cs qs bs
  unfolding bytes
  fronts S [] qs bs f = record { trees = no_body; left = bs; split = refl; others = f }
  fronts S (c ∷ cs) qs bs f =
      let one = f.0 in
      let rest = fronts S cs qs one.left f.1 in
      record {
        trees = body one.tree rest.trees;
        left = rest.left;
        split = one.split ∙ ap (λ (u : List ℕ). bytes one.tree ++ u) rest.split
            ∙ sym (append_assoc (bytes one.tree) (bytes_all rest.trees) rest.left);
        others = rest.others;
      }

  forest : {qs : List Query} {bs : List ℕ} → Answers book restart g qs bs → Forest qs bs
  unfolding bytes
  forest none_waits = refl
  forest (rule_byte {q = q} {qs = qs} {bs = bs} r a w) =
      let f = fronts q.in_force (bodies_of book r) qs bs (forest w) in
      (record { tree = by_rule r a f.trees; left = f.left; split = ap (λ (u : List ℕ). 1 ∷ r ∷ u) f.split }, f.others)
  forest (restart_byte t w) =
      let f = forest w in
      (record { tree = by_restart t f.0.tree; left = f.0.left; split = ap (λ (u : List ℕ). 2 ∷ u) f.0.split }, f.1)

pub check_right : CheckRight
check_right book restart g q bs = (
  λ w.
      let f = forest book restart g w in
      (f.0.tree, sym (f.0.split ∙ ap (λ (u : List ℕ). bytes f.0.tree ++ u) f.1 ∙ append-nil (bytes f.0.tree))),
  λ t. subst (Answers book restart g (q ∷ [])) (append-nil (bytes t.0) ∙ t.1) (answers_tree book restart g t.0 none_waits),
)
