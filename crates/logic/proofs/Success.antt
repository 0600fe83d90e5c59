-- A search that succeeds hands out the bytes of a tree.
use Rattle.std.proofs.Common.{◌≡◌, ℕ, List, ◌∷◌, ◌++◌, refl, ap, ap₂}
use Rattle.logic.specs.Trees.{Tree, Trees, by_rule, by_restart, no_body, body, bytes, bytes_all}
use Rattle.logic.specs.Search.{Setting, Query, succeeded, Asked, begun, Tried, passed, rule_succeeds, rule_fails, restart_succeeds, Bodies, all_asked, rest_succeeds}
use Rattle.logic.specs.Theorems.{SuccessRight}

module _ (s : Setting) where
  abbrev TreeOf : ℕ → ℕ → List ℕ → Type 0
  TreeOf S x t = (tree : Tree s.book s.restart s.goal S x) × (bytes tree ≡ t)

  abbrev TreesOf : ℕ → List ℕ → List ℕ → Type 0
  TreesOf S bs t = (trees : Trees s.book s.restart s.goal S bs) × (bytes_all trees ≡ t)

  mutual
    unfolding bytes

    asked_tree : {way : List Query} {q : Query} {n : ℕ} {t : List ℕ} {k : ℕ} → Asked s way q n (succeeded t) k → TreeOf q.in_force q.name t
    asked_tree (begun b c d) = tried_tree d

    tried_tree : {way : List Query} {q : Query} {i n : ℕ} {t : List ℕ} {k : ℕ} → Tried s way q i n (succeeded t) k → TreeOf q.in_force q.name t
    tried_tree (passed l a d) = tried_tree d
    tried_tree (rule_succeeds {i = i} l a d) = let e = bodies_trees d in (by_rule i a e.0, ap (λ (u : List ℕ). 1 ∷ i ∷ u) e.1)
    tried_tree (rule_fails l a b d) = tried_tree d
    tried_tree (restart_succeeds e r d) = let f = asked_tree d in (by_restart r f.0, ap (λ (u : List ℕ). 2 ∷ u) f.1)

    bodies_trees : {way : List Query} {S : ℕ} {bs : List ℕ} {n : ℕ} {t : List ℕ} {k : ℕ} → Bodies s way S bs n (succeeded t) k → TreesOf S bs t
    bodies_trees all_asked = (no_body, refl)
    bodies_trees (rest_succeeds a d) =
        let e = asked_tree a in
        let f = bodies_trees d in
        (body e.0 f.0, ap₂ (λ (u v : List ℕ). u ++ v) e.1 f.1)

pub success_right : SuccessRight
success_right s way q n k t a = asked_tree s a
