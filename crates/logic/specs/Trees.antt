-- Success trees.
use Rattle.std.specs.Prelude.{◌≡◌, ℕ, ◌<◌, Bool, T, List, [], ◌∷◌, ◌++◌, length}
use Rattle.logic.specs.Sets.{Has}
use Rattle.logic.specs.Rules.{Book, head_of, bodies_of, supposing}

-- record r of the book is in force in S, and its head is x
pub record Applies (book : Book) (S x r : ℕ) : Type 0 where
  pub recorded : r < length book
  pub in_force : Has S r
  pub heads : head_of book r ≡ x

-- Tree book restart g S x: the name x succeeds from the set S.
-- By a rule: a record applies, and each of its bodies succeeds.
-- By restart, where that is allowed: the goal's head g succeeds from the same set.
mutual
  pub data Tree (book : Book) (restart : Bool) (g : ℕ) : ℕ → ℕ → Type 0 where
    by_rule : {S x : ℕ} (r : ℕ) → Applies book S x r → Trees book restart g S (bodies_of book r) → Tree book restart g S x
    by_restart : {S x : ℕ} → T restart → Tree book restart g S g → Tree book restart g S x

  -- each body in the list succeeds: its own bodies are put in force, and its head is asked
  pub data Trees (book : Book) (restart : Bool) (g : ℕ) : ℕ → List ℕ → Type 0 where
    no_body : {S : ℕ} → Trees book restart g S []
    body : {S b : ℕ} {bs : List ℕ}
        → Tree book restart g (supposing book S b) (head_of book b) → Trees book restart g S bs → Trees book restart g S (b ∷ bs)

-- the bytes of a tree: 1, the record, the trees of its bodies; or 2 and the tree of the goal's head
unfoldable mutual
  pub bytes : {book : Book} {restart : Bool} {g S x : ℕ} → Tree book restart g S x → List ℕ
  bytes (by_rule r a ts) = 1 ∷ r ∷ bytes_all ts
  bytes (by_restart t tree) = 2 ∷ bytes tree

  pub bytes_all : {book : Book} {restart : Bool} {g S : ℕ} {bs : List ℕ} → Trees book restart g S bs → List ℕ
  bytes_all no_body = []
  bytes_all (body t ts) = bytes t ++ bytes_all ts
