-- Boolean tests: decisions, conjunctions, a test at some number below n, a test at each member of a list.
use Rattle.std.proofs.Common.{◌≡◌, ℕ, zero, suc, ◌+◌, ◌<◌, ◌≤◌, Bool, true, false, ◌&&◌, ◌||◌, T, ◌⊎◌, List, [], ◌∷◌, sym, refl, subst, inl, inr, ⊎_elim, zero-le, not-suc-le-zero, arith}
use Rattle.std.proofs.lemmas.Bool.{cases_eq}
use Rattle.logic.proofs.Sets.{Member, first, later}

abbrev pub is_yes : {A : Type 0} → Dec A → Bool
is_yes (yes a) = true
is_yes (no h) = false

pub from_yes : {A : Type 0} (d : Dec A) → T (is_yes d) → A
from_yes (yes a) t = a
from_yes (no h) t = absurd t

pub to_yes : {A : Type 0} (d : Dec A) → A → T (is_yes d)
to_yes (yes a) b = tt
to_yes (no h) b = h b

unfoldable pub dec_T : (b : Bool) → Dec (T b)
dec_T true = yes tt
dec_T false = no (λ t. t)

pub both : (a b : Bool) → T a → T b → T (a && b)
both true b s t = t
both false b s t = s

pub and_left : (a b : Bool) → T (a && b) → T a
and_left true b t = tt
and_left false b t = t

pub and_right : (a b : Bool) → T (a && b) → T b
and_right true b t = t
and_right false b t = absurd t

pub or_left : (a b : Bool) → T a → T (a || b)
or_left true b t = tt
or_left false b t = absurd t

pub or_right : (a b : Bool) → T b → T (a || b)
or_right true b t = tt
or_right false b t = t

pub or_cases : (a b : Bool) → T (a || b) → T a ⊎ T b
or_cases true b t = inl tt
or_cases false b t = inr t

-- two decisions at once
pub yes_both : {A B : Type 0} (d : Dec A) (e : Dec B) → A → B → T (is_yes d && is_yes e)
yes_both d e a b = both (is_yes d) (is_yes e) (to_yes d a) (to_yes e b)

pub both_yes : {A B : Type 0} (d : Dec A) (e : Dec B) → T (is_yes d && is_yes e) → A × B
both_yes d e t = (from_yes d (and_left (is_yes d) (is_yes e) t), from_yes e (and_right (is_yes d) (is_yes e) t))

-- of each number one or the other is true: then the one of some number below n, or the other of all
pub found_or_all : (n : ℕ) (A B : ℕ → Type 0) → ((r : ℕ) → A r ⊎ B r) → ((r : ℕ) × (r < n) × A r) ⊎ ((r : ℕ) → r < n → B r)
found_or_all zero A B d = inr (λ r l. absurd (not-suc-le-zero l))
found_or_all (suc n) A B d =
    ⊎_elim (λ a. inl (n, omega arith, a))
    (λ b. ⊎_elim (λ i. inl (i.0, omega (arith, i.1), i.2))
    (λ all. inr (λ r l. ⊎_elim (λ e. subst B (sym e) b) (λ no. all r (omega arith)) (cases_eq r n))) (found_or_all n A B d)) (d n)

-- the test passes at some number below n
pub some_below : ℕ → (ℕ → Bool) → Bool
some_below zero f = false
some_below (suc n) f = f n || some_below n f

pub some_found : (n : ℕ) (f : ℕ → Bool) → T (some_below n f) → (r : ℕ) × (r < n) × T (f r)
unfolding some_below
some_found zero f t = absurd t
some_found (suc n) f t =
    ⊎_elim (λ s. (n, omega arith, s)) (λ s. let i = some_found n f s in (i.0, omega arith, i.2)) (or_cases (f n) (some_below n f) t)

pub some_at : (n : ℕ) (f : ℕ → Bool) (r : ℕ) → r < n → T (f r) → T (some_below n f)
unfolding some_below
some_at zero f r l t = absurd (not-suc-le-zero l)
some_at (suc n) f r l t =
    ⊎_elim (λ e. or_left (f n) (some_below n f) (subst (λ (i : ℕ). T (f i)) e t))
    (λ no. or_right (f n) (some_below n f) (some_at n f r (omega arith) t)) (cases_eq r n)

-- the test passes at each member of the list
abbrev pub all_of : (ℕ → Bool) → List ℕ → Bool
all_of f [] = true
all_of f (b ∷ bs) = f b && all_of f bs

pub all_map : (f g : ℕ → Bool) → ((b : ℕ) → T (f b) → T (g b)) → (bs : List ℕ) → T (all_of f bs) → T (all_of g bs)
all_map f g k [] t = tt
all_map f g k (b ∷ bs) t = both (g b) (all_of g bs) (k b (and_left (f b) (all_of f bs) t)) (all_map f g k bs (and_right (f b) (all_of f bs) t))

pub all_from : (f : ℕ → Bool) (bs : List ℕ) → ((b : ℕ) → Member b bs → T (f b)) → T (all_of f bs)
all_from f [] k = tt
all_from f (b ∷ bs) k = both (f b) (all_of f bs) (k b first) (all_from f bs (λ c m. k c (later m)))

-- ---- counting

abbrev bit : Bool → ℕ
bit true = 1
bit false = 0

-- at how many numbers below n the test passes
pub count : ℕ → (ℕ → Bool) → ℕ
count zero f = 0
count (suc n) f = bit (f n) + count n f

bit_le : (b : Bool) → bit b ≤ 1
bit_le true = omega arith
bit_le false = omega arith

bit_mono : (a b : Bool) → (T a → T b) → bit a ≤ bit b
bit_mono true true k = omega arith
bit_mono true false k = absurd (k tt)
bit_mono false b k = zero-le

pub count_le : (n : ℕ) (f : ℕ → Bool) → count n f ≤ n
unfolding count
count_le zero f = omega arith
count_le (suc n) f = omega (arith, count_le n f, bit_le (f n))

count_mono : (n : ℕ) (f g : ℕ → Bool) → ((i : ℕ) → T (f i) → T (g i)) → count n f ≤ count n g
unfolding count
count_mono zero f g k = omega arith
count_mono (suc n) f g k = omega (arith, count_mono n f g k, bit_mono (f n) (g n) (k n))

-- a weaker test passes at the same numbers, or at more
pub same_or_more : (n : ℕ) (f g : ℕ → Bool) → ((i : ℕ) → T (f i) → T (g i))
    → ((i : ℕ) → i < n → T (g i) → T (f i)) ⊎ (count n f < count n g)
unfolding count
same_or_more zero f g k = inl (λ i l t. absurd (not-suc-le-zero l))
same_or_more (suc n) f g k = go (dec_T (f n)) (dec_T (g n)) (same_or_more n f g k)
  where
    extend : (T (g n) → T (f n)) → ((i : ℕ) → i < n → T (g i) → T (f i)) → (i : ℕ) → i < suc n → T (g i) → T (f i)
    extend at same i l t =
        ⊎_elim (λ e. subst (λ (j : ℕ). T (f j)) (sym e) (at (subst (λ (j : ℕ). T (g j)) e t))) (λ no. same i (omega arith) t) (cases_eq i n)

    one : (b : Bool) → T b → bit b ≡ 1
    one true t = refl
    one false t = absurd t

    nil : (b : Bool) → (T b → ⊥) → bit b ≡ 0
    nil true t = absurd (t tt)
    nil false t = refl

    go : Dec (T (f n)) → Dec (T (g n)) → ((i : ℕ) → i < n → T (g i) → T (f i)) ⊎ (count n f < count n g)
        → ((i : ℕ) → i < suc n → T (g i) → T (f i)) ⊎ (bit (f n) + count n f < bit (g n) + count n g)
    go a b (inr l) = inr (omega (arith, bit_mono (f n) (g n) (k n)))
    go (yes t) b (inl same) = inl (extend (λ u. t) same)
    go (no t) (no u) (inl same) = inl (extend (λ v. absurd (u v)) same)
    go (no t) (yes u) (inl same) = inr (omega (arith, nil (f n) t, one (g n) u, count_mono n f g k))

-- tests that grow weaker and weaker come to rest below n
pub at_rest : (n : ℕ) (F : ℕ → ℕ → Bool) → ((h i : ℕ) → T (F h i) → T (F (suc h) i))
    → (fuel h : ℕ) → n ≤ count n (F h) + fuel → (k : ℕ) × ((i : ℕ) → i < n → T (F (suc k) i) → T (F k i))
at_rest n F grow zero h l =
    ⊎_elim (λ same. (h, same)) (λ more. absurd (omega (arith, count_le n (F (suc h))))) (same_or_more n (F h) (F (suc h)) (grow h))
at_rest n F grow (suc fuel) h l =
    ⊎_elim (λ same. (h, same)) (λ more. at_rest n F grow fuel (suc h) (omega arith)) (same_or_more n (F h) (F (suc h)) (grow h))
