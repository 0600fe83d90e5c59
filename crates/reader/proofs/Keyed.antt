-- A rule over keys has the places and the ends of the rule over places.
use Rattle.std.proofs.Common.{◌≡◌, ℕ, ◌+◌, List, [], ◌∷◌, ◌++◌, sym, refl, ap, ◌∙◌, append_assoc, append-nil, arith}
use Rattle.reader.specs.declared.outline.Outline.{Outline}
use Rattle.reader.specs.Outlines.{Outlines}
use Rattle.reader.specs.Tree.{Rule, Rules, rule, none, ◌▸◌}
use Rattle.reader.specs.Tree as tree
use Rattle.reader.specs.Written.{WrittenBodies, no_body, body, Mention, mentions, mentions_all, places, count, size, size_all, ends, ends_all, IsOutline}
use Rattle.reader.specs.Keyed.{keyed, keyed_all}

places-++ : {K : Type 0} (ms ns : List (Mention K)) → places (ms ++ ns) ≡ places ms ++ places ns
places-++ [] ns = refl
places-++ (m ∷ ms) ns = ap (λ l. m.place ∷ l) (places-++ ms ns)

module _ {K : Type 0} (key : ℕ → K) where
  count_is : (ts : Rules) (ws : WrittenBodies K) → count (keyed_all key ts ws) ≡ tree.count ts + count ws
  count_is none ws = omega arith
  count_is (ts ▸ t) ws = let e = count_is ts (body (keyed key t) ws) in omega arith

  mutual
    size_is : (t : Rule) → size (keyed key t) ≡ tree.size t
    size_is (rule p ts) = let e = sizes_are ts no_body in omega arith

    sizes_are : (ts : Rules) (ws : WrittenBodies K) → size_all (keyed_all key ts ws) ≡ tree.size_all ts + size_all ws
    sizes_are none ws = omega arith
    sizes_are (ts ▸ t) ws = let e = sizes_are ts (body (keyed key t) ws) in let h = size_is t in omega arith

  mutual
    pub places_are : (t : Rule) → places (mentions (keyed key t)) ≡ tree.places t
    places_are (rule p ts) = ap (λ l. p ∷ l) (all_places_are ts no_body ∙ append-nil (tree.places_all ts))

    all_places_are : (ts : Rules) (ws : WrittenBodies K) → places (mentions_all (keyed_all key ts ws)) ≡ tree.places_all ts ++ places (mentions_all ws)
    all_places_are none ws = refl
    all_places_are (ts ▸ t) ws =
        all_places_are ts (body (keyed key t) ws)
        ∙ ap (λ l. tree.places_all ts ++ l) (places-++ (mentions (keyed key t)) (mentions_all ws) ∙ ap (λ l. l ++ places (mentions_all ws)) (places_are t))
        ∙ sym (append_assoc (tree.places_all ts) (tree.places t) (places (mentions_all ws)))

  mutual
    pub ends_are : (m : ℕ) (t : Rule) → ends m (keyed key t) ≡ tree.ends m t
    ends_are m (rule p ts) =
        let n : count (keyed_all key ts no_body) ≡ tree.count ts = let c = count_is ts no_body in omega arith in
        ap (λ k. ends_all (m + 1) (keyed_all key ts no_body) ++ (record { mention = m; bodies = k } ∷ [])) n
        ∙ ap (λ l. l ++ (record { mention = m; bodies = tree.count ts } ∷ [])) (all_ends_are (m + 1) ts no_body ∙ append-nil (tree.ends_all (m + 1) ts))

    all_ends_are : (m : ℕ) (ts : Rules) (ws : WrittenBodies K) → ends_all m (keyed_all key ts ws) ≡ tree.ends_all m ts ++ ends_all (m + tree.size_all ts) ws
    all_ends_are m none ws = let e : m ≡ m + 0 = omega arith in ap (λ k. ends_all k ws) e
    all_ends_are m (ts ▸ t) ws =
        let n : ℕ = m + tree.size_all ts in
        let e : n + size (keyed key t) ≡ m + (tree.size_all ts + tree.size t) = let h = size_is t in omega arith in
        all_ends_are m ts (body (keyed key t) ws)
        ∙ ap (λ l. tree.ends_all m ts ++ (l ++ ends_all (n + size (keyed key t)) ws)) (ends_are n t)
        ∙ ap (λ k. tree.ends_all m ts ++ (tree.ends n t ++ ends_all k ws)) e
        ∙ sym (append_assoc (tree.ends_all m ts) (tree.ends n t) (ends_all (m + (tree.size_all ts + tree.size t)) ws))

  -- the outline of a rule over places is that of the rule over the keys that stand there
  pub outline_keyed : (t : Rule) (o : Outline) → Outlines t o → IsOutline (keyed key t) o
  outline_keyed t o h = record { heads = h.heads ∙ sym (places_are t); rules = h.rules ∙ sym (ends_are 0 t) }
