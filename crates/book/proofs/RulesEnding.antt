-- Rules end one after the other, and their records are put behind the others.
use Rattle.std.proofs.Common.{◌≡◌, ℕ, ◌+◌, ◌<◌, ◌≤◌, List, [], ◌∷◌, ◌++◌, length, get_or, drop, sym, refl, ap, ◌∙◌, subst, ap₂, arith, length-take}
use Rattle.std.proofs.lemmas.List.{length_push, drop_more}
use Rattle.logic.specs.Sets.{AllBelow}
use Rattle.logic.specs.Rules.{Rule}
use Rattle.logic.specs.Store.{store, number_of}
use Rattle.keys.proofs.Numbering.{front_self, front_trans}
use Rattle.reader.specs.declared.outline.End.{End}
use Rattle.book.specs.Books.{records_of}
use Rattle.book.specs.Entering.{LaidOut}
use Rattle.book.specs.Entries.{others, RuleEnds, Longer}
use Rattle.book.specs.declared.book.Book.{Book}
use Rattle.book.proofs.Building.{Built, Builds, step, laid_out_builds}
use Rattle.book.proofs.Listing.{below_push}
use Rattle.book.proofs.Waits.{below_take, below_longer}

abbrev here : Book → List ℕ → Built
here b ws = record { book = records_of b; waiting = ws }

abbrev there : Book → Rule → Built
there b r = record { book = store (records_of b) r; waiting = number_of (records_of b) r ∷ [] }

-- the first i of these rules have ended: their records stand behind those of b₀, and these wait
pub record RulesEnded (b₀ b : Book) (ws ns : List ℕ) (es : List End) (i : ℕ) : Type 0 where
  pub longer : Longer b₀ b
  pub many : length (records_of b) ≡ length (records_of b₀) + i
  pub below : AllBelow (length (records_of b)) ws
  pub few : length ws ≤ i
  pub builds : (r : Rule) → LaidOut r ns es → Builds ns (here b ws) (drop i es) (there b₀ r)

pub none_ended : (b : Book) (ws ns : List ℕ) (es : List End) → ws ≡ [] → RulesEnded b b ws ns es 0
none_ended b ws ns es e =
    subst (λ (x : List ℕ). RulesEnded b b x ns es 0) (sym e)
    (record {
      longer = record { records = front_self (records_of b); names = refl; in_force = refl };
      many = omega arith;
      below = tt;
      few = omega arith;
      builds = λ r laid. laid_out_builds r ns es (records_of b) laid;
    })

module _ (b₀ b : Book) (ws ns : List ℕ) (es : List End) (i : ℕ) (d : End) (so_far : RulesEnded b₀ b ws ns es i) where
  module _ (within : i < length es) where
    next_builds : (r : Rule) → LaidOut r ns es → Builds ns (here b ws) (get_or es i d ∷ drop (i + 1) es) (there b₀ r)
    next_builds r laid =
        subst (λ (x : List End). Builds ns (here b ws) x (there b₀ r)) (drop_more es i d within) (so_far.builds r laid)

    -- one more has ended
    pub one_ended : (b' : Book) (ws' ws'' : List ℕ) (n : ℕ) → RuleEnds ns ws (get_or es i d) b ws' b' n → ws'' ≡ ws' ++ n ∷ []
        → RulesEnded b₀ b' ws'' ns es (i + 1)
    one_ended b' ws' ws'' n e waits = record {
      longer = record {
        records = front_trans so_far.longer.records (record { others = _; split = e.book_is.records });
        names = e.book_is.names ∙ so_far.longer.names;
        in_force = e.book_is.in_force ∙ so_far.longer.in_force;
      };
      many = omega (arith, grown, so_far.many);
      below = subst (AllBelow (length (records_of b'))) (sym waits)
          (below_push (length (records_of b')) ws' n
          (below_longer (length (records_of b)) (length (records_of b')) ws' (omega (arith, grown))
          (subst (AllBelow (length (records_of b))) (sym e.waiting_are) (below_take (length (records_of b)) _ ws so_far.below)))
          (omega (arith, grown, e.number_is)));
      few = omega (arith, ap length waits, length_push ws' n, ap length e.waiting_are, length-take (others ws (get_or es i d).bodies) ws, so_far.few);
      builds = λ r laid.
          subst (λ (s : Built). Builds ns s (drop (i + 1) es) (there b₀ r)) stepped (next_builds r laid).1;
    }
      where
        grown : length (records_of b') ≡ length (records_of b) + 1
        grown = ap length e.book_is.records ∙ length_push (records_of b) _

        stepped : step ns (here b ws) (get_or es i d) ≡ here b' ws''
        stepped =
            λ j. record {
              book = sym e.book_is.records j;
              waiting = (ap₂ (λ (x : List ℕ) (y : ℕ). x ++ y ∷ []) (sym e.waiting_are) (sym e.number_is) ∙ sym waits) j;
            }
