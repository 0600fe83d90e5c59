-- What a whole search leaves in the buffer.
use Rattle.std.proofs.Common.{◌≡◌, ℕ, ◌-◌, ◌≤◌, Bool, Ok, List, [], ◌++◌, length, take, sym, ap, ◌∙◌, subst, arith}
use Rattle.std.proofs.lemmas.List.{take_at}
use Rattle.logic.proofs.Begun.{tracks_kept}
use Rattle.logic.proofs.Success.{success_right}
use Rattle.logic.specs.Search.{Outcome, succeeded}
use Rattle.logic.specs.Trees.{bytes}
use Rattle.book.specs.declared.book.Book.{Book}
use Rattle.book.specs.declared.record_set.RecordSet.{RecordSet}
use Rattle.prover.specs.Settings.{setting, query_of}
use Rattle.prover.specs.Settled.{zeros, GoalAsked, GoalTree, Settled, Shown}
use Rattle.prover.specs.Told.{NameAsked, Came}
use Rattle.prover.specs.Written.{Wrote}
use Rattle.prover.specs.declared.outcome.Outcome.TheVariants.{Yes}
use Rattle.prover.specs.declared.task.Task.{Task}
use Rattle.prover.proofs.Buffers.{wrote_whole}
use Rattle.prover.proofs.Steps.{told_as}

-- the first query has nothing begun above it
pub from_nothing : (b : Book) (k : Task) (S : RecordSet) (m : ℕ) (o : Outcome)
    → NameAsked (setting b k) (record { set = S; begun = 0 }) k.goal.index 0 m o → GoalAsked b k S.bits o m
from_nothing b k S m o d = d [] (tracks_kept.start S.bits)

-- what it came to
pub goal_came : (b : Book) (k : Task) (S : RecordSet) (m : ℕ) (out₀ : List ℕ) (out : List ℕ) (len : ℕ) (found found' : Bool) → found ≡ found'
    → Came (NameAsked (setting b k) (record { set = S; begun = 0 }) k.goal.index 0 m) [] out₀ 0 out len (Ok found)
    → Came (λ o. GoalAsked b k S.bits o m) [] out₀ 0 out len (Ok found')
goal_came b k S m out₀ out len found found' e d =
    subst (λ (v : Bool). Came (λ o. GoalAsked b k S.bits o m) [] out₀ 0 out len (Ok v)) e
    (told_as _ _ [] out₀ 0 out len (Ok found) (from_nothing b k S m) d)

-- the buffer is wiped
pub wiped : (mid out : List ℕ) → length out ≡ length mid → out ≡ take 0 mid ++ zeros (length mid - 0) → out ≡ zeros (length out)
wiped mid out same e = e ∙ ap zeros (let n : length mid - 0 ≡ length out = omega arith in n)

-- where a tree is found, its bytes are those of one
pub found_tree : (b : Book) (k : Task) (S n : ℕ) (t : List ℕ) → GoalAsked b k S (succeeded t) n → (tree : GoalTree b k S) × (bytes tree ≡ t)
found_tree b k S n t = success_right (setting b k) [] (query_of S k.goal.index) 0 n t

module _ (b : Book) (k : Task) (S m len : ℕ) (out₀ t found mid out : List ℕ) (kept : length out ≡ length mid) (fits : len ≤ length mid)
    (rest : out ≡ take len mid ++ zeros (length mid - len)) (is : mid ≡ found) (asked : GoalAsked b k S (succeeded t) m)
    (wr : Wrote out₀ 0 t found len) (same : length found ≡ length out₀) where
  whole : out ≡ t ++ zeros (length out - len)
  whole =
      rest ∙ ap (λ (l : List ℕ). l ++ zeros (length mid - len)) (ap (take len) is ∙ wrote_whole out₀ t found len wr same (omega (arith, ap length is)))
      ∙ ap (λ (n : ℕ). t ++ zeros (n - len)) (sym kept)

  pub yes_settled : Settled b k S out (Yes m len)
  yes_settled = (t, asked, (let e : len ≡ length t = omega (arith, wr.longer) in e), whole)

  pub yes_shown : Shown b k S out (Yes m len)
  yes_shown =
      let there = found_tree b k S m t asked in
      let e : length t ≡ len = omega (arith, wr.longer) in
      (there.0, ap (take len) whole ∙ take_at t (zeros (length out - len)) len e ∙ sym there.1)
