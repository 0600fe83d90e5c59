use Rattle.std.proofs.Common.{◌≡◌, ◌-◌, ◌++◌, ◌∷◌, [], length, get_or, take, drop, sym, ap, ◌∙◌, arith}
use Rattle.std.proofs.lemmas.List.{length-map}
use Rattle.book.specs.Entries.{others}
use Rattle.book.specs.Numbers.{record_indices, listed}
use Rattle.book.proofs.Listing.{listed_next}
use Rattle.book.proofs.Waits.{others_left, last_taken}
use Rattle.book.proofs.entering.take.Goals as goal

pub loop-body-preserved : goal.loop-body-preserved
loop-body-preserved c =
    let rs = c.deref.result.now in
    let left = c.in_ok-others.others in
    let bs = take (length rs - left) (drop left rs) in
    let here : c.body-item.result ≡ get_or bs c.loop-body.body-index c.body-item.result = c.body-item.is in
    c.in_ok-bodies.ensures.1 ∙ ap (λ ns. ns ++ c.body-item.result.index ∷ []) c.loop-body.invariant
    ∙ ap (λ b. listed c.loop-body.body-index bs ++ b.index ∷ []) here ∙ sym (listed_next bs c.loop-body.body-index c.body-item.result (omega arith))

pub returns : goal.returns
returns c =
    let rs = c.deref.result.now in
    let ws = c.args.waiting.now.items in
    let n = c.args.count in
    let left = c.in_ok-others.others in (
      omega (arith, length-map ws (λ r. r.index)),
      c.loop-body.invariant ∙ last_taken rs n left (omega (arith, ap length c.deref.ensures.0)) c.loop-body.body-index (omega arith)
          ∙ ap (λ xs. drop (others (record_indices xs) n) (record_indices xs)) c.deref.ensures.0,
      others_left ws n left (omega arith) _ c.truncate.ensures.items,
    )
