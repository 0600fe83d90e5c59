use Rattle.std.proofs.Common.{◌≡◌, ◌+◌, max, take, sym, ap, ◌∙◌, rules}
use Rattle.std.specs.List.{reduce}
use Rattle.std.specs.Option.{unwrap_or}
use Rattle.std.proofs.lemmas.Iterator.{YieldsList-from_slice, YieldsList-from_map}
use Rattle.std.proofs.lemmas.Iterator.Adapters.{option_map_id}
use Rattle.std.proofs.lemmas.Iterator.Consumers.{YieldsList-at, max_from_yields_List}
use Rattle.book.proofs.Cutting.{each_needs, all_needed}
use Rattle.book.proofs.book.Book.needed.Goals as goal

pub returns : goal.returns
returns c =
    let rs = take c.args.count c.args.self.now.records in
    let most : c.max.result ≡ reduce max (each_needs rs) =
    sym (option_map_id c.max.result)
    ∙ max_from_yields_List {v = λ n. n} _ _ c.max.ensures.ran
    (YieldsList-from_map _ (λ r. r.head.index + 1) (YieldsList-at c.map.ensures.source (YieldsList-from_slice rs c.iter.ensures.rest)) c.map.ensures.closure (λ r n f called. search rules)) in
    c.unwrap_or.ensures ∙ ap (λ o. unwrap_or o 0) most ∙ all_needed rs
