use Rattle.std.proofs.Common.{◌≡◌, List, map, IfOk, rules, sym, subst}
use borrow.Author.Tests.{tests}
use Rattle.std.proofs.lemmas.Iterator.{YieldsList-from_map, items_from_collect}
use Rattle.std.proofs.lemmas.Iterator.Consumers.{YieldsList-from_rest}
use Rattle.seq_object.specs.declared.history.Pair.{Pair}
use Rattle.seq_object.specs.Plain.{listed, pair_of}
use Rattle.seq_object.proofs.Entries.{entries-from_entries}
use Rattle.std.proofs.Common.{ap, ◌∙◌}
use Rattle.image_check.specs.Keyed.{pairs_in}
use Rattle.image_check.proofs.recovering.listed_pairs.Goals as goal

pub returns : goal.returns
returns c =
    let es = c.args.pairs.now.entries in
    let list : listed (pairs_in es) ≡ map pair_of es = ap (map pair_of) (entries-from_entries es c.iter.ensures.ordered) in
    let made : IfOk c.collect.result (λ pairs. pairs.items ≡ map pair_of es) =
    items_from_collect c.collect.result c.collect.ensures.ran (YieldsList-from_map _ pair_of (YieldsList-from_rest es (c.map.ensures.source ∙ c.iter.ensures.rest)) c.map.ensures.closure (λ x r q k. search (rules, tests))) in
    subst (λ (l : List Pair). IfOk c.collect.result (λ pairs. pairs.items ≡ l)) (sym list) made
