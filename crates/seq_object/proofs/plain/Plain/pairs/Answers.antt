use Rattle.std.proofs.Common.{◌≡◌, List, map, IfOk, rules, sym, ap, ◌∙◌, subst}
use borrow.Author.Tests.{tests}
use Rattle.std.proofs.lemmas.Iterator.{YieldsList-from_map, items_from_collect}
use Rattle.std.proofs.lemmas.Iterator.Consumers.{YieldsList-from_rest}
use Rattle.seq_object.specs.declared.history.Pair.{Pair}
use Rattle.seq_object.specs.Plain.{PlainState, listed, pair_of}
use Rattle.seq_object.proofs.Entries.{entries-from_entries}
use Rattle.seq_object.proofs.plain.Plain.pairs.Goals as goal

pub returns : goal.returns
returns c =
    let list : listed c.args.self.now.contents.pairs ≡ map pair_of c.self.inside.pairs.entries =
    ap (λ (s : PlainState). listed s.contents.pairs) (sym c.self.view_is) ∙ ap (map pair_of) (entries-from_entries c.self.inside.pairs.entries c.iter.ensures.ordered) in
    let made : IfOk c.collect.result (λ pairs. pairs.items ≡ map pair_of c.self.inside.pairs.entries) =
    items_from_collect c.collect.result c.collect.ensures.ran (YieldsList-from_map _ pair_of (YieldsList-from_rest c.self.inside.pairs.entries (c.map.ensures.source ∙ c.iter.ensures.rest)) c.map.ensures.closure (λ x r q k. search (rules, tests))) in
    subst (λ (l : List Pair). IfOk c.collect.result (λ pairs. pairs.items ≡ l)) (sym list) made
