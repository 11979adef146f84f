use Rattle.std.proofs.Common.{◌≡◌, ℕ, List, map, IfOk, rules, arith, sym, ap, ◌∙◌, subst, length}
use borrow.Author.Tests.{tests}
use Rattle.std.proofs.lemmas.Iterator.{YieldsList-from_map, items_from_collect}
use Rattle.std.proofs.lemmas.Iterator.Consumers.{YieldsList-from_rest}
use Rattle.std.specs.FinMap.{from_entries, empty}
use Rattle.line_memory.specs.Line.{bank_load}
use Rattle.seq_object.specs.declared.history.Pair.{Pair}
use Rattle.seq_object.specs.Plain.{listed, pair_of}
use Rattle.seq_object.proofs.Entries.{entries-from_entries}
use Rattle.room_model.specs.MapRoom.{layout_of, head}
use Rattle.room_model.specs.Walks.{pairs_below}
use Rattle.locked_map.specs.Listing.{with_all, AreWalks}
use Rattle.locked_map.proofs.Listings.{all_pairs, one_chain_more, walks}
use Rattle.locked_map.proofs.Places.{laid}
use Rattle.locked_map.proofs.listing.listed_pairs.Goals as goal

pub load-first-requires-clause-line : goal.load-first-requires-clause-line
load-first-requires-clause-line c =
    let high = (laid c.args.heads).high c.loop-bucket.bucket (omega arith) in
    let is = c.head_line.ensures.is in
    let some = c.requires in
    omega (arith, high, is, some)

pub loop-bucket-preserved : goal.loop-bucket-preserved
loop-bucket-preserved c = λ z same all.
    let r = bank_load c.args.cells.now.bank in
    let layout = layout_of c.args.heads in
    let first : c.load-first.result ≡ head layout r c.loop-bucket.bucket = c.load-first.ensures ∙ ap (λ (line : ℕ). r line c.head_word-head_word.result) c.head_line.ensures.is ∙ ap (r (layout.head_line c.loop-bucket.bucket)) c.head_word-head_word.ensures.is in
    one_chain_more layout z r (length c.args.cells.now.bank.lines) c.loop-bucket.bucket c.load-first.result (from_entries c.loop-bucket.pairs.entries) (from_entries c.add_chain.new.pairs.entries) same (omega arith) first all
    (c.loop-bucket.invariant z same all) (λ w. c.in_ok-add_chain.ensures w)

pub returns : goal.returns
returns c = λ z shard held same stands.
    let r = bank_load c.args.cells.now.bank in
    let es = c.loop-bucket.pairs.entries in
    let n = length c.args.cells.now.bank.lines in
    let layout = layout_of c.args.heads in
    let last : c.loop-bucket.bucket ≡ 8 = omega arith in
    let all : AreWalks layout n r = subst (λ (k : ℕ). AreWalks layout k r) same (walks layout z shard r held (laid c.args.heads) stands) in
    let whole : held ≡ from_entries es = sym (all_pairs layout z shard r held (laid c.args.heads) stands) ∙ ap (λ (b : ℕ). with_all empty (pairs_below layout z r b)) (sym last) ∙ sym (c.loop-bucket.invariant z same all) in
    let list : listed held ≡ map pair_of es = ap listed whole ∙ ap (map pair_of) (entries-from_entries es c.iter.ensures.ordered) in
    let made : IfOk c.collect.result (λ pairs. pairs.items ≡ map pair_of es) =
    items_from_collect c.collect.result c.collect.ensures.ran (YieldsList-from_map _ pair_of (YieldsList-from_rest es (c.map.ensures.source ∙ c.iter.ensures.rest)) c.map.ensures.closure (λ x r q k. search (rules, tests))) in
    subst (λ (l : List Pair). IfOk c.collect.result (λ pairs. pairs.items ≡ l)) (sym list) made
