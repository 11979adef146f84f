use Rattle.std.proofs.Common.{subst}
use Rattle.room_model.specs.MapRoom.{layout_of}
use Rattle.image_check.specs.Cells.{words_of}
use Rattle.image_check.specs.MapFaults.{met_chains}
use Rattle.image_check.specs.Keyed.{pairs_in, HasNoted}
use Rattle.image_check.proofs.BucketWalks.{map_free_fault, map_kept}
use Rattle.image_check.proofs.room_checks.map_chains_fault.Goals as goal

pub returns-in-Some-clause-fault : goal.returns-in-Some-clause-fault
returns-in-Some-clause-fault c =
    map_free_fault (layout_of c.args.heads) c.args.cells.sizes c.args.shard (words_of c.args.cells) (pairs_in c.args.pairs.now.entries) c.first_node.result c.walk_chains.new.marks (pairs_in c.walk_chains.new.pairs.entries) c.in-Some.met c.free_fault.result c.first_node.ensures
    (subst (λ o. HasNoted (words_of c.args.cells) c.args.cells.sizes c.args.shard (pairs_in c.args.pairs.now.entries) o c.walk_chains.new.marks (pairs_in c.walk_chains.new.pairs.entries) (met_chains (layout_of c.args.heads) c.args.cells.sizes c.args.shard (words_of c.args.cells) 8)) c.in-Some.is c.in_ok-walk_chains.ensures.walked)
    c.free_fault.ensures

pub returns-in-Some-clause-pairs : goal.returns-in-Some-clause-pairs
returns-in-Some-clause-pairs c = λ none.
    map_kept (layout_of c.args.heads) c.args.cells.sizes c.args.shard (words_of c.args.cells) (pairs_in c.args.pairs.now.entries) c.walk_chains.new.marks (pairs_in c.walk_chains.new.pairs.entries) c.in-Some.met
    (subst (λ o. HasNoted (words_of c.args.cells) c.args.cells.sizes c.args.shard (pairs_in c.args.pairs.now.entries) o c.walk_chains.new.marks (pairs_in c.walk_chains.new.pairs.entries) (met_chains (layout_of c.args.heads) c.args.cells.sizes c.args.shard (words_of c.args.cells) 8)) c.in-Some.is c.in_ok-walk_chains.ensures.walked)
