use Rattle.std.proofs.Common.{◌≡◌, ◌+◌, ◌≤◌, length}
use Rattle.seq_object.specs.Object.{Pairs}
use Rattle.image_check.specs.Cells.{words_of}
use Rattle.image_check.specs.MapFaults.{may_join}
use Rattle.image_check.specs.Keyed.{pairs_in, IsNoted}
use Rattle.image_check.proofs.Walks.{IsGoing}
use Rattle.image_check.proofs.chains.walk_bucket.Given as goal

abbrev pub invariant-loop-line : goal.invariant-loop-line
invariant-loop-line l = record {
  going : (others : Pairs) → IsGoing (λ x. words_of l.cells x 2) (may_join l.nodes.first (words_of l.cells) l.cells.sizes l.chain.shard l.chain.bucket) l.cells.sizes.lines l.chain.start
      (IsNoted (words_of l.cells) l.cells.sizes l.chain.shard others l.initial.marks l.fn.met (pairs_in l.initial.pairs.entries))
      (IsNoted (words_of l.cells) l.cells.sizes l.chain.shard others l.marks l.now (pairs_in l.pairs.entries)) l.walk.left l.walk.line;
  word : l.walk.word ≡ 2;
  size : length l.marks ≡ l.cells.sizes.lines;
  few : l.now.count + l.walk.left ≤ l.fn.met.count + l.cells.sizes.lines;
}

abbrev pub decreases-loop-line : goal.decreases-loop-line
decreases-loop-line l = l.walk.left
