use Rattle.std.proofs.Common.{◌≡◌, ◌*◌, ◌^◌, ◌≤◌, length}
use Rattle.room_model.specs.MapRoom.{layout_of}
use Rattle.image_check.specs.Cells.{words_of}
use Rattle.image_check.specs.Keyed.{pairs_in}
use Rattle.image_check.proofs.BucketWalks.{AreNoted}
use Rattle.image_check.proofs.chains.walk_chains.Given as goal

abbrev pub invariant-loop-bucket : goal.invariant-loop-bucket
invariant-loop-bucket l = record {
  noted : AreNoted (layout_of l.heads) l.cells.sizes l.shard (words_of l.cells) (pairs_in l.initial.pairs.entries) l.bucket l.marks l.now (pairs_in l.pairs.entries);
  size : length l.marks ≡ l.cells.sizes.lines;
  few : l.now.count ≤ l.bucket * 2 ^ 32;
}
