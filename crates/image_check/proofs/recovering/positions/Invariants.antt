use Rattle.std.proofs.Common.{◌≡◌, ℕ, ◌<◌, length}
use Rattle.std.specs.Prelude.{slice_index}
use Rattle.room_model.specs.Image.{recovered_room}
use Rattle.image_check.specs.Cells.{rooms_of}
use Rattle.seq_object.specs.Sizes.{thread_room}
use Rattle.image_check.proofs.recovering.positions.Given as goal

abbrev pub invariant-loop-thread : goal.invariant-loop-thread
invariant-loop-thread l = record {
  many : length l.positions.items ≡ l.thread;
  words : (thread : ℕ) → thread < l.thread → slice_index l.positions.items thread ≡ recovered_room l.view.sizes (rooms_of l.view) (thread_room l.view.sizes thread) 0 0;
}
