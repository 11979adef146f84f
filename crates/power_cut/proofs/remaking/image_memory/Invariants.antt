use Rattle.std.proofs.Common.{◌≡◌, ◌++◌, ◌<◌, ◌^◌, length}
use Rattle.std.specs.Vec.Iter.{into_iter_items, into_iter_len}
use Rattle.power_cut.specs.Image.{lists_of, rooms_in}
use Rattle.power_cut.specs.Cut.{quiet_memory}
use Rattle.power_cut.proofs.Counts.{lines_in}
use Rattle.power_cut.proofs.remaking.image_memory.Given as goal

abbrev pub invariant-loop-lines : goal.invariant-loop-lines
invariant-loop-lines l = record {
  can_next : (goal.iterator-loop-lines).can_next l.lines-iterator;
  is_finite : (goal.iterator-loop-lines).is_finite l.lines-iterator;
  long : into_iter_len l.lines-iterator ≡ length (into_iter_items l.lines-iterator);
  few : lines_in (lists_of (into_iter_items l.lines-iterator)) < 2 ^ 24;
  made : l.banks.items ++ quiet_memory (lists_of (into_iter_items l.lines-iterator)) ≡ quiet_memory (rooms_in l.fn.image);
}
