use Rattle.std.proofs.Common.{◌≡◌, ◌≤◌, ◌+◌, length}
use Rattle.std.specs.Prelude.{vec_capacity, slice_index}
use Rattle.std.specs.Slots.{slots_items}
use Rattle.shared_yard.specs.Endings.{AreDeadBelow}
use Rattle.shared_yard.proofs.emptied.dead_among.Given as goal

abbrev pub invariant-loop-room : goal.invariant-loop-room
invariant-loop-room l = record {
  named : AreDeadBelow l.room (λ r. slice_index (slots_items l.closed.words) (3 + r)) l.dead.items;
  fits : length l.dead.items ≤ l.room;
  capacity : vec_capacity l.dead ≡ vec_capacity l.fn.held;
}
