use Rattle.std.proofs.Common.{◌≡◌, ◌≤◌, ◌+◌, ◌++◌, map, length, Some}
use Rattle.std.specs.Prelude.{vec_capacity}
use Rattle.std.specs.Vec.Iter.{into_iter_items, into_iter_len}
use Rattle.shared_yard.proofs.emptied.slotted.Given as goal

abbrev pub invariant-loop-room : goal.invariant-loop-room
invariant-loop-room l = record {
  can_next : (goal.iterator-loop-room).can_next l.room-iterator;
  is_finite : (goal.iterator-loop-room).is_finite l.room-iterator;
  long : into_iter_len l.room-iterator ≡ length (into_iter_items l.room-iterator);
  made : l.filled.items ++ map Some (into_iter_items l.room-iterator) ≡ map Some l.fn.rooms.items;
  fits : length l.filled.items + length (into_iter_items l.room-iterator) ≤ vec_capacity l.filled;
}
