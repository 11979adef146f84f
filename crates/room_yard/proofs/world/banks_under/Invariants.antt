use Rattle.std.proofs.Common.{◌≡◌, ◌≤◌, ◌+◌, ◌++◌, map, length}
use Rattle.std.specs.Prelude.{vec_capacity}
use Rattle.std.specs.Vec.Iter.{into_iter_items, into_iter_len}
use Rattle.rooms.specs.Rooms.{bank_of}
use Rattle.room_yard.proofs.world.banks_under.Given as goal

abbrev pub invariant-loop-room : goal.invariant-loop-room
invariant-loop-room l = record {
  can_next : (goal.iterator-loop-room).can_next l.room-iterator;
  is_finite : (goal.iterator-loop-room).is_finite l.room-iterator;
  long : into_iter_len l.room-iterator ≡ length (into_iter_items l.room-iterator);
  made : l.banks.items ++ map bank_of (into_iter_items l.room-iterator) ≡ map bank_of l.fn.rooms.items;
  fits : length l.banks.items + length (into_iter_items l.room-iterator) ≤ vec_capacity l.banks;
}
