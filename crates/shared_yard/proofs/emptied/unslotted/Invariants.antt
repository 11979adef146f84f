use Rattle.std.proofs.Common.{◌≡◌, ◌≤◌, ◌+◌, ◌++◌, length}
use Rattle.std.specs.Prelude.{vec_capacity, option_to_list}
use Rattle.std.specs.List.{flat_map}
use Rattle.std.specs.Vec.Iter.{into_iter_items, into_iter_len}
use Rattle.shared_yard.proofs.emptied.unslotted.Given as goal

abbrev pub invariant-loop-slot : goal.invariant-loop-slot
invariant-loop-slot l = record {
  can_next : (goal.iterator-loop-slot).can_next l.slot-iterator;
  is_finite : (goal.iterator-loop-slot).is_finite l.slot-iterator;
  long : into_iter_len l.slot-iterator ≡ length (into_iter_items l.slot-iterator);
  made : l.gathered.items ++ flat_map option_to_list (into_iter_items l.slot-iterator) ≡ flat_map option_to_list l.fn.slots.items;
  fits : length l.gathered.items + length (into_iter_items l.slot-iterator) ≤ vec_capacity l.gathered;
  capacity : vec_capacity l.gathered ≡ vec_capacity l.fn.rooms;
}
