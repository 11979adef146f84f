use Rattle.std.proofs.Common.{◌≡◌, ◌≤◌, ◌+◌, ◌++◌, length}
use Rattle.std.specs.Prelude.{vec_capacity, option_to_list}
use Rattle.std.specs.List.{flat_map}
use Rattle.std.specs.Vec.Iter.{into_iter_items, into_iter_len}
use Rattle.plain_yard.proofs.emptied.gathered.Given as goal

abbrev pub invariant-loop-place : goal.invariant-loop-place
invariant-loop-place l = record {
  can_next : (goal.iterator-loop-place).can_next l.place-iterator;
  is_finite : (goal.iterator-loop-place).is_finite l.place-iterator;
  long : into_iter_len l.place-iterator ≡ length (into_iter_items l.place-iterator);
  made : l.gathered.items ++ flat_map option_to_list (into_iter_items l.place-iterator) ≡ flat_map option_to_list l.fn.places.items;
  fits : length l.gathered.items + length (into_iter_items l.place-iterator) ≤ vec_capacity l.gathered;
}
