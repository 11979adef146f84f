use Rattle.std.proofs.Common.{◌≡◌, ◌++◌, [], map, length}
use Rattle.std.specs.Vec.Iter.{into_iter_items, into_iter_len}
use Rattle.shared_yard.specs.Rule.{Each}
use Rattle.shared_yard.specs.Seats.{known_at, IsBackAt}
use Rattle.shared_yard.proofs.close.joined.Given as goal

abbrev pub invariant-loop-seat : goal.invariant-loop-seat
invariant-loop-seat l = record {
  can_next : (goal.iterator-loop-seat).can_next l.seat-iterator;
  is_finite : (goal.iterator-loop-seat).is_finite l.seat-iterator;
  long : into_iter_len l.seat-iterator ≡ length (into_iter_items l.seat-iterator);
  table : l.all.table_id ≡ l.table.shared.table_id;
  no_slot : l.all.me.1 ≡ [];
  known : l.all.me.0 ++ map known_at (into_iter_items l.seat-iterator) ≡ map known_at l.fn.seats.items;
  left : Each (IsBackAt l.table.shared.table_id) (into_iter_items l.seat-iterator);
}
