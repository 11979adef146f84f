use Rattle.std.proofs.Common.{◌≡◌, ◌≤◌, drop, length}
use Rattle.std.specs.Vec.Iter.{into_iter_items, into_iter_len}
use Rattle.fresh_world.specs.Rooms.{AreFreshFrom}
use Rattle.fresh_world.proofs.room.rooms_of.Given as goal

abbrev pub invariant-loop-bank : goal.invariant-loop-bank
invariant-loop-bank l = record {
  can_next : (goal.iterator-loop-bank).can_next l.bank-iterator;
  is_finite : (goal.iterator-loop-bank).is_finite l.bank-iterator;
  long : into_iter_len l.bank-iterator ≡ length (into_iter_items l.bank-iterator);
  rest : into_iter_items l.bank-iterator ≡ drop (length l.rooms.items) l.fn.banks.items;
  within : length l.rooms.items ≤ length l.fn.banks.items;
  fresh : AreFreshFrom l.fn.settings l.fn.lengths 0 l.rooms.items;
}
