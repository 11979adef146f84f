use Rattle.std.proofs.Common.{◌≡◌, ◌≤◌, length, take}
use Rattle.std.specs.Prelude.{vec_capacity}
use Rattle.plain_yard.specs.Apart.{dead_from}
use Rattle.plain_yard.proofs.emptied.dead_among.Given as goal

abbrev pub invariant-loop-room : goal.invariant-loop-room
invariant-loop-room l = record {
  named : l.dead.items ≡ dead_from 0 (take l.room l.locks);
  fits : length l.dead.items ≤ l.room;
  capacity : vec_capacity l.dead ≡ vec_capacity l.fn.held;
}
