use Rattle.std.proofs.Common.{◌≡◌}
use Rattle.recovery.specs.Ends.{AreTold, are_at_end}
use Rattle.recovery.proofs.end.tell_ends.Given as goal

-- the ends up to here are told
abbrev pub invariant-loop-thread : goal.invariant-loop-thread
invariant-loop-thread l = record {
  told : AreTold l.shards l.lengths l.thread l.fn.rooms.items l.rooms.items;
  over : l.over ≡ are_at_end l.shards l.lengths l.fn.rooms.items l.thread;
}
