use Rattle.std.proofs.Common.{◌≡◌, ◌+◌, ◌-◌, ◌≤◌, []}
use Rattle.std.specs.Prelude.{vec_capacity}
use Rattle.shared_yard.specs.Rule.{opening_from}
use Rattle.shared_yard.specs.Seats.{AreDealt}
use Rattle.shared_yard.proofs.start.deal.Given as goal

abbrev pub invariant-loop-thread : goal.invariant-loop-thread
invariant-loop-thread l = record {
  within : l.thread + 1 ≤ l.beginning.settings.threads;
  dealt : AreDealt l.table.shared.table_id l.beginning l.thread l.dealt.items;
  table : l.rest.table_id ≡ l.table.shared.table_id;
  left : l.rest.me.0 ≡ opening_from l.beginning l.thread (l.beginning.settings.threads - l.thread);
  no_slot : l.rest.me.1 ≡ [];
  capacity : l.beginning.settings.threads ≤ vec_capacity l.dealt;
}
