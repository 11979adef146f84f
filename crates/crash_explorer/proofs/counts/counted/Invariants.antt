use Rattle.std.proofs.Common.{◌≡◌, ◌*◌, drop, ◌<◌}
use Rattle.crash_explorer.specs.Order.{survivor_count}
use Rattle.crash_explorer.proofs.counts.counted.Given as goal

abbrev pub invariant-loop-m : goal.invariant-loop-m
invariant-loop-m l = record {
  few : l.product < 4294967296;
  product : l.product * survivor_count (drop l.m-index l.most) ≡ survivor_count l.most;
}
