use Rattle.std.proofs.Common.{◌≡◌}
use Rattle.epoch_cells.specs.Cells.{records, settled_records, events_left}
use Rattle.epoch_cells.proofs.epoch_cells.EpochCells.finish.Given as goal

abbrev pub invariant-loop : goal.invariant-loop
invariant-loop l = record {
  same : records l.self ≡ records l.fn.self;
  later : settled_records l.self ≡ settled_records l.fn.self;
}

abbrev pub decreases-loop : goal.decreases-loop
decreases-loop l = events_left l.self
