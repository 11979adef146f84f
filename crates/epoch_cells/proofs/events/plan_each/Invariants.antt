use Rattle.std.proofs.Common.{◌≡◌, take}
use Rattle.line_memory.specs.Line.{bank_load}
use Rattle.room_model.specs.Writes.{stores_behind}
use Rattle.incll_var.specs.Cells.{epoch_of}
use Rattle.incll_var.specs.Plans.{IsPlanned}
use Rattle.epoch_cells.proofs.events.plan_each.Given as goal

-- the stores of the writes so far are planned
abbrev pub invariant-loop-write : goal.invariant-loop-write
invariant-loop-write l = record {
  stores : l.plan.stores ≡ stores_behind (epoch_of l.cells.state) (bank_load l.cells.bank) l.fn.plan.stores (take l.write-index l.writes);
  planned : IsPlanned (epoch_of l.cells.state) l.cells.bank.lines l.plan.stores;
}
