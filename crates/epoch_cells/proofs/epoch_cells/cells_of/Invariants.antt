use Rattle.std.proofs.Common.{◌≡◌, ℕ, ◌<◌, map, take, length}
use Rattle.epoch_cells.specs.Cells.{record_at}
use Rattle.epoch_cells.specs.Events.{new_cell}
use Rattle.epoch_cells.proofs.epoch_cells.cells_of.Given as goal

-- the words of the cells so far
abbrev pub invariant-loop-words : goal.invariant-loop-words
invariant-loop-words l = record {
  is : l.base.items ≡ map new_cell (take l.words-index l.first);
  three : (k : ℕ) → k < l.words-index → length (record_at l.first k) ≡ 3;
}
