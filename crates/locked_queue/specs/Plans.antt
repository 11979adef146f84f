-- The cells that a command of the queue is planned over.
use Rattle.std.specs.Prelude.{◌≡◌, length}
use Rattle.seq_object.specs.declared.sizes.Sizes.{Sizes}
use Rattle.seq_object.specs.Sizes.{AreValid}
use Rattle.line_memory.specs.Line.{bank_load}
use Rattle.room_laws.specs.Stocks.{QueueBounds}
use Rattle.incll_var.specs.Cells.{CellBankState, IsRunning}

-- running cells of so many lines, whose words, by their loads, name lines of the room
pub record MayPlan (z : Sizes) (cells : CellBankState) : Type 0 where
  pub sizes : AreValid z
  pub running : IsRunning cells.state
  pub lines : length cells.bank.lines ≡ z.lines
  pub bounds : QueueBounds z (bank_load cells.bank)
