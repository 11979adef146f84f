use Rattle.std.proofs.Common.{arith, sym, subst}
use Rattle.incll_var.specs.Cells.{IsSaved}
use Rattle.command_room.proofs.FormattedRooms.{formatted_may}
use Rattle.locked_queue.proofs.tests.queue_room.Goals as goal

pub of-room-requires : goal.of-room-requires
of-room-requires g c =
    formatted_may (record { threads = 1; shards = 1; lines = 16; every = 1 }) 1 c.formatted_cells-cells.result
    (record { some_threads = omega arith; few_threads = omega arith; some_shards = omega arith; few_shards = omega arith; some_lines = omega arith; few_lines = omega arith })
    (omega arith) c.formatted_cells-cells.ensures.cells c.formatted_cells-cells.ensures.lines (subst IsSaved (sym c.formatted_cells-cells.ensures.state) tt) c.formatted_cells-cells.ensures.loads
