use Rattle.std.proofs.Common.{arith, ◌∙◌, sym, subst}
use Rattle.incll_var.specs.Cells.{IsSaved}
use Rattle.seq_object.specs.Sizes.{sizes_of}
use Rattle.command_room.proofs.FormattedRooms.{formatted_may}
use Rattle.rooms.proofs.Others.{command_lines}
use Rattle.rooms.proofs.tests.command_cells.Goals as goal

pub returns-clause-may_be : goal.returns-clause-may_be
returns-clause-may_be g c =
    formatted_may (record { threads = 1; shards = 1; lines = 16; every = 1 }) c.args.room c.cells_of.result
    (record { some_threads = omega arith; few_threads = omega arith; some_shards = omega arith; few_shards = omega arith; some_lines = omega arith; few_lines = omega arith })
    c.requires c.cells_of.ensures.cells (c.cells_of.ensures.lines ∙ command_lines (sizes_of (record { threads = 1; shards = 1; lines = 16; every = 1 })) c.args.room c.requires)
    (subst IsSaved (sym c.cells_of.ensures.state) tt) (c.cells_of.ensures.loads c.requires)
