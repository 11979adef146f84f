use Rattle.std.proofs.Common.{arith}
use Rattle.seq_object.specs.Sizes.{sizes_of}
use Rattle.fresh_world.proofs.Rooms.{bank_settled, may_be, map_fresh}
use Rattle.fresh_world.proofs.room.map_room.Goals as goal

pub clean-requires : goal.clean-requires
clean-requires c = bank_settled (sizes_of c.args.settings) c.args.room c.args.bank c.requires.valid c.requires.bank

pub of-requires-clause-cells : goal.of-requires-clause-cells
of-requires-clause-cells c = may_be c.args.settings c.args.room c.requires.valid (omega (arith, c.requires.shard)) c.args.bank c.in_ok-cells.cells c.requires.bank c.in_ok-cells.ensures.is c.in_ok-cells.ensures.cells

pub returns : goal.returns
returns c = λ lengths.
    map_fresh c.args.settings c.args.room c.args.bank c.in_ok-cells.cells c.of.result lengths c.requires.valid c.requires.shard c.requires.bank c.in_ok-cells.ensures.is c.of.ensures.is c.of.ensures.room
