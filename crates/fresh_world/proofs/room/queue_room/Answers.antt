use Rattle.std.proofs.Common.{arith}
use Rattle.seq_object.specs.Sizes.{sizes_of}
use Rattle.fresh_world.proofs.Rooms.{bank_settled, may_be, queue_fresh}
use Rattle.fresh_world.proofs.room.queue_room.Goals as goal

pub clean-requires : goal.clean-requires
clean-requires c = bank_settled (sizes_of c.args.settings) c.args.settings.shards c.args.bank c.requires.valid c.requires.bank

pub of-requires : goal.of-requires
of-requires c = may_be c.args.settings c.args.settings.shards c.requires.valid (omega arith) c.args.bank c.in_ok-cells.cells c.requires.bank c.in_ok-cells.ensures.is c.in_ok-cells.ensures.cells

pub returns : goal.returns
returns c = λ lengths.
    queue_fresh c.args.settings c.args.bank c.in_ok-cells.cells c.of.result lengths c.requires.valid c.requires.bank c.in_ok-cells.ensures.is c.of.ensures.is c.of.ensures.room
