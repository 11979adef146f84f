use Rattle.room_model.specs.EpochLine.{epoch_line}
use Rattle.fresh_world.proofs.Rooms.{word_holds, super_fresh}
use Rattle.fresh_world.proofs.room.last_room.Goals as goal

pub of-requires : goal.of-requires
of-requires c = word_holds c.args.bank c.requires

pub returns : goal.returns
returns c = super_fresh c.args.bank c.in_ok-of.field-0 (epoch_line c.in_ok-of.field-0).spare c.requires c.in_ok-of.ensures.is c.in_ok-of.ensures.room
