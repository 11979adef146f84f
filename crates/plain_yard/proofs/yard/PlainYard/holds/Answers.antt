use Rattle.std.proofs.Common.{◌∙◌}
use Rattle.plain_yard.proofs.Fields.{has_vec, seat_at}
use Rattle.plain_yard.proofs.Steps.{held_room}
use Rattle.plain_yard.proofs.yard.PlainYard.holds.Goals as goal

pub index-requires : goal.index-requires
index-requires c = has_vec c.self.inside c.args.self.now c.self.view_is c.args.thread c.requires.thread

pub returns : goal.returns
returns c = c.room.ensures ∙ held_room c.self.inside c.args.self.now c.self.view_is c.args.thread c.requires.thread c.index.result.now (seat_at c.self.inside c.args.self.now c.self.view_is c.args.thread c.requires.thread c.index.result.now c.index.ensures)
