use Rattle.command_room.proofs.Moves.{enter_kept}
use Rattle.command_room.proofs.room.CommandRoomCellRoom.enter.Goals as goal

pub invariant_of-self : goal.invariant_of-self
invariant_of-self c = enter_kept _ c.enter.new.self c.args.epoch c.self.invariant c.enter.ensures.is c.enter.ensures.whole c.enter.ensures.lines c.enter.ensures.words

pub returns-clause-whole : goal.returns-clause-whole
returns-clause-whole c = enter_kept _ c.enter.new.self c.args.epoch c.self.invariant c.enter.ensures.is c.enter.ensures.whole c.enter.ensures.lines c.enter.ensures.words
