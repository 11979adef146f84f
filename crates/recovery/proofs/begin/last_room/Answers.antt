use Rattle.recovery.proofs.Begins.{word_made}
use Rattle.recovery.proofs.begin.last_room.Goals as goal

pub returns : goal.returns
returns c = word_made c.args.bank c.in_ok-of.field-0 c.requires c.in_ok-of.ensures.is c.in_ok-of.ensures.room
