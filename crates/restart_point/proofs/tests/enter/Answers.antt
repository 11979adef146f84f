use Rattle.std.proofs.Common.{◌≡◌, sym, subst}
use Rattle.restart_point.specs.Rooms.{IsUnwritten}
use Rattle.restart_point.proofs.Unwritten.{unwritten}
use Rattle.restart_point.proofs.tests.enter.Goals as goal

pub returns-clause-unwritten : goal.returns-clause-unwritten
returns-clause-unwritten c = subst IsUnwritten (sym c.enter.ensures.is) (unwritten c.args.room.now c.args.epoch c.position-position.ensures.room c.requires.saved c.requires.may)
