use Rattle.std.proofs.Common.{sym, subst}
use Rattle.incll_var.specs.Cells.{IsSaved}
use Rattle.command_room.specs.Room.{memory_words_of, CommandRoomState}
use Rattle.locked_queue.specs.Tests.{IsQueueOf}
use Rattle.locked_queue.proofs.TestRooms.{entered_holds}
use Rattle.locked_queue.proofs.tests.next_epoch.Goals as goal

pub returns-clause-held : goal.returns-clause-held
returns-clause-held c =
    let saved : IsSaved c.args.room.now.cells.state = subst IsSaved (sym c.requires.state) tt in
    subst (λ (k : CommandRoomState). IsQueueOf (record { threads = 1; shards = 1; lines = 16; every = 1 }) (memory_words_of k)) (sym c.enter.ensures.is)
    (entered_holds (record { threads = 1; shards = 1; lines = 16; every = 1 }) c.args.room.now c.args.epoch c.history-history.ensures.whole c.requires.idle saved
    (c.enter.ensures.begins saved))
