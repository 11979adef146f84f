use Rattle.std.proofs.Common.{◌≡◌, subst}
use Rattle.rooms.specs.declared.room.Room.{Room}
use Rattle.room_in_hand.specs.InHand.{working, IsInHand}
use Rattle.room_in_hand.specs.Working.{stores_left as left_in}
use Rattle.room_in_hand.proofs.Notes.{map_noted, queue_noted}
use Rattle.room_in_hand.proofs.commands.note_entry.Goals as goal

pub returns-in-Map-clause-kept : goal.returns-in-Map-clause-kept
returns-in-Map-clause-kept c = λ k was. let e = c.note.ensures in
    map_noted c.in-Map.map c.note.new.self c.args.ticket c.args.entry (subst (λ (x : Room). left_in x ≡ 0) c.in-Map.is c.requires.left) e.is e.whole k
    (subst (λ (x : Room). IsInHand (working (record { command = c.args.entry.command; reply = c.args.entry.reply })) k x) c.in-Map.is was)

pub returns-in-Queue-clause-kept : goal.returns-in-Queue-clause-kept
returns-in-Queue-clause-kept c = λ k was. let e = c.note-in-Queue.ensures in
    queue_noted c.in-Queue.queue c.note-in-Queue.new.self c.args.ticket c.args.entry (subst (λ (x : Room). left_in x ≡ 0) c.in-Queue.is c.requires.left) e.is e.whole k
    (subst (λ (x : Room). IsInHand (working (record { command = c.args.entry.command; reply = c.args.entry.reply })) k x) c.in-Queue.is was)
