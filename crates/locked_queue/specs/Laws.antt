-- Laws on the queue room: which list it stands for, and when it is full.
use Rattle.std.specs.Prelude.{◌≡◌, ℕ, ◌-◌, ◌↔◌, Some, length}
use Rattle.seq_object.specs.declared.command.Command.TheVariants.{Enq}
use Rattle.seq_object.specs.declared.command.Reply.TheVariants.{Full}
use Rattle.seq_object.specs.Object.{reply_to}
use Rattle.room_model.specs.QueueRoom.{IsQueueRoom}
use Rattle.command_room.specs.Room.{words_of, sizes_in, contents_in, CommandRoomState}
use Rattle.locked_queue.specs.Queue.{IsQueue, items_in}

-- the words of the queue room stand for its items
abbrev pub ItemsLaw : Type 0
ItemsLaw = (s : CommandRoomState) → IsQueue s → IsQueueRoom (sizes_in s) (words_of s) (items_in s)

-- an item at the back is answered full exactly where the room has items in all its lines but the header's and the ends'
abbrev pub FullLaw : Type 0
FullLaw = (s : CommandRoomState) (value : ℕ) → IsQueue s → (reply_to (sizes_in s) (contents_in s) (Enq value) ≡ Some Full) ↔ (length (items_in s) ≡ s.settings.lines - 2)
