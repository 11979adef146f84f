-- All rows of the table of writes at once, for a command in its room: what the room answers, and what it stands for afterwards.
use Rattle.std.specs.Prelude.{◌≡◌, ◌≢◌, ℕ, ◌<◌}
use Rattle.seq_object.specs.declared.command.Command.{Command}
use Rattle.seq_object.specs.Object.{Contents, reply_to, contents_after, room_of}
use Rattle.room_model.specs.Chains.{RoomWords}
use Rattle.room_model.specs.MapRoom.{Layout, IsLayout, HasCapacity}
use Rattle.room_model.specs.Rooms.{StandsFor}
use Rattle.room_model.specs.Writes.{written, writes_of, answer_of}
use Rattle.room_model.specs.Walks.{contents_of, IsRoom}
use Rattle.seq_object.specs.declared.sizes.Sizes.{Sizes}

-- behind the writes of a command its room stands for what the object holds after the command
abbrev pub CommandAfterLaw : Type 0
CommandAfterLaw = (layout : Layout) (z : Sizes) (room : ℕ) (r : RoomWords) (c : Contents) (command : Command)
    → IsLayout layout → HasCapacity layout z → 0 < z.shards → StandsFor layout z room r c → room_of z command ≡ room
    → StandsFor layout z room (written r (writes_of layout z r command)) (contents_after z c command)

-- the answer of a command's room is the object's reply
abbrev pub CommandReplyLaw : Type 0
CommandReplyLaw = (layout : Layout) (z : Sizes) (room : ℕ) (r : RoomWords) (c : Contents) (command : Command)
    → IsLayout layout → HasCapacity layout z → 0 < z.shards → StandsFor layout z room r c → room_of z command ≡ room
    → answer_of layout z r command ≡ reply_to z c command

-- a room that is not the command's stands, as it is, for what the object holds after the command
abbrev pub OtherCommandLaw : Type 0
OtherCommandLaw = (layout : Layout) (z : Sizes) (room : ℕ) (r : RoomWords) (c : Contents) (command : Command)
    → StandsFor layout z room r c → room_of z command ≢ room → StandsFor layout z room r (contents_after z c command)

-- the room holds what the object that held no more than the room before holds after the command
pub record IsAfter (layout : Layout) (z : Sizes) (room : ℕ) (r : RoomWords) (command : Command) (next : RoomWords) : Type 0 where
  pub stands : IsRoom layout z room next
  pub holds : contents_of layout z room next ≡ contents_after z (contents_of layout z room r) command

-- behind the writes of a command its room holds what an object that held no more than the room did holds after the command
abbrev pub RoomStepLaw : Type 0
RoomStepLaw = (layout : Layout) (z : Sizes) (room : ℕ) (r : RoomWords) (command : Command)
    → IsLayout layout → HasCapacity layout z → 0 < z.shards → IsRoom layout z room r → room_of z command ≡ room
    → IsAfter layout z room r command (written r (writes_of layout z r command))
