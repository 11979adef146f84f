-- The queue room: what it holds, and what the begin of a command makes of it.
use Rattle.std.specs.Prelude.{◌≡◌, ℕ, Option, Some, None, List}
use Rattle.seq_object.specs.declared.command.Command.{Command}
use Rattle.seq_object.specs.declared.command.Reply.{Reply}
use Rattle.line_memory.specs.Line.{BankState}
use Rattle.command_room.specs.Room.{CommandRoomState, IsCommandRoom, contents_in, begun, commanded}

-- the room that carries out the commands of the queue: the one behind the rooms of the shards
pub record IsQueue (s : CommandRoomState) : Type 0 where
  pub room : IsCommandRoom s
  pub number : s.room ≡ s.settings.shards

-- the items that the room holds, from front to back
abbrev pub items_in : CommandRoomState → List ℕ
items_in s = (contents_in s).items

-- a room that answered a command: with a reply the command is under way, on this bank and with room for so many entries; without one the
-- room is as it was
abbrev pub answered : CommandRoomState → BankState → ℕ → Command → Option Reply → CommandRoomState
answered s bank spare command None = s
answered s bank spare command (Some reply) = begun (commanded s command) bank spare command reply
