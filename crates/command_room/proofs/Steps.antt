-- What a step and the end of a command make of a room.
use Rattle.std.proofs.Common.{◌≡◌, None, []}
use Rattle.command_room.specs.Noted.{NotedState}
use Rattle.command_room.specs.Room.{CommandRoomState, IsCommandRoom}

-- what the end of a command makes of a room
pub note_law : (s : CommandRoomState) (history : NotedState) → IsCommandRoom s → s.plan.stores ≡ [] → IsCommandRoom (record s { under_way = None; history = history })
note_law s history was none = record {
  sizes = was.sizes;
  number = was.number;
  cells = was.cells;
  lines = was.lines;
  stands = was.stands;
  planned = was.planned;
  has_room = was.has_room;
  going = none;
}
