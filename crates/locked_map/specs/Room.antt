-- Map rooms: which command rooms they are.
use Rattle.std.specs.Prelude.{◌<◌}
use Rattle.command_room.specs.Room.{CommandRoomState, IsCommandRoom}

-- a room whose number is a shard's
pub record IsMap (s : CommandRoomState) : Type 0 where
  pub room : IsCommandRoom s
  pub shard : s.room < s.settings.shards
