-- What the tests know of their room.
use Rattle.std.specs.Prelude.{◌≡◌, None, []}
use Rattle.seq_object.specs.declared.settings.Settings.{Settings}
use Rattle.seq_object.specs.Sizes.{sizes_of}
use Rattle.room_model.specs.Chains.{RoomWords}
use Rattle.room_model.specs.MapRoom.{live_layout}
use Rattle.command_room.specs.Room.{memory_words_of, CommandRoomState}
use Rattle.room_model.specs.Walks.{IsRoom}

-- the room behind the one map room of a memory of these settings, with no command under way
pub record IsIdle (settings : Settings) (s : CommandRoomState) : Type 0 where
  pub settings_are : s.settings ≡ settings
  pub number : s.room ≡ 1
  pub idle : s.under_way ≡ None

-- the same room with the same command under way, in the same state and with the same memory, and with no store left
pub record HasFinished (old new : CommandRoomState) : Type 0 where
  pub settings : new.settings ≡ old.settings
  pub number : new.room ≡ old.room
  pub state : new.cells.state ≡ old.cells.state
  pub under : new.under_way ≡ old.under_way
  pub held : memory_words_of new ≡ memory_words_of old
  pub left : new.plan.stores ≡ []

-- these words are those of a queue room behind the one map room of a memory of these settings
pub record IsQueueOf (settings : Settings) (words : RoomWords) : Type 0 where
  pub stands : IsRoom live_layout (sizes_of settings) 1 words
