-- What the tests know of their room.
use Rattle.std.specs.Prelude.{◌≡◌, None, []}
use Rattle.seq_object.specs.declared.settings.Settings.{Settings}
use Rattle.command_room.specs.Room.{CommandRoomState}

-- the first room of a memory of these settings, with no command under way
pub record IsIdle (settings : Settings) (s : CommandRoomState) : Type 0 where
  pub settings_are : s.settings ≡ settings
  pub number : s.room ≡ 0
  pub idle : s.under_way ≡ None

-- the same room with the same command under way, in the same state, and with no store left
pub record HasFinished (old new : CommandRoomState) : Type 0 where
  pub settings : new.settings ≡ old.settings
  pub number : new.room ≡ old.room
  pub state : new.cells.state ≡ old.cells.state
  pub under : new.under_way ≡ old.under_way
  pub left : new.plan.stores ≡ []
