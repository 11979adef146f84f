-- What each event of a thread that runs makes of a room in hand, and what the room is then used for.
use Rattle.std.specs.Prelude.{◌≡◌, ℕ, ◌<◌, ◌≤◌, ◌⊎◌, Option, Some, None, length}
use Rattle.seq_object.specs.declared.command.Command.{Command}
use Rattle.seq_object.specs.declared.command.Reply.{Reply}
use Rattle.seq_object.specs.declared.history.Entry.{Entry}
use Rattle.seq_object.specs.declared.history.RestartPoint.{RestartPoint}
use Rattle.seq_object.specs.Sizes.{sizes_of}
use Rattle.seq_object.specs.Object.{room_of}
use Rattle.incll_var.specs.declared.state.CellState.TheVariants.{Running}
use Rattle.incll_var.specs.Cells.{HasSameCells, IsSavedIn, with_state}
use Rattle.command_room.specs.declared.under_way.UnderWay.{UnderWay}
use Rattle.command_room.specs.Room.{CommandRoomState, entered, stepped as command_stepped, noted as command_noted}
use Rattle.locked_queue.specs.Queue.{answered}
use Rattle.restart_point.specs.declared.thread_end.ThreadEnd.{ThreadEnd}
use Rattle.restart_point.specs.Rooms.{with_cells as with_thread_cells, begun as point_begun, stepped as point_stepped}
use Rattle.rooms.specs.declared.room.Room.{Room}
use Rattle.rooms.specs.declared.room.Room.TheVariants.{Map, Queue, Thread, Super}
use Rattle.rooms.specs.Rooms.{state_of}
use Rattle.room_in_hand.specs.Known.{Knowledge}
use Rattle.room_in_hand.specs.InHand.{RoomUse, resting, working, writing_point, IsInHand}

-- how many stores are left, of a command or of a restart point
abbrev pub stores_left : Room → ℕ
stores_left (Map x) = length x.plan.stores
stores_left (Queue x) = length x.plan.stores
stores_left (Thread x) = length x.plan.stores
stores_left (Super x) = 0

-- COMMANDS.

-- a room that rests, of this command, in an epoch
pub record MayBeginIn (epoch : ℕ) (command : Command) (x : Room) : Type 0 where
  pub known : Knowledge
  pub epoch_is : known.epoch ≡ epoch
  pub here : room_of (sizes_of known.settings) command ≡ known.room
  pub commands : known.room ≤ known.settings.shards
  pub rests : IsInHand resting known x

-- the room is entered in the epoch, and has answered the command: with a reply its stores are planned by the room's loads, and none is made;
-- without one nothing else has changed
pub record HasAnswered (epoch : ℕ) (command : Command) (reply : Option Reply) (s t : CommandRoomState) : Type 0 where
  pub is : t ≡ answered (entered s epoch) t.cells.bank t.history.spare command reply
  pub same : HasSameCells s.cells.bank t.cells.bank

-- so it is of a room of commands
abbrev pub HasBegun : ℕ → Command → Option Reply → Room → Room → Type 0
HasBegun epoch command reply (Map s) (Map t) = HasAnswered epoch command reply s t
HasBegun epoch command reply (Map s) (Queue t) = ⊥
HasBegun epoch command reply (Map s) (Thread t) = ⊥
HasBegun epoch command reply (Map s) (Super t) = ⊥
HasBegun epoch command reply (Queue s) (Map t) = ⊥
HasBegun epoch command reply (Queue s) (Queue t) = HasAnswered epoch command reply s t
HasBegun epoch command reply (Queue s) (Thread t) = ⊥
HasBegun epoch command reply (Queue s) (Super t) = ⊥
HasBegun epoch command reply (Thread s) y = ⊥
HasBegun epoch command reply (Super s) y = ⊥

-- the use of a room that answered: a reply's command is under way, and without one the room rests
abbrev pub begun_command_use : Command → Option Reply → RoomUse
begun_command_use command None = resting
begun_command_use command (Some reply) = working (record { command = command; reply = reply })

-- the first store that is left is made
abbrev pub stored : Room → Room
stored (Map x) = Map (command_stepped x)
stored (Queue x) = Queue (command_stepped x)
stored (Thread x) = Thread (point_stepped x)
stored (Super x) = Super x

-- the command under way, and none in a room that has no commands
abbrev pub under_way_in : Room → Option UnderWay
under_way_in (Map x) = x.under_way
under_way_in (Queue x) = x.under_way
under_way_in (Thread x) = None
under_way_in (Super x) = None

-- the command's entry is noted, and ends it
abbrev pub entry_noted : Room → ℕ → Entry → Room
entry_noted (Map x) ticket entry = Map (command_noted x ticket entry)
entry_noted (Queue x) ticket entry = Queue (command_noted x ticket entry)
entry_noted (Thread x) ticket entry = Thread x
entry_noted (Super x) ticket entry = Super x

-- a room that makes stores: a command is under way in it, or its restart point is written
abbrev pub MayStore : Room → Type 0
MayStore x = ((k : Knowledge) × (under : UnderWay) × IsInHand (working under) k x) ⊎ ((k : Knowledge) × (point : RestartPoint) × (end : ThreadEnd) × IsInHand (writing_point point end) k x)

-- RESTART POINTS.

-- a thread's room
abbrev pub IsThread : Room → Type 0
IsThread (Map x) = ⊥
IsThread (Queue x) = ⊥
IsThread (Thread x) = Unit {0}
IsThread (Super x) = ⊥

-- a thread's room that rests, and was not entered in this epoch
pub record MayBeginPoint (epoch : ℕ) (x : Room) : Type 0 where
  pub known : Knowledge
  pub epoch_is : known.epoch ≡ epoch
  pub thread : IsThread x
  pub unwritten : IsSavedIn (λ c. c < epoch) (state_of x)
  pub rests : IsInHand resting known x

-- it is entered in the epoch, and the stores of this position are planned in it
abbrev pub point_planned : ℕ → ℕ → ThreadEnd → Room → Room
point_planned epoch position end (Map x) = Map x
point_planned epoch position end (Queue x) = Queue x
point_planned epoch position end (Thread x) = Thread (point_begun (with_thread_cells x (with_state x.cells (Running epoch))) position end)
point_planned epoch position end (Super x) = Super x
