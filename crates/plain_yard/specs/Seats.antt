-- What is kept of a thread behind each call: its seat, as a function of the seat before. And when the arrival word lets it go, or close.
use Rattle.std.specs.Prelude.{◌≡◌, ℕ, ◌+◌, ◌-◌, ◌<◌, ◌==◌, ◌&&◌, ◌||◌, not, Bool, true, false, is_none, List, Option, Some, None, slice_set, if◌then◌else◌}
use Rattle.seq_object.specs.declared.settings.Settings.{Settings}
use Rattle.seq_object.specs.declared.history.Entry.{Entry}
use Rattle.seq_object.specs.Sizes.{sizes_of, thread_room}
use Rattle.line_memory.specs.Line.{counted}
use Rattle.room_model.specs.MapRoom.{live_layout}
use Rattle.room_model.specs.Rooms.{point_in}
use Rattle.room_model.specs.Banks.{memory_words}
use Rattle.restart_point.specs.declared.thread_end.ThreadEnd.{ThreadEnd}
use Rattle.restart_point.specs.ArrivalWord.{arrival_of, AllStand}
use Rattle.block_allow.specs.Verdicts.{leaves}
use Rattle.rooms.specs.declared.room.Room.{Room}
use Rattle.rooms.specs.declared.room.Room.TheVariants.{Map, Queue, Thread, Super}
use Rattle.rooms.specs.Rooms.{bank_of, loads}
use Rattle.yard_model.specs.declared.view.Phase.{Phase}
use Rattle.yard_model.specs.declared.view.Phase.TheVariants.{Standing, Running, Closing}
use Rattle.yard_model.specs.Entries.{placed}
use Rattle.yard_model.specs.Opens.{no_look}
use Rattle.yard_model.specs.Views.{is_thread_room}
use Rattle.plain_yard.specs.declared.seat.Holding.{Holding}
use Rattle.plain_yard.specs.declared.seat.Position.{Position}
use Rattle.plain_yard.specs.declared.seat.Learnt.{Learnt}
use Rattle.plain_yard.specs.declared.seat.Seat.{Seat}

-- OPENING. The thread stands and has done nothing. There are places for these ends.
abbrev pub opening_seat : List ThreadEnd → Seat
opening_seat ends = record {
  phase = Standing;
  quota = 0;
  ran = 0;
  wrote = false;
  found_empty = false;
  holding = None;
  given_back = None;
  checkpoints = 0;
  last_checkpoint = 0;
  ticks = 0;
  looks = 0;
  look = no_look;
  saw_on = false;
  saw_off = false;
  called_off = false;
  learnt = record { rooms = 0; fed = None; ends = ends; known = 0 };
}

-- LOOKS and POWER.
abbrev pub look_seat : ℕ → ℕ → Seat → Seat
look_seat word found s = record s { looks = counted s.looks; look = record { word = word; found = found } }

abbrev pub power_seat : Bool → Seat → Seat
power_seat off s = record s { saw_on = s.saw_on || not off; saw_off = s.saw_off || off }

abbrev pub tick_seat : Seat → Seat
tick_seat s = record s { ticks = s.ticks + 1; saw_on = false }

abbrev pub off_seat : Seat → Seat
off_seat s = record s { saw_off = true; called_off = true }

-- LEAVE.
abbrev pub run_seat : ℕ → ℕ → Seat → Seat
run_seat epoch every s = record s { phase = Running; ran = epoch; quota = every; wrote = false; found_empty = false }

-- STAND.
abbrev pub stand_seat : Seat → Seat
stand_seat s = record s { phase = Standing }

-- LOCK.

-- what is known of a thread's room as it is taken in an epoch; nothing of another
abbrev pub position_here : Room → ℕ → Option Position
position_here (Map x) epoch = None
position_here (Queue x) epoch = None
position_here (Thread x) epoch = Some record { point = point_in live_layout (loads (Thread x)); in_memory = point_in live_layout (memory_words epoch (bank_of (Thread x))); end = x.end }
position_here (Super x) epoch = None

-- the room is held, behind so many entries, so many of which the last checkpoint covers
abbrev pub lock_seat : ℕ → ℕ → ℕ → Room → Seat → Seat
lock_seat r before covered x s = record s { holding = Some record { room = r; before = before; covered = covered; position = position_here x s.ran; drawn = None } }

-- the number of the room that is held
abbrev pub room_of_seat : Option Holding → Option ℕ
room_of_seat None = None
room_of_seat (Some k) = Some k.room

-- DRAW.
abbrev pub draws : ℕ → Entry → Option Holding → Option Holding
draws place e None = None
draws place e (Some k) = Some record k { drawn = Some (placed place e) }

abbrev pub draw_seat : ℕ → Entry → Seat → Seat
draw_seat place e s = record s { quota = s.quota - 1; holding = draws place e s.holding }

-- whether nothing was drawn under the lock
abbrev pub drew_none : Option Holding → Bool
drew_none None = true
drew_none (Some k) = is_none k.drawn

-- UNLOCK. What the room that goes home tells.

-- whether this is a queue room with no item
abbrev pub empty_here : Room → Bool
empty_here (Map x) = false
empty_here (Queue x) = loads (Queue x) 1 0 == 0
empty_here (Thread x) = false
empty_here (Super x) = false

abbrev pub found_in : Phase → Settings → ℕ → Bool → Bool → Bool → Bool
found_in Standing s room none empty found = found
found_in Running s room none empty found = found || ((room == s.shards) && (none && empty))
found_in Closing s room none empty found = found

-- there is a place for what one more room tells
pub record LearnsOneMore (s : Settings) (room : ℕ) (c : Learnt) : Type 0 where
  pub rooms : c.rooms < 100
  pub known : is_thread_room (sizes_of s) room ≡ true → c.known < 16

-- one more room is done, and what it tells is learnt
abbrev pub learnt_more : Settings → ℕ → Bool → ThreadEnd → Learnt → Learnt
learnt_more s room empty end c = record {
  rooms = c.rooms + 1;
  fed = if room == s.shards then Some (not empty) else c.fed;
  ends = if is_thread_room (sizes_of s) room then slice_set c.ends c.known end else c.ends;
  known = if is_thread_room (sizes_of s) room then c.known + 1 else c.known;
}

abbrev pub learnt_in : Phase → Settings → ℕ → Bool → ThreadEnd → Learnt → Learnt
learnt_in Standing s room empty end c = c
learnt_in Running s room empty end c = c
learnt_in Closing s room empty end c = learnt_more s room empty end c

-- the seat of a thread that gave this room back
abbrev pub freed_seat : Settings → ℕ → ℕ → Bool → ThreadEnd → Seat → Seat
freed_seat s thread room empty end seat = record seat {
  holding = None;
  wrote = seat.wrote || (room == thread_room (sizes_of s) thread);
  found_empty = found_in seat.phase s room (drew_none seat.holding) empty seat.found_empty;
  learnt = learnt_in seat.phase s room empty end seat.learnt;
}

-- RETREAT.
abbrev pub given_seat : ℕ → Seat → Seat
given_seat room s = record s { holding = None; given_back = Some record { room = room; drew = not (drew_none s.holding) } }

-- CLAIM. Nothing is done and nothing learnt.
abbrev pub unlearnt : Learnt → Learnt
unlearnt c = record c { rooms = 0; fed = None; known = 0 }

abbrev pub close_seat : Seat → Seat
close_seat s = record s { phase = Closing; learnt = unlearnt s.learnt }

-- RELEASE.
abbrev pub release_seat : Seat → Seat
release_seat s = record s { phase = Standing; checkpoints = s.checkpoints + 1; last_checkpoint = s.ran + 1; learnt = unlearnt s.learnt }
