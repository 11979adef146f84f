-- The view after each kind of step, as a function of the view before it. Each is one change of fields, so that a fact on the other fields
-- stays as it is.
use Rattle.std.specs.Prelude.{ℕ, ◌+◌, ◌-◌, ◌==◌, ◌&&◌, ◌||◌, nat_lt, nat_le, not, Bool, true, false, is_none, [], ◌∷◌, ◌++◌, Some, None, if◌then◌else◌}
use Rattle.seq_object.specs.declared.history.Entry.{Entry}
use Rattle.seq_object.specs.declared.history.Noted.{Noted}
use Rattle.seq_object.specs.Sizes.{thread_room, super_room}
use Rattle.line_memory.specs.Line.{counted}
use Rattle.room_model.specs.MapRoom.{live_layout}
use Rattle.room_model.specs.Rooms.{point_in}
use Rattle.rooms.specs.declared.room.Room.{Room}
use Rattle.yard_model.specs.declared.view.Phase.{Phase}
use Rattle.yard_model.specs.declared.view.Phase.TheVariants.{Standing, Running, Closing}
use Rattle.yard_model.specs.declared.view.View.{View}
use Rattle.yard_model.specs.declared.view.Grip.{Grip}
use Rattle.yard_model.specs.declared.view.TakenPosition.{TakenPosition}
use Rattle.yard_model.specs.declared.view.Closed.{Closed}
use Rattle.yard_model.specs.Entries.{placed}
use Rattle.rooms.specs.Rooms.{history_of, end_of, loads, is_empty_queue, bank_of}
use Rattle.yard_model.specs.Knows.{sizes_known}
use Rattle.room_model.specs.Banks.{memory_words}
use Rattle.seq_object.specs.declared.sizes.Sizes.{Sizes}

-- LOCK. The room is in hand, as it was taken.

-- whether a room is a thread's
abbrev pub is_thread_room : Sizes → ℕ → Bool
is_thread_room z r = nat_lt z.shards r && nat_lt r (super_room z)

-- a thread's room as it is taken in an epoch
abbrev pub taken_position : ℕ → Room → TakenPosition
taken_position epoch x = record { point = point_in live_layout (loads x); in_memory = point_in live_layout (memory_words epoch (bank_of x)); end = end_of x }

-- a room as it is taken, of whose history the last mark covers so many entries
abbrev pub grip_on : View → ℕ → Room → ℕ → Grip
grip_on v r x covered = record {
  room = r;
  history = history_of x;
  covered = covered;
  position = if is_thread_room (sizes_known v) r then Some (taken_position v.ran x) else None;
  drawn = None;
}

abbrev pub gripped : View → ℕ → Room → ℕ → View
gripped v r x covered = record v { grip = Some (grip_on v r x covered) }

-- UNLOCK. Nothing is held. The thread's own room is written now. Where the thread runs the queue may have been found empty; where it
-- closes one more room is done.

-- whether its own room was written, or goes home
abbrev pub wrote_after : View → Grip → Bool
wrote_after v g = v.wrote || (g.room == thread_room (sizes_known v) v.thread)

-- whether the queue room goes home empty, with no entry drawn
abbrev pub finds_empty : View → Grip → Room → Bool
finds_empty v g x = (g.room == (sizes_known v).shards) && (is_none g.drawn && is_empty_queue x)

abbrev pub found_after : Phase → View → Grip → Room → Bool
found_after Standing v g x = v.found_empty
found_after Running v g x = v.found_empty || finds_empty v g x
found_after Closing v g x = v.found_empty

-- one more room is done, and what it tells is learnt
abbrev pub learnt_from : View → Grip → Room → Closed
learnt_from v g x = record {
  rooms = v.closed.rooms + 1;
  fed = if g.room == (sizes_known v).shards then Some (not (is_empty_queue x)) else v.closed.fed;
  ends = if is_thread_room (sizes_known v) g.room then v.closed.ends ++ end_of x ∷ [] else v.closed.ends;
  entries = v.closed.entries;
}

abbrev pub closed_after : Phase → View → Grip → Room → Closed
closed_after Standing v g x = v.closed
closed_after Running v g x = v.closed
closed_after Closing v g x = learnt_from v g x

abbrev pub freed : View → Grip → Room → View
freed v g x = record v { grip = None; wrote = wrote_after v g; found_empty = found_after v.phase v g x; closed = closed_after v.phase v g x }

-- RETREAT. Nothing is held, and the room was given back in mid-work.
abbrev pub retreated : View → Grip → View
retreated v g = record v { grip = None; given_back = Some (record { room = g.room; drew = not (is_none g.drawn) }) }

-- LEAVE. The thread runs in an epoch, with a whole quota.
abbrev pub left_in : View → ℕ → View
left_in v epoch = record v { phase = Running; ran = epoch; quota = v.beginning.settings.every; wrote = false; found_empty = false }

-- STAND.
abbrev pub stood : View → View
stood v = record v { phase = Standing }

-- DRAW. The entry has this place.
abbrev pub with_drawn : Grip → Noted → Grip
with_drawn g n = record g { drawn = Some n }

abbrev pub drew : View → Grip → ℕ → Entry → View
drew v g place e = record v { grip = Some (with_drawn g (placed place e)); own = v.own ++ placed place e ∷ []; quota = v.quota - 1 }

-- CLAIM. The thread closes, with nothing done and nothing learnt.
abbrev pub nothing_closed : Closed
nothing_closed = record { rooms = 0; fed = None; ends = []; entries = None }

abbrev pub claimed : View → View
claimed v = record v { phase = Closing; closed = nothing_closed }

-- NOTE. So many entries are drawn.
abbrev pub with_entries : Closed → ℕ → Closed
with_entries c n = record c { entries = Some n }

abbrev pub entries_noted : View → ℕ → View
entries_noted v n = record v { closed = with_entries v.closed n }

-- RELEASE. The thread stands, with one checkpoint more, which began the next epoch.
abbrev pub released : View → View
released v = record v { phase = Standing; checkpoints = v.checkpoints + 1; last_checkpoint = v.ran + 1; closed = nothing_closed }

abbrev pub looked : View → ℕ → ℕ → View
looked v word found = record v { looks = counted v.looks; look = record { word = word; found = found } }

-- POWER. The tick word was found at this value: the power is off where that is at least the limit.
abbrev pub saw_power : View → ℕ → View
saw_power v found = record v { saw_on = v.saw_on || not (nat_le v.beginning.limit found); saw_off = v.saw_off || nat_le v.beginning.limit found }

-- TICK.
abbrev pub ticked : View → View
ticked v = record v { ticks = v.ticks + 1; saw_on = false }

-- OFF.
abbrev pub turned_off : View → View
turned_off v = record v { saw_off = true; called_off = true }
