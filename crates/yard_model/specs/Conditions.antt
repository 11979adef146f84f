-- When each kind of step may be made: by the view alone, by the room that is handed in, and by the word that the step finds.
use Rattle.std.specs.Prelude.{◌≡◌, ◌≢◌, ℕ, ◌^◌, ◌<◌, ◌≤◌, not, Bool, true, false, is_none, ◌++◌, List, length, take, Some, None}
use Rattle.std.specs.List.{filter, list_any}
use Rattle.seq_object.specs.declared.history.Entry.{Entry}
use Rattle.seq_object.specs.declared.history.Noted.{Noted}
use Rattle.seq_object.specs.Object.{Contents, room_of, reply_to, part_of}
use Rattle.seq_object.specs.History.{contents_at, IsLegal}
use Rattle.room_model.specs.MapRoom.{live_layout}
use Rattle.room_model.specs.Rooms.{point_in}
use Rattle.incll_var.specs.Cells.{IsSavedIn, IsRunning}
use Rattle.restart_point.specs.declared.thread_end.ThreadEnd.{ThreadEnd}
use Rattle.restart_point.specs.declared.thread_end.ThreadEnd.TheVariants.{Ended}
use Rattle.restart_point.specs.ArrivalWord.{arrival_of, AllStand}
use Rattle.block_allow.specs.Verdicts.{leaves}
use Rattle.rooms.specs.declared.room.Room.{Room}
use Rattle.yard_model.specs.declared.view.Phase.TheVariants.{Standing, Running, Closing}
use Rattle.yard_model.specs.declared.view.View.{View}
use Rattle.yard_model.specs.declared.view.Grip.{Grip}
use Rattle.yard_model.specs.declared.view.TakenPosition.{TakenPosition}
use Rattle.yard_model.specs.Entries.{entries_of, is_of_thread, is_for_room}
use Rattle.rooms.specs.Rooms.{bank_of, state_of, history_of, end_of, IsRoomOf, loads, lines_unasked}
use Rattle.yard_model.specs.Beginnings.{opening_of, write_backs_at}
use Rattle.yard_model.specs.Knows.{is_closing, sizes_known, point_of, place_of, next_of, closings_known, HasCause, IsAtPlace, MayHold}
use Rattle.life_model.specs.Present.{LoadsFirstStores}
use Rattle.yard_model.specs.Dead.{begun_by}
use Rattle.room_model.specs.Banks.{memory_words}
use Rattle.yard_model.specs.Locks.{drawn_of}
use Rattle.yard_model.specs.Homes.{IsFreeRoom, IsDeadRoom}
use Rattle.seq_object.specs.Sizes.{thread_room, room_count}

-- a room's part of what the object holds behind these entries of the room, from the beginning on
abbrev pub behind : View → ℕ → List Noted → Contents
behind v r ns = contents_at (sizes_known v) (part_of (sizes_known v) r (opening_of v.beginning).state.contents) (entries_of ns)

-- a room is free for a view that ran in this epoch: it stands for all these entries of the room, and memory has of it what the covered ones
-- leave
abbrev pub IsFreeFor : View → Bool → ℕ → List Noted → List Noted → Room → Type 0
IsFreeFor v done r all covered x =
    IsFreeRoom (sizes_known v) v.ran (write_backs_at v.beginning r) (closings_known v) done (behind v r all) (behind v r covered) r x

-- or given back in mid-work by it
abbrev pub IsDeadFor : View → ℕ → List Noted → Room → Type 0
IsDeadFor v r covered x =
    IsDeadRoom (sizes_known v) v.ran (write_backs_at v.beginning r) (closings_known v) false (is_closing v.phase) (behind v r covered) r x

-- LOCK. Nothing is held, and the room is one that the thread may hold.
pub record MayLock (v : View) (r : ℕ) : Type 0 where
  pub on : v.saw_off ≡ false
  pub nothing_held : v.grip ≡ None
  pub may_hold : MayHold (sizes_known v) v.thread v.phase v.closed.rooms r
  pub within : r < room_count (sizes_known v)

-- What lock tells of the room, by the view alone; the last mark covers so many entries of its history.
pub record IsGiven (v : View) (r : ℕ) (x : Room) (covered : ℕ) : Type 0 where
  pub room : IsRoomOf v.beginning.settings r x
  -- of the thread's own entries it has all those for the room, each once and in order
  pub own : filter (λ (n : Noted). is_of_thread v.thread n.entry) (history_of x) ≡ filter (λ (n : Noted). is_for_room (sizes_known v) r n.entry) v.own
  -- its history is legal
  pub legal : IsLegal (sizes_known v) (part_of (sizes_known v) r (opening_of v.beginning).state.contents) (entries_of (history_of x))
  pub few_covered : covered ≤ length (history_of x)
  -- it is free and not done: it stands by its loads for what its history leaves, and memory has of it what the last mark covers
  pub free : IsFreeFor v false r (history_of x) (take covered (history_of x)) x
  -- where the thread runs its own room is at its place, once it was written in this epoch, and else is not yet entered in it
  pub wrote : r ≡ thread_room (sizes_known v) v.thread → v.phase ≡ Running → v.wrote ≡ true → IsAtPlace (point_of v) (next_of v) x
  pub unwritten : r ≡ thread_room (sizes_known v) v.thread → v.phase ≡ Running → v.wrote ≡ false → IsSavedIn (λ c. c < v.ran) (state_of x)
  -- once it was written it runs, and its one line is still to be written back
  pub stored : r ≡ thread_room (sizes_known v) v.thread → v.wrote ≡ true → IsRunning (state_of x) × (lines_unasked x ≡ 1)

-- What a holder owes of its room, however it gives it back: its kind, the history with the drawn entry, and of a thread's room its restart
-- point.
pub record IsKeptRoom (v : View) (g : Grip) (x : Room) : Type 0 where
  pub room : IsRoomOf v.beginning.settings g.room x
  pub history : history_of x ≡ g.history ++ drawn_of g
  -- memory has the restart point that it had
  pub point_in_memory : (t : TakenPosition) → g.position ≡ Some t → point_in live_layout (memory_words v.ran (bank_of x)) ≡ t.in_memory
  -- to close a thread's room changes neither its restart point by loads nor its end
  pub point_loads : v.phase ≡ Closing → (t : TakenPosition) → g.position ≡ Some t → (point_in live_layout (loads x) ≡ t.point) × (end_of x ≡ t.end)

-- UNLOCK. The room is free, and done where the thread closes. Where the thread runs, its own room is at its place, and its one line is
-- still to be written back.
pub record MayUnlock (v : View) (g : Grip) (x : Room) : Type 0 where
  pub on : v.saw_off ≡ false
  pub held : v.grip ≡ Some g
  pub kept : IsKeptRoom v g x
  pub free : IsFreeFor v (is_closing v.phase) g.room (history_of x) (take g.covered g.history) x
  pub own_room : v.phase ≡ Running → g.room ≡ thread_room (sizes_known v) v.thread → IsAtPlace (point_of v) (next_of v) x
  pub stored : v.phase ≡ Running → g.room ≡ thread_room (sizes_known v) v.thread → IsRunning (state_of x) × (lines_unasked x ≡ 1)

-- RETREAT. The power was seen off. Some first stores of the thread's next command may be made in the room.
pub record MayRetreat (v : View) (g : Grip) (x : Room) : Type 0 where
  pub off : v.saw_off ≡ true
  pub held : v.grip ≡ Some g
  pub kept : IsKeptRoom v g x
  pub dead_room : IsDeadFor v g.room (take g.covered g.history) x
  pub stands : g.room ≤ (sizes_known v).shards
      → LoadsFirstStores (sizes_known v) v.ran g.room (begun_by (not (is_none g.drawn)) (is_closing v.phase) (next_of v)) (loads x) (behind v g.room (history_of x))

-- LEAVE. The word found shows neither closing nor over, a later epoch than the thread ran in, and that a thread of this end may leave.
pub record MayLeave (v : View) (end : ThreadEnd) (word : ℕ) : Type 0 where
  pub on : v.saw_off ≡ false
  pub phase : v.phase ≡ Standing
  pub not_ended : end ≢ Ended
  pub next : next_of v ≢ None
  pub not_closing : (arrival_of word).closing ≡ false
  pub not_over : (arrival_of word).over ≡ false
  pub later : v.ran < (arrival_of word).epoch
  pub allowed : leaves end (arrival_of word).fed ≡ true

-- STAND. Nothing is held, the thread's room was written in this epoch, and there is a cause.
pub record MayStand (v : View) : Type 0 where
  pub on : v.saw_off ≡ false
  pub phase : v.phase ≡ Running
  pub nothing_held : v.grip ≡ None
  pub wrote : v.wrote ≡ true
  pub cause : HasCause v.quota v.found_empty (next_of v)

-- DRAW. The entry is the thread's next, with the object's reply behind the held room's history, and its own room was not yet written.
pub record MayDraw (v : View) (g : Grip) (e : Entry) : Type 0 where
  pub on : v.saw_off ≡ false
  pub phase : v.phase ≡ Running
  pub held : v.grip ≡ Some g
  pub once : g.drawn ≡ None
  pub room : g.room ≡ room_of (sizes_known v) e.command
  pub thread : e.thread ≡ v.thread
  pub index : e.index ≡ place_of v
  pub command : next_of v ≡ Some e.command
  pub reply : reply_to (sizes_known v) (behind v g.room g.history) e.command ≡ Some e.reply
  pub quota : 0 < v.quota
  pub unwritten : v.wrote ≡ false

-- CLAIM. The word found shows that each thread stands, neither closing nor over, and the epoch in which this one last ran.
pub record MayClaim (v : View) (word : ℕ) : Type 0 where
  pub on : v.saw_off ≡ false
  pub phase : v.phase ≡ Standing
  pub few_checkpoints : v.checkpoints < 2 ^ 19
  pub all_stand : AllStand (arrival_of word).mask v.beginning.settings.threads
  pub not_closing : (arrival_of word).closing ≡ false
  pub not_over : (arrival_of word).over ≡ false
  pub epoch : (arrival_of word).epoch ≡ v.ran

-- NOTE. All rooms are done.
pub record MayNote (v : View) : Type 0 where
  pub on : v.saw_off ≡ false
  pub phase : v.phase ≡ Closing
  pub nothing_held : v.grip ≡ None
  pub all_done : v.closed.rooms ≡ room_count (sizes_known v)

-- RELEASE. So many entries are noted, and the two bits are those of what was learnt: the life is over where no thread may leave.
pub record MayRelease (v : View) (over fed : Bool) (entries : ℕ) : Type 0 where
  pub on : v.saw_off ≡ false
  pub phase : v.phase ≡ Closing
  pub nothing_held : v.grip ≡ None
  pub all_done : v.closed.rooms ≡ room_count (sizes_known v)
  pub noted : v.closed.entries ≡ Some entries
  pub learnt_fed : v.closed.fed ≡ Some fed
  pub is_over : over ≡ not (list_any (λ end. leaves end fed) v.closed.ends)

-- TICK. The power was seen on since the last tick.
pub record MayTick (v : View) : Type 0 where
  pub few : v.ticks < 2 ^ 32
  pub saw_on : v.saw_on ≡ true
