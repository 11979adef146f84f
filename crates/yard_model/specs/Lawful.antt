-- The lawful world, part by part. Each part is a record over the beginning b, the world w, the history h of all entries, and the
-- checkpoints cs that were released. The views' own entries with their places make the history, and the locks and words are tied to it
-- and to cs once.
use Rattle.std.specs.Prelude.{◌≡◌, ◌≢◌, ℕ, ◌+◌, ◌^◌, ◌<◌, ◌≤◌, ◌⊎◌, nat_lt, true, false, List, length, Some}
use Rattle.std.specs.List.{All}
use Rattle.seq_object.specs.declared.history.Entry.{Entry}
use Rattle.seq_object.specs.Object.{part_of}
use Rattle.seq_object.specs.History.{of_room, IsLegal}
use Rattle.life_model.specs.Life.{IsInOrder, point_after}
use Rattle.life_model.specs.Work.{HasNoTake}
use Rattle.life_model.specs.Ends.{AreUsed}
use Rattle.room_model.specs.MapRoom.{live_layout}
use Rattle.room_model.specs.Rooms.{point_in}
use Rattle.room_model.specs.Banks.{memory_words}
use Rattle.block_allow.specs.Verdicts.{leaves}
use Rattle.rooms.specs.declared.room.Room.{Room}
use Rattle.yard_model.specs.declared.view.Phase.TheVariants.{Standing, Closing}
use Rattle.yard_model.specs.declared.view.Beginning.{Beginning}
use Rattle.yard_model.specs.declared.view.View.{View}
use Rattle.yard_model.specs.declared.view.Grip.{Grip}
use Rattle.yard_model.specs.declared.view.GivenBack.{GivenBack}
use Rattle.yard_model.specs.declared.view.Checkpoint.{Checkpoint}
use Rattle.yard_model.specs.Entries.{room_entries}
use Rattle.rooms.specs.Rooms.{bank_of, history_of, end_of, IsRoomOf}
use Rattle.yard_model.specs.Beginnings.{opening_of, sizes_at, marks_of, epoch_now, covered_by, covered_part, is_over, OnlyLastIsOver, is_fed, IsBeginning}
use Rattle.yard_model.specs.Knows.{stands}
use Rattle.yard_model.specs.World.{YardState, tick_word, clock, arrival, lock_of, dead, ViewIs, Home, stands_at, closes, done_in, all_ticks, all_checkpoints, number_on, is_called_off, Shows}
use Rattle.yard_model.specs.Locks.{HoldsRightly, HasOwnEntries, GripsRightly}
use Rattle.yard_model.specs.Dead.{LeftRoom}
use Rattle.yard_model.specs.Epochs.{IsInEpoch, IsBounded}
use Rattle.yard_model.specs.Homes.{IsFreeHome, IsDeadHome}
use Rattle.yard_model.specs.Positions.{KeepsPosition, IsStored}
use Rattle.yard_model.specs.Closings.{HasLearnt}
use Rattle.seq_object.specs.Sizes.{thread_room, room_count}

-- Sizes: one view per thread, one lock and one place per room, each room of its kind, one beginning for all.
pub record IsSized (b : Beginning) (w : YardState) (h : List Entry) (cs : List Checkpoint) : Type 0 where
  -- one view for each thread
  pub views : length w.views ≡ b.settings.threads
  -- one place for each room
  pub rooms : length w.rooms ≡ room_count (sizes_at b)
  -- three words, and a lock for each room
  pub words : length w.words ≡ 3 + room_count (sizes_at b)
  -- the views stand in the order of threads
  pub threads : (i : ℕ) (v : View) → ViewIs w i v → v.thread ≡ i
  -- each knows the same beginning
  pub beginnings : (i : ℕ) (v : View) → ViewIs w i v → v.beginning ≡ b
  -- a room at home is of its kind, and has its lines
  pub kinds : (r : ℕ) (x : Room) → Home w r x → IsRoomOf b.settings r x

-- The arrival word shows who stands, whether a thread closes, whether the life is over, whether the epoch began with an item, and the epoch.
pub record ShowsArrival (b : Beginning) (w : YardState) (h : List Entry) (cs : List Checkpoint) : Type 0 where
  -- what the word shows
  pub word : Shows (arrival w) (stands_at w.views) (closes w.views) (is_over b cs) (is_fed b h cs) (epoch_now b cs)
  -- at most one thread closes
  pub one_closer : (i : ℕ) (v : View) → ViewIs w i v → (j : ℕ) (u : View) → ViewIs w j u → v.phase ≡ Closing → u.phase ≡ Closing → i ≡ j
  -- while a thread closes each stands
  pub full : (i : ℕ) (v : View) → ViewIs w i v → closes w.views ≡ true → stands v.phase ≡ true
  -- where the life is over each thread stands
  pub over_stands : (i : ℕ) (v : View) → ViewIs w i v → is_over b cs ≡ true → v.phase ≡ Standing
  -- and all entries are covered
  pub over_saved : is_over b cs ≡ true → covered_by cs ≡ length h
  -- and no thread may leave
  pub over_ends : (i : ℕ) (x : Room) → i < b.settings.threads → Home w (thread_room (sizes_at b) i) x
      → is_over b cs ≡ true → leaves (end_of x) (is_fed b h cs) ≡ false
  -- of the checkpoints only the last may have ended the life
  pub only_last : OnlyLastIsOver cs
  -- where every script is used and all entries are covered, the life is over
  pub used_over : AreUsed (opening_of b) h → covered_by cs ≡ length h → is_over b cs ≡ true

-- The locks say who holds each room, and which rooms were given back in mid-work.
pub record HoldsLocks (b : Beginning) (w : YardState) (h : List Entry) (cs : List Checkpoint) : Type 0 where
  -- each view holds what it may, and the locks say so
  pub views : (i : ℕ) (v : View) → ViewIs w i v → HoldsRightly b (lock_of w) (tick_word w) i v.phase v.closed.rooms v.grip v.given_back v.saw_off
  -- who a lock names holds the room
  pub holder : (r i : ℕ) → r < room_count (sizes_at b) → lock_of w r ≡ i + 1 → lock_of w r ≢ dead
      → (v : View) × ViewIs w i v × ((g : Grip) × (v.grip ≡ Some g) × (g.room ≡ r))
  -- a room with a dead lock was given back by a view
  pub giver : (r : ℕ) → r < room_count (sizes_at b) → lock_of w r ≡ dead
      → (i : ℕ) × (v : View) × ViewIs w i v × ((k : GivenBack) × (v.given_back ≡ Some k) × (k.room ≡ r))
  -- no two views gave the same room back
  pub one_giver : (i : ℕ) (v : View) → ViewIs w i v → (j : ℕ) (u : View) → ViewIs w j u
      → (k : GivenBack) → v.given_back ≡ Some k → (l : GivenBack) → u.given_back ≡ Some l → k.room ≡ l.room → i ≡ j
  -- a room is at home where its lock is 0 or dead
  pub free : (r : ℕ) → r < room_count (sizes_at b) → (lock_of w r ≡ 0) ⊎ (lock_of w r ≡ dead) → (x : Room) × Home w r x
  -- and only there
  pub home : (r : ℕ) (x : Room) → Home w r x → (lock_of w r ≡ 0) ⊎ (lock_of w r ≡ dead)

-- The places are the numbers below the clock, each of one entry, and each room's history is its entries in order.
pub record CountsEntries (b : Beginning) (w : YardState) (h : List Entry) (cs : List Checkpoint) : Type 0 where
  -- the clock is the number of entries
  pub clock : clock w ≡ length h
  -- each entry is of a thread
  pub known : All (λ (e : Entry). e.thread < b.settings.threads) h
  -- each view knows its own entries
  pub views : (i : ℕ) (v : View) → ViewIs w i v → HasOwnEntries b h i v.own v.grip
  -- a room at home has its entries, in order
  pub home : (r : ℕ) (x : Room) → Home w r x → history_of x ≡ room_entries (sizes_at b) r h

-- Each room's history is legal, also behind some first stores of the next command in a room that was given back.
pub record HasLegalRooms (b : Beginning) (w : YardState) (h : List Entry) (cs : List Checkpoint) : Type 0 where
  -- each room's history is legal from its part of the beginning
  pub legal : (r : ℕ) → IsLegal (sizes_at b) (part_of (sizes_at b) r (opening_of b).state.contents) (of_room (sizes_at b) r h)
  -- a room that was given back has some first stores of its thread's next command
  pub dead_room : (i : ℕ) (v : View) → ViewIs w i v → LeftRoom b h cs (Home w) i v.phase v.given_back

-- Each thread is in an epoch as it may be, and the entries and marks are in order, as in a legal life.
pub record KeepsEpochs (b : Beginning) (w : YardState) (h : List Entry) (cs : List Checkpoint) : Type 0 where
  -- each view is in an epoch as it may be
  pub views : (i : ℕ) (v : View) → ViewIs w i v → IsInEpoch b h cs i v.phase v.ran v.quota v.found_empty
  -- no view's last checkpoint began a later epoch
  pub last : (i : ℕ) (v : View) → ViewIs w i v → v.last_checkpoint ≤ epoch_now b cs
  -- the entries and marks are in order
  pub order : IsInOrder (opening_of b) h (marks_of b cs)
  -- without a take in the scripts each checkpoint covers an entry more than the one before
  pub takeless : HasNoTake (opening_of b) → length cs ≤ covered_by cs

-- Each room at home is free or was given back in mid-work, and memory has of it what the last mark covers, whatever a cut leaves.
pub record KeepsRooms (b : Beginning) (w : YardState) (h : List Entry) (cs : List Checkpoint) : Type 0 where
  -- each free room
  pub free : (r : ℕ) (x : Room) → Home w r x → lock_of w r ≡ 0 → IsFreeHome b h cs (done_in w.views) r x
  -- each room that was given back in mid-work
  pub dead_room : (r : ℕ) (x : Room) → Home w r x → lock_of w r ≡ dead → IsDeadHome b h cs (done_in w.views) (closes w.views) r x
  -- of a thread's room memory has the restart point that the last mark covers
  pub points : (i : ℕ) (x : Room) → i < b.settings.threads → Home w (thread_room (sizes_at b) i) x
      → point_in live_layout (memory_words (epoch_now b cs) (bank_of x)) ≡ point_after (opening_of b) (covered_part h cs) i

-- A thread's room loads its restart point.
pub record KeepsPositions (b : Beginning) (w : YardState) (h : List Entry) (cs : List Checkpoint) : Type 0 where
  -- the room of each thread, where it is at home
  pub views : (i : ℕ) (v : View) → ViewIs w i v → (x : Room) → Home w (thread_room (sizes_at b) i) x
      → KeepsPosition b h cs (lock_of w (thread_room (sizes_at b) i)) i v.phase v.ran v.wrote x

-- A thread's room that was written in this epoch is still to be written back, until it is done.
pub record StoresPositions (b : Beginning) (w : YardState) (h : List Entry) (cs : List Checkpoint) : Type 0 where
  -- the room of each thread, where it is at home
  pub views : (i : ℕ) (v : View) → ViewIs w i v → (x : Room) → Home w (thread_room (sizes_at b) i) x
      → IsStored (epoch_now b cs) (lock_of w (thread_room (sizes_at b) i)) (nat_lt (thread_room (sizes_at b) i) (done_in w.views)) v.ran v.wrote x

-- What a thread that closes has learnt is right, and ticks, marks and epochs are within their bounds.
pub record KeepsBounds (b : Beginning) (w : YardState) (h : List Entry) (cs : List Checkpoint) : Type 0 where
  -- the beginning is one
  pub beginning : IsBeginning b
  -- what a thread that closes has learnt is right
  pub learnt : (i : ℕ) (v : View) → ViewIs w i v → v.phase ≡ Closing → HasLearnt b h (Home w) v.closed
  -- each view's counts are within their bounds
  pub views : (i : ℕ) (v : View) → ViewIs w i v → IsBounded v.phase v.ticks v.checkpoints
  -- the tick word is the sum of the ticks
  pub ticks : is_called_off w.views ≡ false → tick_word w ≡ all_ticks w.views
  -- once a thread turned the power off it is from 2^63 to 2^63 and that sum
  pub off : is_called_off w.views ≡ true → (2 ^ 63 ≤ tick_word w) × (tick_word w ≤ 2 ^ 63 + all_ticks w.views)
  -- the ticks, and those that may come without a further look, are at most the limit and one for each thread
  pub limit : all_ticks w.views + number_on w.views ≤ b.limit + b.settings.threads
  -- the checkpoints are those that the threads released
  pub checkpoints : all_checkpoints w.views ≡ length cs

-- What a view has of its room as taken is right.
pub record GripsRooms (b : Beginning) (w : YardState) (h : List Entry) (cs : List Checkpoint) : Type 0 where
  -- each view knows its room as taken
  pub views : (i : ℕ) (v : View) → ViewIs w i v → (g : Grip) → v.grip ≡ Some g → GripsRightly b h cs v.phase g

-- The lawful world.
pub record Lawful (b : Beginning) (w : YardState) (h : List Entry) (cs : List Checkpoint) : Type 0 where
  pub sized : IsSized b w h cs
  pub arrival : ShowsArrival b w h cs
  pub locks : HoldsLocks b w h cs
  pub entries : CountsEntries b w h cs
  pub loads : HasLegalRooms b w h cs
  pub epochs : KeepsEpochs b w h cs
  pub rooms : KeepsRooms b w h cs
  pub positions : KeepsPositions b w h cs
  pub stored : StoresPositions b w h cs
  pub bounds : KeepsBounds b w h cs
  pub taken : GripsRooms b w h cs
