-- The end of a recovery: the threads' ends are told, and the arrival word says who stands, whether all is done, and whether there is an item.
use Rattle.std.specs.Prelude.{◌≡◌, ◌≢◌, ℕ, zero, suc, ◌+◌, ◌<◌, ◌&&◌, not, nat_le, Bool, true, List, length, slice_index, if◌then◌else◌}
use Rattle.incll_var.specs.Cells.{MayRestore}
use Rattle.restart_point.specs.declared.thread_end.ThreadEnd.TheVariants.{Ready, Ended}
use Rattle.restart_point.specs.Rooms.{position_of}
use Rattle.rooms.specs.declared.room.Room.{Room}
use Rattle.rooms.specs.declared.room.Room.TheVariants.{Map, Queue, Thread, Super}
use Rattle.rooms.specs.Rooms.{state_of, is_empty_queue, IsWhole}
use Rattle.room_yard.specs.Answers.{next_word}
use Rattle.recovery.specs.Recovering.{RecoveryState, epoch_by_load}
use Rattle.recovery.specs.Restored.{room_at}

-- the room is whole, and torn or saved
pub record MayBeTold (x : Room) : Type 0 where
  pub whole : IsWhole x
  pub may : MayRestore (state_of x)

-- whether the position of a thread's room is at the end of a script of so many commands
abbrev pub is_at_end : ℕ → Room → Bool
is_at_end commands (Map x) = true
is_at_end commands (Queue x) = true
is_at_end commands (Thread x) = nat_le commands (position_of x)
is_at_end commands (Super x) = true

-- a thread's room with the end that belongs to its position in a script of so many commands
abbrev pub told : ℕ → Room → Room
told commands (Map x) = Map x
told commands (Queue x) = Queue x
told commands (Thread x) = Thread (record x { end = if nat_le commands (position_of x) then Ended else Ready })
told commands (Super x) = Super x

-- the rooms of the first threads, behind so many shards, are told their ends, by the lengths of their scripts; the others are as they were
pub record AreTold (shards : ℕ) (lengths : List ℕ) (n : ℕ) (old new : List Room) : Type 0 where
  pub count : length new ≡ length old
  pub told_ends : (i : ℕ) → i < n → room_at new (shards + 1 + i) ≡ told (slice_index lengths i) (room_at old (shards + 1 + i))
  pub others : (k : ℕ) → ((i : ℕ) → i < n → k ≢ shards + 1 + i) → room_at new k ≡ room_at old k

-- whether each of the first threads is at its script's end
abbrev pub are_at_end : ℕ → List ℕ → List Room → ℕ → Bool
are_at_end shards lengths rooms zero = true
are_at_end shards lengths rooms (suc n) = is_at_end (slice_index lengths n) (room_at rooms (shards + 1 + n)) && are_at_end shards lengths rooms n

-- the arrival word with which the next epoch begins: each thread stands, and none closes
abbrev pub opening_word : RecoveryState → List ℕ → ℕ
opening_word r lengths =
    next_word r.settings.threads (are_at_end r.settings.shards lengths r.rooms r.settings.threads) (not (is_empty_queue (room_at r.rooms r.settings.shards))) (epoch_by_load r)
