-- What a thread that closes an epoch has learnt of the rooms that are done.
use Rattle.std.specs.Prelude.{◌≡◌, ℕ, ◌+◌, ◌-◌, ◌<◌, ◌≤◌, min, List, length, slice_get, Some}
use Rattle.seq_object.specs.declared.history.Entry.{Entry}
use Rattle.seq_object.specs.Sizes.{thread_room, room_count}
use Rattle.life_model.specs.Life.{contents_now}
use Rattle.rooms.specs.declared.room.Room.{Room}
use Rattle.yard_model.specs.declared.view.Beginning.{Beginning}
use Rattle.yard_model.specs.declared.view.Closed.{Closed}
use Rattle.rooms.specs.Rooms.{end_of}
use Rattle.yard_model.specs.Beginnings.{opening_of, sizes_at, has_items}
use Rattle.seq_object.specs.declared.sizes.Sizes.{Sizes}

-- how many thread rooms are among the first rooms
abbrev pub threads_done : Sizes → ℕ → ℕ
threads_done z rooms = min (rooms - (z.shards + 1)) z.threads

pub record HasLearnt (b : Beginning) (h : List Entry) (home : ℕ → Room → Type 0) (c : Closed) : Type 0 where
  -- no more rooms are done than there are
  pub rooms : c.rooms ≤ room_count (sizes_at b)
  -- once the queue room is done: whether the queue has an item
  pub fed : b.settings.shards < c.rooms → c.fed ≡ Some (has_items (contents_now (opening_of b) h).items)
  -- as many ends as thread rooms are done
  pub number : length c.ends ≡ threads_done (sizes_at b) c.rooms
  -- each of these ends is that of its room
  pub ends : (k : ℕ) (x : Room) → home (thread_room (sizes_at b) k) x → k < length c.ends → slice_get c.ends k ≡ Some (end_of x)
  -- the number that is noted is that of all entries
  pub entries : (n : ℕ) → c.entries ≡ Some n → n ≡ length h
