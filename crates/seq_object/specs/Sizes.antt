-- The sizes of a memory, their limits, and the rooms that they fix: the shards' map rooms, the queue room, one room for each thread, and
-- the super room, numbered in this order.
use Rattle.std.specs.Prelude.{ℕ, ◌+◌, ◌-◌, ◌*◌, ◌≤◌, Bool, nat_le, ◌&&◌, if◌then◌else◌}
use Rattle.seq_object.specs.declared.settings.Settings.{Settings}
use Rattle.seq_object.specs.declared.sizes.Sizes.{Sizes}

-- the sizes among the settings
abbrev pub sizes_of : Settings → Sizes
sizes_of s = record { threads = s.threads; shards = s.shards; lines = s.lines }

-- how many keys a shard can hold
abbrev pub map_capacity : Sizes → ℕ
map_capacity z = z.lines - 9

-- how many items the queue can hold
abbrev pub queue_capacity : Sizes → ℕ
queue_capacity z = z.lines - 2

-- sizes within their limits
pub record AreValid (z : Sizes) : Type 0 where
  pub some_threads : 1 ≤ z.threads
  pub few_threads : z.threads ≤ 16
  pub some_shards : 1 ≤ z.shards
  pub few_shards : z.shards ≤ 8
  pub some_lines : 16 ≤ z.lines
  pub few_lines : z.lines ≤ 65536

-- whether a number is from low to high
abbrev pub is_from_to : ℕ → ℕ → ℕ → Bool
is_from_to low high n = nat_le low n && nat_le n high

-- whether sizes are within their limits
abbrev pub are_valid : Sizes → Bool
are_valid z = is_from_to 1 16 z.threads && (is_from_to 1 8 z.shards && is_from_to 16 65536 z.lines)

-- settings within their limits
pub record IsValid (s : Settings) : Type 0 where
  pub sizes : AreValid (sizes_of s)
  pub some : 1 ≤ s.every
  pub few : s.every ≤ 1024

-- the number of the queue room, behind the shards' map rooms
abbrev pub queue_room : Sizes → ℕ
queue_room z = z.shards

-- the number of a thread's room
abbrev pub thread_room : Sizes → ℕ → ℕ
thread_room z thread = z.shards + 1 + thread

-- the number of the super room
abbrev pub super_room : Sizes → ℕ
super_room z = z.shards + 1 + z.threads

-- how many rooms there are
abbrev pub room_count : Sizes → ℕ
room_count z = z.shards + 2 + z.threads

-- how many lines a room has
abbrev pub line_count : Sizes → ℕ → ℕ
line_count z room = if nat_le room z.shards then z.lines else 1

-- how many lines all rooms have together
abbrev pub line_total : Sizes → ℕ
line_total z = (z.shards + 1) * z.lines + z.threads + 1
