-- The laws of the object and of histories.
use Rattle.std.specs.Prelude.{◌≡◌, ◌↔◌, Some, ◌≢◌, ℕ, ◌+◌, ◌-◌, ◌==◌, ◌&&◌, if◌then◌else◌, is_some, is_none, ◌<◌, ◌≤◌, List, ◌++◌, length, map, take, drop}
use Rattle.std.specs.List.{All, Contains}
use Rattle.std.specs.List.Sorted.{IsStrictlyIncreasing}
use Rattle.std.specs.FinMap.{get, insert, remove, len}
use Rattle.seq_object.specs.declared.command.Command.{Command}
use Rattle.seq_object.specs.declared.history.Entry.{Entry}
use Rattle.seq_object.specs.declared.history.Pair.{Pair}
use Rattle.seq_object.specs.Object.{Pairs, shard_of, shard_pairs, Contents, reply_to, contents_after, room_of, part_of}
use Rattle.seq_object.specs.History.{of_thread, of_room, contents_at, IsLegal, State, point_at, point_behind, after, AreCommands, counted_from, total}
use Rattle.seq_object.specs.Plain.{listed}
use Rattle.seq_object.specs.declared.sizes.Sizes.{Sizes}

-- a history in two pieces is legal where the first is, and the second from what the first leaves
abbrev pub LegalInPiecesLaw : Type 0
LegalInPiecesLaw = (z : Sizes) (c : Contents) (xs ys : List Entry)
    → (IsLegal z c xs → IsLegal z (contents_at z c xs) ys
    → IsLegal z c (xs ++ ys)) × (IsLegal z c (xs ++ ys)
    → IsLegal z c xs × IsLegal z (contents_at z c xs) ys)

-- what two pieces leave is what the second leaves after the first
abbrev pub AfterInPiecesLaw : Type 0
AfterInPiecesLaw = (z : Sizes) (s : State) (xs ys : List Entry)
    → after z s (xs ++ ys) ≡ after z (after z s xs) ys

-- a thread's restart point after a history is the one behind its own entries
abbrev pub PointLaw : Type 0
PointLaw = (z : Sizes) (s : State) (h : List Entry) (i : ℕ) → i < length s.points
    → point_at (after z s h).points i ≡ point_behind (point_at s.points i) (of_thread i h)

-- a history leaves as many restart points as there were
abbrev pub PointCountLaw : Type 0
PointCountLaw = (z : Sizes) (s : State) (h : List Entry) → length (after z s h).points ≡ length s.points

-- a thread's entries in two pieces go through its script in order where the first does, and the second from where the first ends
abbrev pub CommandsInPiecesLaw : Type 0
CommandsInPiecesLaw = (script : List Command) (place : ℕ) (xs ys : List Entry)
    → (AreCommands script place xs → AreCommands script (place + length xs) ys
    → AreCommands script place (xs ++ ys)) × (AreCommands script place (xs ++ ys)
    → AreCommands script place xs × AreCommands script (place + length xs) ys)

-- a command has the same reply by its room's part as by the whole
abbrev pub RoomReplyLaw : Type 0
RoomReplyLaw = (z : Sizes) → 0 < z.shards → (c : Contents) (command : Command)
    → reply_to z (part_of z (room_of z command) c) command ≡ reply_to z c command

-- a command changes its own room's part as it would alone
abbrev pub OwnRoomLaw : Type 0
OwnRoomLaw = (z : Sizes) → 0 < z.shards → (c : Contents) (command : Command)
    → part_of z (room_of z command) (contents_after z c command) ≡ contents_after z (part_of z (room_of z command) c) command

-- a command of another room does not change a room's part
abbrev pub OtherRoomLaw : Type 0
OtherRoomLaw = (z : Sizes) → 0 < z.shards → (c : Contents) (command : Command) (room : ℕ)
    → room_of z command ≢ room → part_of z room (contents_after z c command) ≡ part_of z room c

-- what a history leaves in a room is what the room's entries leave there
abbrev pub RoomAfterLaw : Type 0
RoomAfterLaw = (z : Sizes) → 0 < z.shards → (c : Contents) (h : List Entry) (room : ℕ)
    → part_of z room (contents_at z c h) ≡ contents_at z (part_of z room c) (of_room z room h)

-- a history is legal exactly where each room's part of it is
abbrev pub RoomByRoomLaw : Type 0
RoomByRoomLaw = (z : Sizes) → 0 < z.shards → (c : Contents) (h : List Entry)
    → (((room : ℕ) → IsLegal z (part_of z room c) (of_room z room h)) → IsLegal z c h) × (IsLegal z c h
    → (room : ℕ) → IsLegal z (part_of z room c) (of_room z room h))

-- a prefix of a legal history is legal
abbrev pub PrefixLaw : Type 0
PrefixLaw = (z : Sizes) (c : Contents) (h : List Entry) (n : ℕ) → IsLegal z c h → IsLegal z c (take n h)

-- entries that go through a script in order have its commands, each once, and the indexes one after another; none is past its end
abbrev pub InOrderLaw : Type 0
InOrderLaw = (script : List Command) (place : ℕ) (es : List Entry) → AreCommands script place es
    → (map (λ e. e.command) es ≡ take (length es) (drop place script)) × (map (λ e. e.index) es ≡ counted_from place (length es)) × (place ≤ length script → place + length es ≤ length script)

-- the room of a command is a shard's or the queue's
abbrev pub RoomBoundLaw : Type 0
RoomBoundLaw = (z : Sizes) → 0 < z.shards → (command : Command) → room_of z command ≤ z.shards

-- the rooms' parts make the whole
abbrev pub OneWholeLaw : Type 0
OneWholeLaw = (z : Sizes) → 0 < z.shards → (c d : Contents)
    → ((room : ℕ) → room ≤ z.shards → part_of z room c ≡ part_of z room d) → c ≡ d

-- the entries of all rooms are all entries
abbrev pub RoomCountLaw : Type 0
RoomCountLaw = (z : Sizes) → 0 < z.shards → (h : List Entry)
    → total (λ room. length (of_room z room h)) (z.shards + 1) ≡ length h

-- where each thread's number is below so many, the entries of these threads are all entries
abbrev pub ThreadCountLaw : Type 0
ThreadCountLaw = (threads : ℕ) (h : List Entry) → All (λ e. e.thread < threads) h
    → total (λ thread. length (of_thread thread h)) threads ≡ length h

-- a put adds a key to its shard where it is new, and to no other shard
abbrev pub ShardPutLaw : Type 0
ShardPutLaw = (z : Sizes) (pairs : Pairs) (key value shard : ℕ)
    → len (shard_pairs z shard (insert pairs key value))
    ≡ (if (shard_of z key == shard) && is_none (get pairs key) then len (shard_pairs z shard pairs) + 1 else len (shard_pairs z shard pairs))

-- a removal takes a key from its shard where it was there, and from no other shard
abbrev pub ShardRemoveLaw : Type 0
ShardRemoveLaw = (z : Sizes) (pairs : Pairs) (key shard : ℕ)
    → len (shard_pairs z shard (remove pairs key))
    ≡ (if (shard_of z key == shard) && is_some (get pairs key) then len (shard_pairs z shard pairs) - 1 else len (shard_pairs z shard pairs))

-- the keys of the listed pairs rise, and the pairs are listed that the map has, and no others
abbrev pub ListedLaw : Type 0
ListedLaw = (pairs : Pairs)
    → IsStrictlyIncreasing (map (λ p. p.key) (listed pairs)) × ((p : Pair) → (get pairs p.key ≡ Some p.value) ↔ Contains (listed pairs) p)
