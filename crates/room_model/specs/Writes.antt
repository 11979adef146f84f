-- The writes of a command in a room, and the stores that carry them out. All values are read before the first write.
use Rattle.std.specs.Prelude.{ℕ, zero, suc, ◌+◌, ◌-◌, ◌==◌, ◌&&◌, ◌||◌, Bool, false, Option, Some, None, List, [], ◌∷◌, ◌++◌, if◌then◌else◌, ◌<◌}
use Rattle.seq_object.specs.declared.command.Command.{Command}
use Rattle.seq_object.specs.declared.command.Command.TheVariants.{Put, Get, Del, Enq, Deq, Take}
use Rattle.seq_object.specs.declared.command.Reply.{Reply}
use Rattle.seq_object.specs.declared.command.Reply.TheVariants.{New, Old, Full, Found, Gone, Absent, Done, Empty}
use Rattle.seq_object.specs.Object.{room_of}
use Rattle.room_model.specs.declared.write.Write.{Write}
use Rattle.room_model.specs.declared.write.PlannedStore.{PlannedStore}
use Rattle.room_model.specs.Chains.{RoomWords, with_word}
use Rattle.room_model.specs.MapRoom.{Layout, head, bucket_of}
use Rattle.seq_object.specs.declared.sizes.Sizes.{Sizes}

-- this value into this record word of this line
abbrev pub write : ℕ → ℕ → ℕ → Write
write line word value = record { line = line; word = word; value = value }

-- a room after these writes
abbrev pub written : RoomWords → List Write → RoomWords
written r [] = r
written r (x ∷ xs) = written (with_word r x.line x.word x.value) xs

-- the line that is taken: the first free line, else the line at fresh
abbrev pub taken_line : RoomWords → ℕ
taken_line r = if r 0 0 == 0 then r 0 1 else r 0 0

-- whether a room of so many lines has none left to be taken: none is free, and each was given out
abbrev pub is_full : ℕ → RoomWords → Bool
is_full lines r = (r 0 0 == 0) && (r 0 1 == lines)

-- the write that takes a line
abbrev pub take_write : RoomWords → Write
take_write r = if r 0 0 == 0 then write 0 1 (r 0 1 + 1) else write 0 0 (r (r 0 0) 0)

-- the writes that give a line back
abbrev pub give_writes : RoomWords → ℕ → List Write
give_writes r n = write n 0 (r 0 0) ∷ write 0 0 n ∷ []

-- from the line start on, over at most so many nodes: the first line that has the key, or 0
abbrev pub line_with : RoomWords → ℕ → ℕ → ℕ → ℕ
line_with r key zero start = 0
line_with r key (suc n) start = if start == 0 then 0 else if r start 0 == key then start else line_with r key n (r start 2)

-- the line before that one on this way, where before is the line before start
abbrev pub line_before : RoomWords → ℕ → ℕ → ℕ → ℕ → ℕ
line_before r key zero before start = before
line_before r key (suc n) before start = if start == 0 then before else if r start 0 == key then before else line_before r key n start (r start 2)

-- the node of a key, or 0
abbrev pub node_of : Layout → Sizes → RoomWords → ℕ → ℕ
node_of layout z r key = line_with r key z.lines (head layout r (bucket_of z key))

-- the node before that of a key, or 0 where the head names the node
abbrev pub node_before : Layout → Sizes → RoomWords → ℕ → ℕ
node_before layout z r key = line_before r key z.lines 0 (head layout r (bucket_of z key))

-- a put of a key that node n has
abbrev pub put_present : ℕ → ℕ → List Write
put_present n value = write n 1 value ∷ []

-- a put of an absent key, where there is room: a line is taken, and becomes the first of its bucket's chain
abbrev pub put_absent : Layout → Sizes → RoomWords → ℕ → ℕ → List Write
put_absent layout z r key value =
    let n = taken_line r in
    let b = bucket_of z key in
    take_write r ∷ write n 0 key ∷ write n 1 value ∷ write n 2 (head layout r b) ∷ write (layout.head_line b) (layout.head_word b) n ∷ write 0 2 (r 0 2 + 1) ∷ []

-- a put
abbrev pub put_writes : Layout → Sizes → RoomWords → ℕ → ℕ → List Write
put_writes layout z r key value =
    let n = node_of layout z r key in
    if n == 0 then (if is_full z.lines r then [] else put_absent layout z r key value) else put_present n value

-- the write that takes node n, which stands behind this node or behind the head of bucket b, out of its chain
abbrev pub unlink_write : Layout → RoomWords → ℕ → ℕ → ℕ → Write
unlink_write layout r b before n = if before == 0 then write (layout.head_line b) (layout.head_word b) (r n 2) else write before 2 (r n 2)

-- a removal of a key of bucket b that node n has, which stands behind this node
abbrev pub del_present : Layout → RoomWords → ℕ → ℕ → ℕ → List Write
del_present layout r b before n = unlink_write layout r b before n ∷ give_writes r n ++ write 0 2 (r 0 2 - 1) ∷ []

-- a removal
abbrev pub del_writes : Layout → Sizes → RoomWords → ℕ → List Write
del_writes layout z r key =
    let n = node_of layout z r key in
    if n == 0 then [] else del_present layout r (bucket_of z key) (node_before layout z r key) n

-- the writes that put line n behind the last of the queue
abbrev pub link_writes : RoomWords → ℕ → List Write
link_writes r n = if r 1 0 == 0 then write 1 0 n ∷ write 1 1 n ∷ [] else write (r 1 1) 1 n ∷ write 1 1 n ∷ []

-- an item at the back, where there is room
abbrev pub enq_room : RoomWords → ℕ → List Write
enq_room r value =
    let n = taken_line r in
    take_write r ∷ write n 0 value ∷ write n 1 0 ∷ link_writes r n ++ write 0 2 (r 0 2 + 1) ∷ []

-- an item at the back
abbrev pub enq_writes : Sizes → RoomWords → ℕ → List Write
enq_writes z r value = if is_full z.lines r then [] else enq_room r value

-- the writes that take the first node, n, out of the queue
abbrev pub first_writes : RoomWords → ℕ → List Write
first_writes r n = if r n 1 == 0 then write 1 0 (r n 1) ∷ write 1 1 0 ∷ [] else write 1 0 (r n 1) ∷ []

-- the front item taken off, where there is one
abbrev pub deq_item : RoomWords → List Write
deq_item r =
    let n = r 1 0 in
    first_writes r n ++ give_writes r n ++ write 0 2 (r 0 2 - 1) ∷ []

-- the front item taken off
abbrev pub deq_writes : RoomWords → List Write
deq_writes r = if r 1 0 == 0 then [] else deq_item r

-- the writes of a command in its room
abbrev pub writes_of : Layout → Sizes → RoomWords → Command → List Write
writes_of layout z r (Put key value) = put_writes layout z r key value
writes_of layout z r (Get key) = []
writes_of layout z r (Del key) = del_writes layout z r key
writes_of layout z r (Enq value) = enq_writes z r value
writes_of layout z r Deq = deq_writes r
writes_of layout z r Take = deq_writes r

-- what a room answers to a command of its own, by its words; nothing exactly at a take where the queue is empty
abbrev pub answer_of : Layout → Sizes → RoomWords → Command → Option Reply
answer_of layout z r (Put key value) =
    let n = node_of layout z r key in
    Some (if n == 0 then (if is_full z.lines r then Full else New) else Old (r n 1))
answer_of layout z r (Get key) =
    let n = node_of layout z r key in
    Some (if n == 0 then Absent else Found (r n 1))
answer_of layout z r (Del key) =
    let n = node_of layout z r key in
    Some (if n == 0 then Absent else Gone (r n 1))
answer_of layout z r (Enq value) = Some (if is_full z.lines r then Full else Done)
answer_of layout z r Deq = Some (if r 1 0 == 0 then Empty else Found (r (r 1 0) 0))
answer_of layout z r Take = if r 1 0 == 0 then None else Some (Found (r (r 1 0) 0))

-- this value into this word of this line
abbrev pub store : ℕ → ℕ → ℕ → PlannedStore
store line word value = record { line = line; word = word; value = value }

-- a room, of all eight words, after these stores
abbrev pub stored_in : RoomWords → List PlannedStore → RoomWords
stored_in r [] = r
stored_in r (s ∷ ss) = stored_in (with_word r s.line s.word s.value) ss

-- whether one of these stores is to this line
abbrev pub touches : ℕ → List PlannedStore → Bool
touches line [] = false
touches line (s ∷ ss) = (s.line == line) || touches line ss

-- whether a write of a line needs no backup: the line has the epoch's tag, or one of the stores before is to it
abbrev pub needs_none : ℕ → RoomWords → List PlannedStore → ℕ → Bool
needs_none epoch r before line = (r line 6 == epoch) || touches line before

-- the stores of a backup: the record's words, and then the epoch's tag
abbrev pub backup_stores : ℕ → RoomWords → ℕ → List PlannedStore
backup_stores epoch r line = store line 3 (r line 0) ∷ store line 4 (r line 1) ∷ store line 5 (r line 2) ∷ store line 6 epoch ∷ []

-- the stores of a write in an epoch, behind these: the backup and the tag come first, unless the line has the epoch's tag or one of
-- the stores before is to it
abbrev pub write_stores : ℕ → RoomWords → List PlannedStore → Write → List PlannedStore
write_stores epoch r before x =
    if needs_none epoch r before x.line then store x.line x.word x.value ∷ [] else backup_stores epoch r x.line ++ store x.line x.word x.value ∷ []

-- the stores of these writes, behind these stores
abbrev pub stores_behind : ℕ → RoomWords → List PlannedStore → List Write → List PlannedStore
stores_behind epoch r before [] = before
stores_behind epoch r before (x ∷ xs) = stores_behind epoch r (before ++ write_stores epoch r before x) xs

-- the planned stores of a command in a room, in an epoch; a command of another room has none
abbrev pub command_stores : Layout → Sizes → ℕ → ℕ → RoomWords → Command → List PlannedStore
command_stores layout z epoch room r command = if room_of z command == room then stores_behind epoch r [] (writes_of layout z r command) else []

-- each write goes to a record word of one of so many lines
abbrev pub AreWithin : ℕ → List Write → Type 0
AreWithin lines [] = Unit {0}
AreWithin lines (x ∷ xs) = (x.line < lines) × (x.word < 3) × AreWithin lines xs

-- each store goes to a word of one of so many lines
abbrev pub AreStoresWithin : ℕ → List PlannedStore → Type 0
AreStoresWithin lines [] = Unit {0}
AreStoresWithin lines (s ∷ ss) = (s.line < lines) × (s.word < 8) × AreStoresWithin lines ss

-- how many lines these stores are the first to make pending, where these lines are pending before
abbrev pub newly_pending : (ℕ → Bool) → List PlannedStore → ℕ
newly_pending pending [] = 0
newly_pending pending (s ∷ ss) = (if pending s.line then 0 else 1) + newly_pending (λ line. (s.line == line) || pending line) ss
