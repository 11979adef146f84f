-- From writes to the stores that carry them out: what the record words are behind planned stores, where the stores go, and how many
-- there are.
use Rattle.std.specs.Prelude.{◌≡◌, ℕ, ◌<◌, ◌≤◌, List, ◌++◌, length}
use Rattle.seq_object.specs.declared.command.Command.{Command}
use Rattle.seq_object.specs.declared.command.Command.TheVariants.{Put, Get, Del, Enq, Deq, Take}
use Rattle.seq_object.specs.Object.{Contents, contents_after}
use Rattle.room_model.specs.declared.write.Write.{Write}
use Rattle.room_model.specs.declared.write.PlannedStore.{PlannedStore}
use Rattle.room_model.specs.Chains.{RoomWords, with_word, HasSameRecords}
use Rattle.room_model.specs.MapRoom.{Layout, IsLayout, HasCapacity}
use Rattle.room_model.specs.Rooms.{StandsFor}
use Rattle.room_model.specs.Writes.{written, stored_in, write_stores, stores_behind, command_stores, AreWithin, AreStoresWithin}
use Rattle.seq_object.specs.declared.sizes.Sizes.{Sizes}

-- behind planned stores and those of one more write, the record words are those behind the planned stores with the write's word changed
abbrev pub PlannedWriteLaw : Type 0
PlannedWriteLaw = (epoch : ℕ) (r : RoomWords) (before : List PlannedStore) (x : Write)
    → HasSameRecords (stored_in r (before ++ write_stores epoch r before x)) (with_word (stored_in r before) x.line x.word x.value)

-- behind planned stores and those of more writes, the record words are those behind the planned stores and then the writes
abbrev pub StoresLaw : Type 0
StoresLaw = (epoch : ℕ) (r : RoomWords) (before : List PlannedStore) (ws : List Write)
    → HasSameRecords (stored_in r (stores_behind epoch r before ws)) (written (stored_in r before) ws)

-- writes that are planned in two pieces are planned as one list
abbrev pub StoresInPiecesLaw : Type 0
StoresInPiecesLaw = (epoch : ℕ) (r : RoomWords) (before : List PlannedStore) (ws vs : List Write) → stores_behind epoch r before (ws ++ vs) ≡ stores_behind epoch r (stores_behind epoch r before ws) vs

-- behind the planned stores of a command, each map room and the queue room stand for what the object holds after the command
abbrev pub CommandStoresLaw : Type 0
CommandStoresLaw = (layout : Layout) (z : Sizes) (epoch room : ℕ) (r : RoomWords) (c : Contents) (command : Command)
    → IsLayout layout → HasCapacity layout z → 0 < z.shards → StandsFor layout z room r c
    → StandsFor layout z room (stored_in r (command_stores layout z epoch room r command)) (contents_after z c command)

-- stores of writes that go to record words of these lines go to words of these lines
abbrev pub StoresWithinLaw : Type 0
StoresWithinLaw = (epoch : ℕ) (r : RoomWords) (lines : ℕ) (before : List PlannedStore) (ws : List Write) → AreStoresWithin lines before → AreWithin lines ws
    → AreStoresWithin lines (stores_behind epoch r before ws)

-- the planned stores of a command in a room go to words of the room's lines
abbrev pub CommandWithinLaw : Type 0
CommandWithinLaw = (layout : Layout) (z : Sizes) (epoch room : ℕ) (r : RoomWords) (c : Contents) (command : Command)
    → IsLayout layout → 0 < z.shards → StandsFor layout z room r c → AreStoresWithin z.lines (command_stores layout z epoch room r command)

-- the most stores that a command may have
abbrev pub most_stores : Command → ℕ
most_stores (Put key value) = 18
most_stores (Get key) = 0
most_stores (Del key) = 16
most_stores (Enq value) = 22
most_stores Deq = 17
most_stores Take = 17

-- a command has no more stores, in whatever room and epoch
abbrev pub StoreCountsLaw : Type 0
StoreCountsLaw = (layout : Layout) (z : Sizes) (epoch room : ℕ) (r : RoomWords) (command : Command) → length (command_stores layout z epoch room r command) ≤ most_stores command
