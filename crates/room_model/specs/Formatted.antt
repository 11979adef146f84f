-- Memory as it is formatted: every word is 0, but that fresh is each room's first node line and the epoch is 1.
use Rattle.std.specs.Prelude.{ℕ, ◌==◌, ◌&&◌, nat_le, if◌then◌else◌, List, ◌∷◌, replicate, slice_set, [], ◌++◌}
use Rattle.seq_object.specs.Sizes.{super_room}
use Rattle.line_memory.specs.Line.{BankState, quiet_bank}
use Rattle.room_model.specs.Chains.{RoomWords}
use Rattle.room_model.specs.MapRoom.{Layout, live_layout}
use Rattle.line_memory.specs.Line.{BankState, quiet_bank}
use Rattle.seq_object.specs.declared.sizes.Sizes.{Sizes}

-- a room of cells as it is formatted
abbrev pub formatted : ℕ → RoomWords
formatted first = λ line w. if (line == 0) && (w == 1) then first else 0

-- the first node line of a map room or of the queue room
abbrev pub first_node : Layout → Sizes → ℕ → ℕ
first_node layout z room = if room == z.shards then 2 else layout.first

-- a word of formatted memory
abbrev pub formatted_word : Layout → Sizes → ℕ → RoomWords
formatted_word layout z room line w =
    if room == super_room z then (if w == 0 then 1 else 0)
    else if nat_le room z.shards then formatted (first_node layout z room) line w else 0

-- a line of eight words, of which word 0 and word 1 are these
abbrev pub line_of_words : ℕ → ℕ → List ℕ
line_of_words first second = first ∷ second ∷ replicate 6 0

-- a room of so many lines of which the header says that the first line to be given out is this one
abbrev pub room_bank : ℕ → ℕ → BankState
room_bank lines first = quiet_bank (slice_set (replicate lines (line_of_words 0 0)) 0 (line_of_words 0 first))

-- a bank of one line
abbrev pub line_bank : List ℕ → BankState
line_bank words = quiet_bank (words ∷ [])

-- a bank of formatted memory, by the number of its room
abbrev pub formatted_bank : Sizes → ℕ → BankState
formatted_bank z room =
    if room == super_room z then line_bank (line_of_words 1 0)
    else if nat_le room z.shards then room_bank z.lines (first_node live_layout z room) else line_bank (line_of_words 0 0)

-- the map rooms, the queue room, a room for each thread, and the super room, whose epoch is 1
abbrev pub formatted_memory : Sizes → List BankState
formatted_memory z =
    replicate z.shards (room_bank z.lines live_layout.first) ++ (room_bank z.lines 2 ∷ replicate z.threads (line_bank (line_of_words 0 0))) ++ line_bank (line_of_words 1 0) ∷ []
