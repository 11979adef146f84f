-- Entries with their places in the history: a thread's, and a room's.
use Rattle.std.specs.Prelude.{ℕ, suc, ◌==◌, Bool, List, [], ◌∷◌, map, if◌then◌else◌}
use Rattle.seq_object.specs.declared.history.Entry.{Entry}
use Rattle.seq_object.specs.declared.history.Noted.{Noted}
use Rattle.seq_object.specs.Object.{room_of}
use Rattle.seq_object.specs.declared.sizes.Sizes.{Sizes}

-- an entry with its place
abbrev pub placed : ℕ → Entry → Noted
placed place e = record { ticket = place; entry = e }

-- the entries that are picked, each with its place, where the first entry has this place
abbrev pub picked : (Entry → Bool) → ℕ → List Entry → List Noted
picked picks place [] = []
picked picks place (e ∷ es) = if picks e then placed place e ∷ picked picks (suc place) es else picked picks (suc place) es

-- whether an entry is a thread's, or for a room
abbrev pub is_of_thread : ℕ → Entry → Bool
is_of_thread thread e = e.thread == thread

abbrev pub is_for_room : Sizes → ℕ → Entry → Bool
is_for_room z room e = room_of z e.command == room

-- a thread's entries of a history, and a room's
abbrev pub thread_entries : ℕ → List Entry → List Noted
thread_entries thread h = picked (is_of_thread thread) 0 h

abbrev pub room_entries : Sizes → ℕ → List Entry → List Noted
room_entries z room h = picked (is_for_room z room) 0 h

-- the entries without their places
abbrev pub entries_of : List Noted → List Entry
entries_of ns = map (λ (n : Noted). n.entry) ns
