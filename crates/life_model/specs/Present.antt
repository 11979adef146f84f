-- What the loads of a memory say at the end of a life: each room that no thread holds stands for its part of what the history leaves.
use Rattle.std.specs.Prelude.{◌≡◌, ℕ, ◌<◌, ◌≤◌, ◌⊎◌, List, [], ◌∷◌, length, take, Option, Some, None}
use Rattle.std.specs.List.{Contains}
use Rattle.seq_object.specs.declared.command.Command.{Command}
use Rattle.seq_object.specs.declared.history.Entry.{Entry}
use Rattle.seq_object.specs.Object.{Contents, room_of}
use Rattle.seq_object.specs.declared.sizes.Sizes.{Sizes}
use Rattle.life_model.specs.declared.life.Life.{Life}
use Rattle.life_model.specs.declared.life.Life.TheVariants.{Start, Resume}
use Rattle.life_model.specs.declared.life.Outcome.{Outcome}
use Rattle.life_model.specs.declared.life.Outcome.TheVariants.{Finished, Stalled, Cut, Starved}
use Rattle.line_memory.specs.Line.{BankState, load_of}
use Rattle.room_model.specs.declared.write.PlannedStore.{PlannedStore}
use Rattle.room_model.specs.Chains.{RoomWords}
use Rattle.room_model.specs.MapRoom.{live_layout}
use Rattle.room_model.specs.Rooms.{StandsFor, point_in}
use Rattle.room_model.specs.Writes.{stored_in, command_stores}
use Rattle.life_model.specs.Life.{Opening, sizes, next_command, covered, contents_now, point_after}
use Rattle.life_model.specs.Crash.{epoch_after}
use Rattle.seq_object.specs.Sizes.{thread_room}

-- the stores of a command in a room in an epoch, by these words; none where there is no command, or it is for another room
abbrev pub stores_here : Sizes → ℕ → ℕ → RoomWords → Option Command → List PlannedStore
stores_here z epoch r words None = []
stores_here z epoch r words (Some command) = command_stores live_layout z epoch r words command

-- these words are what some words that stand for the room's part become by the first stores of the command
pub record LoadsFirstStores (z : Sizes) (epoch r : ℕ) (command : Option Command) (words : RoomWords) (c : Contents) : Type 0 where
  pub before : RoomWords
  pub stood : StandsFor live_layout z r before c
  pub made : ℕ
  pub loads : (line word : ℕ) → words line word ≡ stored_in before (take made (stores_here z epoch r before command)) line word

-- a command was under way in a room: it is some thread's next and for this room, and the room loads its part behind first stores of it
pub record IsUnderWay (o : Opening) (h : List Entry) (marks : List ℕ) (room : ℕ) (r : RoomWords) : Type 0 where
  pub thread : ℕ
  pub command : Command
  pub next : next_command o h thread ≡ Some command
  pub here : room_of (sizes o) command ≡ room
  pub loads : LoadsFirstStores (sizes o) (epoch_after o marks) room (Some command) r (contents_now o h)

-- each number is above the one before it
abbrev pub AreAscending : List ℕ → Type 0
AreAscending [] = Unit {0}
AreAscending (x ∷ []) = Unit {0}
AreAscending (x ∷ y ∷ ys) = (x < y) × AreAscending (y ∷ ys)

-- an outcome at which all is covered names no held room
abbrev pub HoldsNoneAt : Outcome → List ℕ → Type 0
HoldsNoneAt Finished held = held ≡ []
HoldsNoneAt Stalled held = held ≡ []
HoldsNoneAt Cut held = Unit {0}
HoldsNoneAt Starved held = Unit {0}

-- the loads of each room, by whether the report names it as held
pub record IsPresent (o : Opening) (h : List Entry) (marks : List ℕ) (held : List ℕ) (outcome : Outcome) (memory : List BankState) : Type 0 where
  pub home : (room : ℕ) → room ≤ o.settings.shards → (Contains held room → ⊥)
      → StandsFor live_layout (sizes o) room (load_of memory room) (contents_now o h)
  pub out : (room : ℕ) → room ≤ o.settings.shards → Contains held room
      → StandsFor live_layout (sizes o) room (load_of memory room) (contents_now o h) ⊎ IsUnderWay o h marks room (load_of memory room)
  pub points : (thread : ℕ) → thread < o.settings.threads
      → (Contains held (thread_room (sizes o) thread) → ⊥)
      → (point_in live_layout (load_of memory (thread_room (sizes o) thread)) ≡ point_after o (take (covered marks) h) thread)
      ⊎ (point_in live_layout (load_of memory (thread_room (sizes o) thread)) ≡ point_after o h thread)
  pub ascending : AreAscending held
  pub few : length held ≤ o.settings.threads
  pub none : HoldsNoneAt outcome held

-- by the kind of life
abbrev IsPresentAs : Life → Opening → List Entry → List ℕ → List ℕ → Outcome → List BankState → Type 0
IsPresentAs Start o h marks held outcome memory = IsPresent o h marks held outcome memory
IsPresentAs Resume o h [] held outcome memory = held ≡ []
IsPresentAs Resume o h (m ∷ ms) held outcome memory = IsPresent o h (m ∷ ms) held outcome memory

-- the loads at the end of a life; in a resume without a mark the cut fell within recovery: no room is named, and no more is said of them
abbrev pub IsPresentOf : Opening → List Entry → List ℕ → List ℕ → Outcome → List BankState → Type 0
IsPresentOf o = IsPresentAs o.life o
