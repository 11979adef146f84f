-- The laws of images: what a power cut leaves of a memory, and the state that it recovers to.
use Rattle.std.specs.Prelude.{◌≡◌, ℕ, ◌+◌, ◌^◌, ◌<◌, ◌≤◌, List, [], length}
use Rattle.seq_object.specs.Sizes.{AreValid, thread_room, super_room}
use Rattle.seq_object.specs.Object.{Contents, part_of}
use Rattle.seq_object.specs.History.{of_room, contents_at, State, first_state, point_at}
use Rattle.seq_object.specs.declared.history.Entry.{Entry}
use Rattle.line_memory.specs.Line.{BankState, bank_at, line_of, load_of, survivor, IsQuiet}
use Rattle.room_model.specs.Chains.{RoomWords}
use Rattle.room_model.specs.MapRoom.{Layout, IsLayout}
use Rattle.room_model.specs.Rooms.{StandsFor, point_in}
use Rattle.room_model.specs.Image.{ImageRooms, KeptCounts, image_of, nothing_kept, lines_at, words_at, epoch_at, Recovers, IsFormatted, StandsAt}
use Rattle.seq_object.specs.declared.sizes.Sizes.{Sizes}

-- an image has the rooms and lines of its memory
pub record HasShapeOf (memory : List BankState) (image : ImageRooms) : Type 0 where
  pub rooms : length image ≡ length memory
  pub lines : (room : ℕ) → length (lines_at image room) ≡ length (bank_at memory room).lines

-- an image has the rooms and lines of its memory, and each line is what the choice leaves of it
abbrev pub LinesLeftLaw : Type 0
LinesLeftLaw = (memory : List BankState) (choice : KeptCounts) → HasShapeOf memory (image_of memory choice)
    × ((room line : ℕ) → words_at (image_of memory choice) room line ≡ survivor (line_of memory room line) (choice room line))

-- choices that keep the same of each line leave one image
abbrev pub SameChoiceLaw : Type 0
SameChoiceLaw = (memory : List BankState) (choice other : KeptCounts)
    → ((room line : ℕ) → survivor (line_of memory room line) (choice room line) ≡ survivor (line_of memory room line) (other room line))
    → image_of memory choice ≡ image_of memory other

-- an image recovers to one state
abbrev pub OneStateLaw : Type 0
OneStateLaw = (layout : Layout) (z : Sizes) (image : ImageRooms) (s t : State) → Recovers layout z image s → Recovers layout z image t → s ≡ t

-- where nothing is pending every choice leaves one image
abbrev pub QuietLaw : Type 0
QuietLaw = (memory : List BankState) → IsQuiet memory → (choice : KeptCounts) → image_of memory choice ≡ image_of memory nothing_kept

-- whatever a choice leaves of a memory that stands at an epoch for a state recovers to that state, if the epoch is left
abbrev pub StandsLaw : Type 0
StandsLaw = (layout : Layout) (z : Sizes) (epoch : ℕ) (memory : List BankState) (state : State) → StandsAt layout z epoch memory state
    → (choice : KeptCounts) → epoch_at z (image_of memory choice) ≡ epoch → Recovers layout z (image_of memory choice) state

-- cells that stand at an epoch and have nothing pending stand at the next one for what their loads say
abbrev pub NextEpochLaw : Type 0
NextEpochLaw = (layout : Layout) (z : Sizes) (epoch : ℕ) (memory : List BankState) (old new : State) → IsLayout layout
    → StandsAt layout z epoch memory old → epoch + 1 < 2 ^ 32
    → ((room line : ℕ) → room < super_room z → (line_of memory room line).pending ≡ [])
    → ((room : ℕ) → room ≤ z.shards → StandsFor layout z room (load_of memory room) new.contents)
    → length new.points ≡ z.threads
    → ((thread : ℕ) → thread < z.threads → point_at new.points thread ≡ point_in layout (load_of memory (thread_room z thread)))
    → StandsAt layout z (epoch + 1) memory new

-- a room that stands for what its own entries leave of its part stands for its part of what the whole history leaves
abbrev pub RoomStandsLaw : Type 0
RoomStandsLaw = (layout : Layout) (z : Sizes) (c : Contents) (h : List Entry) (room : ℕ) (r : RoomWords) → 0 < z.shards
    → StandsFor layout z room r (contents_at z (part_of z room c) (of_room z room h)) → StandsFor layout z room r (contents_at z c h)

-- a formatted image recovers to the first state, and its epoch is 1
abbrev pub FormattedRecoversLaw : Type 0
FormattedRecoversLaw = (layout : Layout) (z : Sizes) (image : ImageRooms) → IsLayout layout → layout.first ≤ z.lines → AreValid z
    → IsFormatted layout z image → (epoch_at z image ≡ 1) × Recovers layout z image (first_state z)
