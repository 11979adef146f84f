-- Images: what a power cut leaves of a memory, which images are lawful, and the state that a lawful image recovers to.
use Rattle.std.specs.Prelude.{◌≡◌, ℕ, suc, ◌^◌, ◌<◌, ◌≤◌, List, [], ◌∷◌, length, slice_index, slice_index_or}
use Rattle.line_memory.specs.Line.{LineState, BankState, bank_at, line_of, survivor}
use Rattle.seq_object.specs.Sizes.{AreValid, thread_room, super_room, room_count, line_count}
use Rattle.seq_object.specs.History.{State, point_at}
use Rattle.room_model.specs.Cell.{tag_of, triple_of, IsRecoverable}
use Rattle.room_model.specs.Chains.{RoomWords}
use Rattle.room_model.specs.MapRoom.{Layout}
use Rattle.room_model.specs.Rooms.{StandsFor, point_in}
use Rattle.room_model.specs.Formatted.{formatted_word}
use Rattle.room_model.specs.Banks.{memory_words}
use Rattle.seq_object.specs.declared.sizes.Sizes.{Sizes}

-- an image: rooms of lines of words
abbrev pub ImageRooms : Type 0
ImageRooms = List (List (List ℕ))

-- a choice of a power cut: how many of its pending stores each line keeps, by room and line; a number beyond them keeps all
abbrev pub KeptCounts : Type 0
KeptCounts = ℕ → ℕ → ℕ

-- what a choice leaves of these lines, the first of them line i
abbrev pub surviving_lines : (ℕ → ℕ) → ℕ → List LineState → List (List ℕ)
surviving_lines choice i [] = []
surviving_lines choice i (l ∷ ls) = survivor l (choice i) ∷ surviving_lines choice (suc i) ls

-- what a choice leaves of these banks, the first of them of this room
abbrev pub surviving_rooms : KeptCounts → ℕ → List BankState → ImageRooms
surviving_rooms choice room [] = []
surviving_rooms choice room (b ∷ bs) = surviving_lines (choice room) 0 b.lines ∷ surviving_rooms choice (suc room) bs

-- the image that a choice leaves of a memory
abbrev pub image_of : List BankState → KeptCounts → ImageRooms
image_of memory choice = surviving_rooms choice 0 memory

-- the choice that keeps no pending store
abbrev pub nothing_kept : KeptCounts
nothing_kept = λ room line. 0

-- the lines of a room of an image
abbrev pub lines_at : ImageRooms → ℕ → List (List ℕ)
lines_at image room = slice_index_or image room []

-- the words of a line of an image
abbrev pub words_at : ImageRooms → ℕ → ℕ → List ℕ
words_at image room line = slice_index_or (lines_at image room) line []

-- the epoch of an image: word 0 of the super room's line
abbrev pub epoch_at : Sizes → ImageRooms → ℕ
epoch_at z image = slice_index (words_at image (super_room z) 0) 0

-- lines of a room, as their cells recover at an epoch
abbrev pub triples_at : ℕ → List (List ℕ) → RoomWords
triples_at epoch lines = λ line w. slice_index (triple_of epoch (slice_index_or lines line [])) w

-- a room of an image, as its cells are recovered at the image's epoch
abbrev pub recovered_room : Sizes → ImageRooms → ℕ → RoomWords
recovered_room z image room = triples_at (epoch_at z image) (lines_at image room)

-- an image has the rooms of its sizes, each room its lines, each line eight words
pub record HasShape (z : Sizes) (image : ImageRooms) : Type 0 where
  pub rooms : length image ≡ room_count z
  pub lines : (room : ℕ) → room < room_count z → length (lines_at image room) ≡ line_count z room
  pub words : (room line : ℕ) → room < room_count z → line < line_count z room → length (words_at image room line) ≡ 8

-- a memory has the rooms of its sizes, and each room its lines
pub record HasRooms (z : Sizes) (memory : List BankState) : Type 0 where
  pub rooms : length memory ≡ room_count z
  pub lines : (room : ℕ) → room < room_count z → length (bank_at memory room).lines ≡ line_count z room

-- an image is lawful, and recovers to a state
pub record Recovers (layout : Layout) (z : Sizes) (image : ImageRooms) (state : State) : Type 0 where
  pub valid : AreValid z
  pub shape : HasShape z image
  pub epoch : 1 ≤ epoch_at z image
  pub epoch_fits : epoch_at z image < 2 ^ 32
  pub tags : (room line : ℕ) → room < super_room z → line < line_count z room → tag_of (words_at image room line) ≤ epoch_at z image
  pub rooms : (room : ℕ) → room ≤ z.shards → StandsFor layout z room (recovered_room z image room) state.contents
  pub threads : length state.points ≡ z.threads
  pub points : (thread : ℕ) → thread < z.threads → point_at state.points thread ≡ point_in layout (recovered_room z image (thread_room z thread))

-- an image is lawful where it recovers to some state
abbrev pub IsLawful : Layout → Sizes → ImageRooms → Type 0
IsLawful layout z image = (state : State) × Recovers layout z image state

-- an image is as formatted
pub record IsFormatted (layout : Layout) (z : Sizes) (image : ImageRooms) : Type 0 where
  pub shape : HasShape z image
  pub words : (room line w : ℕ) → room < room_count z → line < line_count z room → w < 8
      → slice_index (words_at image room line) w ≡ formatted_word layout z room line w

-- the cells of a memory stand at an epoch for a state: whichever of its pending stores a cell keeps, its tag is at most the epoch and
-- its triple there is the one that memory holds; and these triples stand for the state
pub record StandsAt (layout : Layout) (z : Sizes) (epoch : ℕ) (memory : List BankState) (state : State) : Type 0 where
  pub valid : AreValid z
  pub some : 1 ≤ epoch
  pub fits : epoch < 2 ^ 32
  pub rooms : HasRooms z memory
  pub super_words : (kept : ℕ) → length (survivor (line_of memory (super_room z) 0) kept) ≡ 8
  pub cells : (room line : ℕ) → room < super_room z → line < line_count z room → IsRecoverable epoch (line_of memory room line)
  pub stands : (room : ℕ) → room ≤ z.shards → StandsFor layout z room (memory_words epoch (bank_at memory room)) state.contents
  pub threads : length state.points ≡ z.threads
  pub points : (thread : ℕ) → thread < z.threads → point_at state.points thread ≡ point_in layout (memory_words epoch (bank_at memory (thread_room z thread)))
