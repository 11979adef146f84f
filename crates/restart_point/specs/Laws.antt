-- Laws on the arrival word and on thread rooms.
use Rattle.std.specs.Prelude.{◌≡◌, ℕ, ◌<◌}
use Rattle.line_memory.specs.Line.{bank_load}
use Rattle.incll_var.specs.declared.state.CellState.TheVariants.{Running, Saved}
use Rattle.incll_var.specs.Cells.{IsSaved, MayEnter, epoch_of, with_state}
use Rattle.restart_point.specs.declared.arrival.Arrival.{Arrival}
use Rattle.restart_point.specs.ArrivalWord.{arrival_of, word_of, FitsItsWord, HasNoOtherBits}
use Rattle.restart_point.specs.Rooms.{ThreadRoomState, IsThreadRoom, IsUnwritten, with_cells}
use Rattle.room_model.specs.Banks.{memory_words, surviving_words}
use Rattle.room_model.specs.Chains.{HasSameRecords}

-- a word says what it was made of
abbrev pub SaidLaw : Type 0
SaidLaw = (a : Arrival) → FitsItsWord a → arrival_of (word_of a) ≡ a

-- a word without other bits is made of what it says
abbrev pub MadeLaw : Type 0
MadeLaw = (word : ℕ) → HasNoOtherBits word → word_of (arrival_of word) ≡ word

-- words that are made have no other bits
abbrev pub NoOtherBitsLaw : Type 0
NoOtherBitsLaw = (a : Arrival) → FitsItsWord a → HasNoOtherBits (word_of a)

-- at the epoch of the state every cut leaves what memory holds of the room
abbrev pub ThreadKeptLaw : Type 0
ThreadKeptLaw = (room : ThreadRoomState) (choice : ℕ → ℕ) → IsThreadRoom room
    → surviving_words (epoch_of room.cells.state) room.cells.bank choice ≡ memory_words (epoch_of room.cells.state) room.cells.bank

-- at every later epoch every cut leaves the loads of a room that was saved
abbrev pub ThreadSavedLaw : Type 0
ThreadSavedLaw = (room : ThreadRoomState) (saved epoch : ℕ) (choice : ℕ → ℕ) → IsThreadRoom room → room.cells.state ≡ Saved saved → saved < epoch
    → HasSameRecords (surviving_words epoch room.cells.bank choice) (bank_load room.cells.bank)

-- in a later epoch that is entered, the position of a room that was saved is not yet written
abbrev pub UnwrittenLaw : Type 0
UnwrittenLaw = (room : ThreadRoomState) (epoch : ℕ) → IsThreadRoom room → IsSaved room.cells.state → MayEnter room.cells.state epoch → IsUnwritten (with_cells room (with_state room.cells (Running epoch)))
