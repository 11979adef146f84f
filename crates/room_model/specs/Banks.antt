-- Readings of a bank of cells by line and word: by loads, as memory holds it at an epoch, and as a cut leaves it.
use Rattle.std.specs.Prelude.{ℕ, List, [], ◌∷◌, slice_index}
use Rattle.line_memory.specs.Line.{BankState, line_at, bank_load, survivor}
use Rattle.room_model.specs.Cell.{triple_of}
use Rattle.room_model.specs.Chains.{RoomWords}

-- the room that memory holds at an epoch: the triples of the base words
abbrev pub memory_words : ℕ → BankState → RoomWords
memory_words epoch bank = λ line w. slice_index (triple_of epoch (line_at bank.lines line).base) w

-- the room that a cut leaves at an epoch, where each line keeps as many of its pending stores as the choice says
abbrev pub surviving_words : ℕ → BankState → (ℕ → ℕ) → RoomWords
surviving_words epoch bank choice = λ line w. slice_index (triple_of epoch (survivor (line_at bank.lines line) (choice line))) w

-- the triple of a line by loads
abbrev pub loaded_triple : BankState → ℕ → List ℕ
loaded_triple bank line = bank_load bank line 0 ∷ bank_load bank line 1 ∷ bank_load bank line 2 ∷ []
