-- The super room's line: word 0 is the epoch.
use Rattle.std.specs.Prelude.{ℕ, slice_index}
use Rattle.line_memory.specs.Line.{LineState, BankState, line_at, loaded, survivor}

-- the line of the super room
abbrev pub epoch_line : BankState → LineState
epoch_line bank = line_at bank.lines 0

-- the epoch by load
abbrev pub loaded_epoch : BankState → ℕ
loaded_epoch bank = loaded (epoch_line bank) 0

-- the epoch that memory holds
abbrev pub memory_epoch : BankState → ℕ
memory_epoch bank = slice_index (epoch_line bank).base 0

-- the epoch that a cut leaves where the line keeps so many of its pending stores
abbrev pub surviving_epoch : BankState → ℕ → ℕ
surviving_epoch bank kept = slice_index (survivor (epoch_line bank) kept) 0
