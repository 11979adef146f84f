-- Cells and the one epoch word of their memory: what they mean, what the last checkpoint has of them, and what a power cut leaves.
use Rattle.std.specs.Prelude.{◌≡◌, ℕ, ◌+◌, ◌^◌, ◌<◌, ◌==◌, Bool, true, false, List, [], ◌∷◌, length, map, slice_index, slice_index_or, slice_set, if◌then◌else◌}
use Rattle.std.specs.List.{range_with_len}
use Rattle.line_memory.specs.Line.{BankState, quiet_bank, unasked}
use Rattle.room_model.specs.declared.write.Write.{Write}
use Rattle.room_model.specs.Chains.{RoomWords}
use Rattle.room_model.specs.Banks.{memory_words}
use Rattle.room_model.specs.EpochLine.{memory_epoch}
use Rattle.room_model.specs.Image.{surviving_lines}
use Rattle.incll_var.specs.declared.state.CellState.TheVariants.{Torn, Running, Closing, Saved}
use Rattle.incll_var.specs.Cells.{CellBankState, AreSettled}
use Rattle.incll_var.specs.Plans.{PlanState}
use Rattle.planned_cells.specs.Planned.{PlannedState, ArePlannedCells, planned_words, memory_words_in}
use Rattle.epoch_word.specs.SuperLine.{IsSuperRoom, HoldsEpoch}
use Rattle.epoch_word.specs.Stages.{IsAtStage}
use Rattle.epoch_word.specs.declared.stage.EpochStage.TheVariants.{Before, Stored, AskedFor}
use Rattle.epoch_cells.specs.declared.stage.Stage.{Stage}
use Rattle.epoch_cells.specs.declared.stage.Stage.TheVariants.{Open, WritingBack, WrittenBack, Fenced, EpochStored, EpochAsked, Restoring}

-- cells, the stores that are left of what was begun, the super room, and which event comes next
pub record EpochCellsState : Type 0 where
  pub cells : CellBankState
  pub plan : PlanState
  pub epoch : BankState
  pub stage : Stage

-- these cells with their plan, this super room and this stage
abbrev pub state_of : PlannedState → BankState → Stage → EpochCellsState
state_of p epoch stage = record { cells = p.cells; plan = p.plan; epoch = epoch; stage = stage }

-- how many cells there are
abbrev pub cell_count : EpochCellsState → ℕ
cell_count s = length s.cells.bank.lines

-- the record of a line of a room
abbrev pub record_in : RoomWords → ℕ → List ℕ
record_in r line = r line 0 ∷ r line 1 ∷ r line 2 ∷ []

-- the records of the first so many lines of a room
abbrev pub records_in : RoomWords → ℕ → List (List ℕ)
records_in r n = map (record_in r) (range_with_len 0 n)

-- the records that the cells mean, behind all stores that are left
abbrev pub records : EpochCellsState → List (List ℕ)
records s = records_in (planned_words s.cells s.plan) (cell_count s)

-- the records that memory has at the epoch of the cells: those of the last checkpoint
abbrev pub saved_records : EpochCellsState → List (List ℕ)
saved_records s = records_in (memory_words_in s.cells) (cell_count s)

-- the records that two banks without a pending store recover to: those of the cells at the epoch of the super room's line
abbrev pub recovered_records : BankState → BankState → List (List ℕ)
recovered_records cells epoch = records_in (memory_words (memory_epoch epoch) cells) (length cells.lines)

-- a record by its number
abbrev pub record_at : List (List ℕ) → ℕ → List ℕ
record_at rs line = slice_index_or rs line []

-- these records after a write
abbrev pub after_write : List (List ℕ) → Write → List (List ℕ)
after_write rs x = slice_set rs x.line (slice_set (record_at rs x.line) x.word x.value)

-- these records after these writes, in order
abbrev pub after_writes : List (List ℕ) → List Write → List (List ℕ)
after_writes rs [] = rs
after_writes rs (x ∷ xs) = after_writes (after_write rs x) xs

-- a word of each of these records, as a list
abbrev pub column : ℕ → List (List ℕ) → List ℕ
column word rs = map (λ words. slice_index words word) rs

-- a column after these writes, in order: those of its word change it
abbrev pub column_after : ℕ → List ℕ → List Write → List ℕ
column_after word values [] = values
column_after word values (x ∷ xs) = column_after word (if x.word == word then slice_set values x.line x.value else values) xs

-- two banks can be recovered: nothing is pending, there is an epoch, and no cell's tag is above it
pub record CanRecover (cells epoch : BankState) : Type 0 where
  pub has_epoch : HoldsEpoch epoch
  pub settled : AreSettled (memory_epoch epoch) cells.lines

-- what a cut leaves of a bank where each line keeps as many of its pending stores as the choice says
abbrev pub left_of : (ℕ → ℕ) → BankState → BankState
left_of choice bank = quiet_bank (surviving_lines choice 0 bank.lines)

-- where the cells and the super room stand at each stage, in this epoch of memory
abbrev pub IsAt : Stage → ℕ → CellBankState → BankState → Type 0
IsAt Open e cells epoch = (cells.state ≡ Running e) × IsAtStage Before e epoch
IsAt WritingBack e cells epoch = (cells.state ≡ Closing e) × IsAtStage Before e epoch × (0 < unasked cells.bank.lines)
IsAt WrittenBack e cells epoch = (cells.state ≡ Closing e) × IsAtStage Before e epoch × (unasked cells.bank.lines ≡ 0)
IsAt Fenced e cells epoch = (cells.state ≡ Saved e) × IsAtStage Before e epoch
IsAt EpochStored e cells epoch = (cells.state ≡ Saved e) × IsAtStage Stored e epoch
IsAt EpochAsked e cells epoch = (cells.state ≡ Saved e) × IsAtStage AskedFor e epoch
IsAt Restoring e cells epoch = (cells.state ≡ Torn e) × IsAtStage Before e epoch

-- the cells and the super room are what they should be, and stand where they should at the stage, in one epoch
pub record AreEpochCells (s : EpochCellsState) : Type 0 where
  pub cells : ArePlannedCells s.cells s.plan
  pub epoch : IsSuperRoom s.epoch
  pub at : IsAt s.stage (memory_epoch s.epoch) s.cells s.epoch

-- the cells are open, and no store is left
pub record IsAtRest (s : EpochCellsState) : Type 0 where
  pub stage : s.stage ≡ Open
  pub none : s.plan.stores ≡ []

-- memory has had its last epoch: no checkpoint comes any more
pub record IsSpent (s : EpochCellsState) : Type 0 where
  pub fenced : s.stage ≡ Fenced
  pub last : memory_epoch s.epoch + 1 ≡ 2 ^ 32

-- whether the cells are open
abbrev pub is_open : Stage → Bool
is_open Open = true
is_open stage = false

-- whether the next event is the last of a checkpoint or of a recovery
abbrev pub is_last : Stage → Bool
is_last EpochAsked = true
is_last stage = false

-- whether a cut may leave the next epoch
abbrev pub is_epoch_pending : Stage → Bool
is_epoch_pending EpochStored = true
is_epoch_pending EpochAsked = true
is_epoch_pending stage = false

-- the records of the last checkpoint, once all events that are left of a checkpoint or of a recovery are made
abbrev pub settled_records : EpochCellsState → List (List ℕ)
settled_records s = if is_open s.stage then saved_records s else records s

-- how many events are left at a stage at the most, where so many stores, so many lines that are to be written back and so many events
-- of a restore are left
abbrev pub events_at : Stage → ℕ → ℕ → ℕ → ℕ
events_at Open stores lines events = stores
events_at WritingBack stores lines events = lines + 4
events_at WrittenBack stores lines events = 4
events_at Fenced stores lines events = 3
events_at EpochStored stores lines events = 2
events_at EpochAsked stores lines events = 1
events_at Restoring stores lines events = events + 4

-- how many events there are until the cells are at rest or spent, at the most
abbrev pub events_left : EpochCellsState → ℕ
events_left s = events_at s.stage (length s.plan.stores) (unasked s.cells.bank.lines) (length s.cells.todo)
