-- Cells with a plan of the stores that are left of a command or write: what they mean, and what each call makes of them.
use Rattle.std.specs.Prelude.{◌≡◌, ◌<◌, List, [], length}
use Rattle.line_memory.specs.Line.{BankState, bank_load, bank_fenced}
use Rattle.room_model.specs.declared.write.PlannedStore.{PlannedStore}
use Rattle.room_model.specs.Banks.{memory_words}
use Rattle.room_model.specs.Chains.{RoomWords}
use Rattle.room_model.specs.Writes.{stored_in}
use Rattle.incll_var.specs.declared.state.CellState.{CellState}
use Rattle.incll_var.specs.declared.state.CellState.TheVariants.{Torn, Running, Closing, Saved}
use Rattle.incll_var.specs.Cells.{CellBankState, IsCellBank, IsRunning, IsTorn, epoch_of, played}
use Rattle.incll_var.specs.Plans.{PlanState, IsPlanned, HasPlacesFor, plan_behind}

-- cells, and the plan of the stores that are left
pub record PlannedState : Type 0 where
  pub cells : CellBankState
  pub plan : PlanState

-- the empty plan, without room
abbrev pub no_plan : PlanState
no_plan = record { stores = []; spare = 0 }

-- the words that cells mean where these stores are left to be made: behind the stores; of torn cells, what the restore brings back
abbrev pub words_in : CellState → BankState → List PlannedStore → RoomWords
words_in (Torn e) bank stores = memory_words e bank
words_in (Running e) bank stores = stored_in (bank_load bank) stores
words_in (Closing e) bank stores = stored_in (bank_load bank) stores
words_in (Saved e) bank stores = stored_in (bank_load bank) stores

-- the words that cells with a plan mean
abbrev pub planned_words : CellBankState → PlanState → RoomWords
planned_words cells plan = words_in cells.state cells.bank plan.stores

-- the words that memory holds of cells at their epoch: what is left of them wherever a cut comes
abbrev pub memory_words_in : CellBankState → RoomWords
memory_words_in cells = memory_words (epoch_of cells.state) cells.bank

-- no store is left to be made, and the cells are not torn: the loads are what the words mean
pub record IsAtRest (cells : CellBankState) (plan : PlanState) : Type 0 where
  pub left : plan.stores ≡ []
  pub whole : IsTorn cells.state → ⊥

-- cells with a plan: the stores that are left may be made one after the other, and there is room for them
pub record ArePlannedCells (cells : CellBankState) (plan : PlanState) : Type 0 where
  pub cells_are : IsCellBank cells
  pub planned : IsPlanned (epoch_of cells.state) cells.bank.lines plan.stores
  pub has_places : HasPlacesFor cells.bank.lines plan.stores
  pub running : 0 < length plan.stores → IsRunning cells.state

-- the cells with their pending stores in memory
abbrev pub saved_cells : CellBankState → CellBankState
saved_cells cells = record cells { bank = bank_fenced cells.bank; state = Saved (epoch_of cells.state); stored = [] }

-- the cells on another bank
abbrev pub with_bank : CellBankState → BankState → CellBankState
with_bank cells bank = record cells { bank = bank }

-- these cells in the place of others
abbrev pub with_cells : PlannedState → CellBankState → PlannedState
with_cells p cells = record p { cells = cells }

-- the cells behind the next store
abbrev pub stepped : PlannedState → PlannedState
stepped p = record { cells = played p.cells p.plan.stores; plan = plan_behind p.plan }
