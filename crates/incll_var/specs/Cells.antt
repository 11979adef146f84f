-- Banks of cells: their states, and what holds of every cell in each of them.
use Rattle.std.specs.Prelude.{◌≡◌, ℕ, ◌+◌, ◌<◌, ◌≤◌, ◌==◌, ◌⊎◌, true, List, [], ◌∷◌, length, if◌then◌else◌}
use Rattle.line_memory.specs.Line.{LineState, BankState, line_at, bank_stored, bank_written_back, is_unasked, HasSameWords, AreLines}
use Rattle.room_model.specs.declared.write.PlannedStore.{PlannedStore}
use Rattle.room_model.specs.Cell.{tag_of, IsRecoverable}
use Rattle.incll_var.specs.declared.state.CellState.{CellState}
use Rattle.incll_var.specs.declared.state.CellState.TheVariants.{Torn, Running, Closing, Saved}
use Rattle.incll_var.specs.declared.restore.RestoreEvent.{RestoreEvent}
use Rattle.flush_list.specs.Lists.{listed_behind}
use Rattle.incll_var.specs.Stored.{AreStored, AreFirstWritten, first_unasked}
use Rattle.incll_var.specs.Restore.{bank_after, IsQuietCell, IsRestored, IsRestoring}

-- a bank of cells, its state, the events of its restore that are left, and the lines that were stored to in this epoch, in the order of
-- their first stores
pub record CellBankState : Type 0 where
  pub bank : BankState
  pub state : CellState
  pub todo : List RestoreEvent
  pub stored : List ℕ

-- the epoch of a state
abbrev pub epoch_of : CellState → ℕ
epoch_of (Torn e) = e
epoch_of (Running e) = e
epoch_of (Closing e) = e
epoch_of (Saved e) = e

-- the cells are as a cut left them, or partly restored
abbrev pub IsTorn : CellState → Type 0
IsTorn (Torn e) = Unit {0}
IsTorn (Running e) = ⊥
IsTorn (Closing e) = ⊥
IsTorn (Saved e) = ⊥

-- the cells may be written to
abbrev pub IsRunning : CellState → Type 0
IsRunning (Torn e) = ⊥
IsRunning (Running e) = Unit {0}
IsRunning (Closing e) = ⊥
IsRunning (Saved e) = ⊥

-- the cells are being closed
abbrev pub IsClosing : CellState → Type 0
IsClosing (Torn e) = ⊥
IsClosing (Running e) = ⊥
IsClosing (Closing e) = Unit {0}
IsClosing (Saved e) = ⊥

-- nothing is pending on the cells
abbrev pub IsSaved : CellState → Type 0
IsSaved (Torn e) = ⊥
IsSaved (Running e) = ⊥
IsSaved (Closing e) = ⊥
IsSaved (Saved e) = Unit {0}

-- the epoch may be entered: a later one than was saved, or the one that runs
abbrev pub MayEnter : CellState → ℕ → Type 0
MayEnter (Torn e) epoch = ⊥
MayEnter (Running e) epoch = e ≡ epoch
MayEnter (Closing e) epoch = ⊥
MayEnter (Saved e) epoch = e < epoch

-- a closing may begin
abbrev pub MayClose : CellState → Type 0
MayClose (Torn e) = ⊥
MayClose (Running e) = Unit {0}
MayClose (Closing e) = ⊥
MayClose (Saved e) = Unit {0}

-- a restore may go on
abbrev pub MayRestore : CellState → Type 0
MayRestore (Torn e) = Unit {0}
MayRestore (Running e) = ⊥
MayRestore (Closing e) = ⊥
MayRestore (Saved e) = Unit {0}

-- a cell that is written to: every survivor has the triple that memory holds, and no store was asked for
pub record IsOpenCell (epoch : ℕ) (l : LineState) : Type 0 where
  pub kept : IsRecoverable epoch l
  pub asked : l.asked ≡ 0

-- a cell that is being closed: every survivor has the triple that memory holds, and all stores were asked for, or none
pub record IsClosingCell (epoch : ℕ) (l : LineState) : Type 0 where
  pub kept : IsRecoverable epoch l
  pub asked : (l.asked ≡ 0) ⊎ (l.asked ≡ length l.pending)

-- what holds of every cell in a state
abbrev pub IsCellIn : CellState → LineState → Type 0
IsCellIn (Torn e) l = IsRecoverable e l
IsCellIn (Running e) l = IsOpenCell e l
IsCellIn (Closing e) l = IsClosingCell e l
IsCellIn (Saved e) l = IsQuietCell e l

-- the events that are left can be done one after the other, and restore the cells; in no other state is one left
abbrev pub IsTodo : CellState → List LineState → List RestoreEvent → Type 0
IsTodo (Torn e) lines todo = IsRestoring e lines todo
IsTodo (Running e) lines todo = todo ≡ []
IsTodo (Closing e) lines todo = todo ≡ []
IsTodo (Saved e) lines todo = todo ≡ []

-- while the cells run, the lines that were stored to are those with something pending; in a closing the first of them are written back;
-- in no other state was one stored to
abbrev pub IsStoredIn : CellState → List LineState → List ℕ → Type 0
IsStoredIn (Torn e) lines stored = stored ≡ []
IsStoredIn (Running e) lines stored = AreStored lines stored
IsStoredIn (Closing e) lines stored = AreStored lines stored × AreFirstWritten lines stored
IsStoredIn (Saved e) lines stored = stored ≡ []

-- a bank of cells in its state
pub record IsCellBank (b : CellBankState) : Type 0 where
  pub lines : AreLines b.bank.lines
  pub cells : (i : ℕ) → i < length b.bank.lines → IsCellIn b.state (line_at b.bank.lines i)
  pub todo : IsTodo b.state b.bank.lines b.todo
  pub stored : IsStoredIn b.state b.bank.lines b.stored

-- a bank of cells that is not in a restore
abbrev pub cells_in : CellState → BankState → CellBankState
cells_in state bank = record { bank = bank; state = state; todo = []; stored = [] }

-- these cells in another state
abbrev pub with_state : CellBankState → CellState → CellBankState
with_state b state = record b { state = state }

-- nothing is pending on the line, and its tag is at most the epoch
pub record IsSettled (epoch : ℕ) (l : LineState) : Type 0 where
  pub pending : l.pending ≡ []
  pub tag : tag_of l.base ≤ epoch

-- each of these lines is settled
abbrev pub AreSettled : ℕ → List LineState → Type 0
AreSettled epoch lines = (i : ℕ) → i < length lines → IsSettled epoch (line_at lines i)

-- each of these cells is restored
abbrev pub AreRestored : ℕ → List LineState → Type 0
AreRestored epoch lines = (i : ℕ) → i < length lines → IsRestored epoch (line_at lines i)

-- the cells behind the first of these stores, whose line joins those that were stored to where it is not one of them
abbrev pub played : CellBankState → List PlannedStore → CellBankState
played b [] = b
played b (s ∷ ss) = record b { bank = bank_stored b.bank s.line s.word s.value; stored = listed_behind b.stored s.line }

-- the state behind the begin of a closing, where so many lines were stored to
abbrev pub closing_state : ℕ → CellState → CellState
closing_state n (Torn e) = Torn e
closing_state n (Running e) = if n == 0 then Saved e else Closing e
closing_state n (Closing e) = Closing e
closing_state n (Saved e) = Saved e

-- one line that was stored to and not yet written back is written back, and nothing else changes
pub record WritesOneBack (old new : BankState) : Type 0 where
  pub line : ℕ
  pub within : line < length old.lines
  pub unasked : is_unasked (line_at old.lines line) ≡ true
  pub is : new ≡ bank_written_back old line

-- of the lines that were stored to, the one that a closing writes back next: the first that is not yet written back
abbrev pub next_in : CellBankState → ℕ
next_in b = first_unasked b.bank.lines b.stored

-- the stores that a line has pending and those that it has room for, together
abbrev pub places_of : LineState → ℕ
places_of l = length l.pending + l.spare

-- each line has as much room as before
abbrev pub KeepsPlaces : BankState → BankState → Type 0
KeepsPlaces old new = (i : ℕ) → places_of (line_at new.lines i) ≡ places_of (line_at old.lines i)

-- nothing but the room for stores has changed, and no line has less of it
pub record HasSameCells (old new : BankState) : Type 0 where
  pub write_backs : new.write_backs ≡ old.write_backs
  pub count : length new.lines ≡ length old.lines
  pub lines : (i : ℕ) → HasSameWords (line_at old.lines i) (line_at new.lines i)

-- the cells behind the next event of their restore; where none is left they are saved
abbrev pub restored_on : CellState → BankState → List RestoreEvent → CellBankState
restored_on state bank [] = record { bank = bank; state = Saved (epoch_of state); todo = []; stored = [] }
restored_on state bank (event ∷ events) = record { bank = bank_after event bank; state = state; todo = events; stored = [] }

-- the cells behind the next event of their restore
abbrev pub after_next : CellBankState → CellBankState
after_next b = restored_on b.state b.bank b.todo

-- saved in such an epoch
abbrev pub IsSavedIn : (ℕ → Type 0) → CellState → Type 0
IsSavedIn P (Torn c) = ⊥
IsSavedIn P (Running c) = ⊥
IsSavedIn P (Closing c) = ⊥
IsSavedIn P (Saved c) = P c
