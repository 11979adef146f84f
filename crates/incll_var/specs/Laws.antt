-- Laws on cells, plans and restores.
use Rattle.std.specs.Prelude.{◌≡◌, ℕ, ◌+◌, ◌-◌, ◌^◌, ◌<◌, ◌≤◌, List, [], ◌∷◌, length, take, count_by, min}
use Rattle.line_memory.specs.Line.{LineState, BankState, line_at, bank_load, bank_stored}
use Rattle.room_model.specs.declared.write.PlannedStore.{PlannedStore}
use Rattle.room_model.specs.declared.write.Write.{Write}
use Rattle.room_model.specs.Chains.{RoomWords, with_word, HasSameRecords}
use Rattle.room_model.specs.Cell.{IsRecoverable}
use Rattle.room_model.specs.Writes.{stored_in, write_stores}
use Rattle.incll_var.specs.declared.state.CellState.TheVariants.{Torn, Saved}
use Rattle.incll_var.specs.Cells.{CellBankState, IsCellBank, epoch_of, AreRestored, IsSaved, after_next}
use Rattle.incll_var.specs.Plans.{IsPlanned, HasPlacesFor}
use Rattle.incll_var.specs.Restore.{bank_behind, events_at, is_ask, is_tagged}
use Rattle.room_model.specs.Banks.{memory_words, surviving_words}

-- a store changes one word of the room by loads
abbrev pub StoredLoadsLaw : Type 0
StoredLoadsLaw = (bank : BankState) (line word value : ℕ) → line < length bank.lines
    → bank_load (bank_stored bank line word value) ≡ with_word (bank_load bank) line word value

-- a store that is made changes nothing of the room behind all planned stores
abbrev pub StoredBehindLaw : Type 0
StoredBehindLaw = (bank : BankState) (s : PlannedStore) (ss : List PlannedStore) → s.line < length bank.lines
    → stored_in (bank_load (bank_stored bank s.line s.word s.value)) ss ≡ stored_in (bank_load bank) (s ∷ ss)

-- where nothing is planned, nothing is owed
abbrev pub NoPlanLaw : Type 0
NoPlanLaw = (epoch : ℕ) (lines : List LineState) → IsPlanned epoch lines [] × HasPlacesFor lines []

-- a bank of one line has room for a plan where the line has room for as many stores
abbrev pub OneLinePlacesLaw : Type 0
OneLinePlacesLaw = (lines : List LineState) (ss : List PlannedStore) → length lines ≡ 1 → length ss ≤ (line_at lines 0).spare → HasPlacesFor lines ss

-- a write has five stores at most
abbrev pub FiveStoresLaw : Type 0
FiveStoresLaw = (epoch : ℕ) (r : RoomWords) (before : List PlannedStore) (x : Write) → length (write_stores epoch r before x) ≤ 5

-- at the epoch of the state each survivor of each cell has the triple that memory holds, and a tag of at most the epoch
abbrev pub RecoverableLaw : Type 0
RecoverableLaw = (b : CellBankState) → IsCellBank b → (i : ℕ) → i < length b.bank.lines → IsRecoverable (epoch_of b.state) (line_at b.bank.lines i)

-- at the epoch of the state every cut leaves the room that memory holds
abbrev pub OneRoomLaw : Type 0
OneRoomLaw = (b : CellBankState) (choice : ℕ → ℕ) → IsCellBank b → surviving_words (epoch_of b.state) b.bank choice ≡ memory_words (epoch_of b.state) b.bank

-- cells that were saved are kept at every epoch from then on
abbrev pub SavedRecoverableLaw : Type 0
SavedRecoverableLaw = (b : CellBankState) (saved epoch : ℕ) → IsCellBank b → b.state ≡ Saved saved → saved ≤ epoch
    → (i : ℕ) → i < length b.bank.lines → IsRecoverable epoch (line_at b.bank.lines i)

-- at every later epoch every cut leaves of saved cells the room by loads
abbrev pub SavedRoomLaw : Type 0
SavedRoomLaw = (b : CellBankState) (saved epoch : ℕ) (choice : ℕ → ℕ) → IsCellBank b → b.state ≡ Saved saved → saved < epoch
    → HasSameRecords (surviving_words epoch b.bank choice) (bank_load b.bank)

-- nothing is pending on cells that are saved
abbrev pub SavedPendingLaw : Type 0
SavedPendingLaw = (b : CellBankState) → IsCellBank b → IsSaved b.state → (line : ℕ) → (line_at b.bank.lines line).pending ≡ []

-- no event of a restore changes the number of lines
abbrev pub RestoredCountLaw : Type 0
RestoredCountLaw = (b : CellBankState) → length (after_next b).bank.lines ≡ length b.bank.lines

-- wherever a restore is cut, and whatever the cut keeps, the room that it leaves at the epoch is the one that memory held
abbrev pub RestoringRoomLaw : Type 0
RestoringRoomLaw = (b : CellBankState) (epoch : ℕ) → IsCellBank b → b.state ≡ Torn epoch
    → (n : ℕ) (choice : ℕ → ℕ) → surviving_words epoch (bank_behind (take n b.todo) b.bank) choice ≡ memory_words epoch b.bank

-- behind the last event of a restore the cells are restored, and the room by loads is the one that memory held
abbrev pub RestoredRoomLaw : Type 0
RestoredRoomLaw = (b : CellBankState) (epoch : ℕ) → IsCellBank b → b.state ≡ Torn epoch
    → AreRestored epoch (bank_behind b.todo b.bank).lines × HasSameRecords (bank_load (bank_behind b.todo b.bank)) (memory_words epoch b.bank)

-- behind the last event of a restore every cut leaves this room at every later epoch, too
abbrev pub LaterRoomLaw : Type 0
LaterRoomLaw = (b : CellBankState) (epoch later : ℕ) (choice : ℕ → ℕ) → IsCellBank b → b.state ≡ Torn epoch → epoch < later
    → HasSameRecords (surviving_words later (bank_behind b.todo b.bank) choice) (memory_words epoch b.bank)

-- of the events of a restore at an epoch as many are write-backs as there are lines that are tagged with it
abbrev pub RestoreAsksLaw : Type 0
RestoreAsksLaw = (epoch : ℕ) (lines : List LineState) → count_by is_ask (events_at epoch lines) ≡ count_by (is_tagged epoch) lines

-- behind all events of a restore at an epoch the bank has so many write-backs more, in a count that stands still at its type's end
abbrev pub RestoreWriteBacksLaw : Type 0
RestoreWriteBacksLaw = (epoch : ℕ) (bank : BankState) → bank.write_backs < 2 ^ 64
    → (bank_behind (events_at epoch bank.lines) bank).write_backs ≡ min (bank.write_backs + count_by (is_tagged epoch) bank.lines) (2 ^ 64 - 1)
