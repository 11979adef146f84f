-- Restoring: what memory holds of the epoch that a cut broke off is put back from the backups. A restore is a list of events, each of
-- which names a place and no value.
use Rattle.std.specs.Prelude.{◌≡◌, ℕ, ◌<◌, ◌≤◌, ◌+◌, ◌==◌, Bool, true, false, List, [], ◌∷◌, ◌++◌, length, map, if◌then◌else◌, slice_set}
use Rattle.line_memory.specs.Line.{LineState, BankState, line_at, loaded, stored, written_back, fenced, counted}
use Rattle.room_model.specs.Cell.{tag_of, record_of, triple_of, IsRecoverable}
use Rattle.incll_var.specs.declared.restore.RestoreEvent.{RestoreEvent}
use Rattle.incll_var.specs.declared.restore.RestoreEvent.TheVariants.{Restores, Asks, Fences}
use Rattle.incll_var.specs.declared.restore.RestoreStep.{RestoreStep}
use Rattle.incll_var.specs.declared.restore.RestoreStep.TheVariants.{Stored, Wrote, Fenced, Finished}

-- P holds of each element
abbrev pub Each : {X : Type 0} → (X → Type 0) → List X → Type 0
Each P [] = Unit {0}
Each P (x ∷ xs) = P x × Each P xs

-- the lines that are tagged with the epoch, ascending, where the first of these lines has this number
abbrev pub tagged_from : ℕ → ℕ → List LineState → List ℕ
tagged_from epoch i [] = []
tagged_from epoch i (l ∷ ls) = if tag_of l.base == epoch then i ∷ tagged_from epoch (i + 1) ls else tagged_from epoch (i + 1) ls

-- three events for each of these lines: each word of its record gets its backup
abbrev pub restores : List ℕ → List RestoreEvent
restores [] = []
restores (i ∷ is) = Restores i 0 ∷ Restores i 1 ∷ Restores i 2 ∷ restores is

-- one event for each of these lines: it is written back
abbrev pub asks : List ℕ → List RestoreEvent
asks [] = []
asks (i ∷ is) = Asks i ∷ asks is

-- the events of a restore of these lines: none where there is none of them
abbrev pub restore_events : List ℕ → List RestoreEvent
restore_events [] = []
restore_events (i ∷ is) = restores (i ∷ is) ++ (asks (i ∷ is) ++ Fences ∷ [])

-- the events of a restore at an epoch
abbrev pub events_at : ℕ → List LineState → List RestoreEvent
events_at epoch lines = restore_events (tagged_from epoch 0 lines)

-- whether the line is tagged with the epoch
abbrev pub is_tagged : ℕ → LineState → Bool
is_tagged epoch l = tag_of l.base == epoch

-- whether an event is a write-back
abbrev pub is_ask : RestoreEvent → Bool
is_ask (Restores i w) = false
is_ask (Asks i) = true
is_ask Fences = false

-- the lines behind an event
abbrev pub lines_after : RestoreEvent → List LineState → List LineState
lines_after (Restores i w) lines = slice_set lines i (stored (line_at lines i) w (loaded (line_at lines i) (w + 3)))
lines_after (Asks i) lines = slice_set lines i (written_back (line_at lines i))
lines_after Fences lines = map fenced lines

-- the count of write-backs behind an event
abbrev pub write_backs_after : RestoreEvent → ℕ → ℕ
write_backs_after (Restores i w) n = n
write_backs_after (Asks i) n = counted n
write_backs_after Fences n = n

-- the bank behind an event
abbrev pub bank_after : RestoreEvent → BankState → BankState
bank_after event bank = record { lines = lines_after event bank.lines; write_backs = write_backs_after event bank.write_backs }

-- the bank behind these events, one after the other
abbrev pub bank_behind : List RestoreEvent → BankState → BankState
bank_behind [] bank = bank
bank_behind (event ∷ events) bank = bank_behind events (bank_after event bank)

-- what an event is answered by
abbrev pub step_of : RestoreEvent → RestoreStep
step_of (Restores i w) = Stored
step_of (Asks i) = Wrote
step_of Fences = Fenced

-- the answer of the next event; where none is left the restore is finished
abbrev pub next_step : List RestoreEvent → RestoreStep
next_step [] = Finished
next_step (event ∷ events) = step_of event

-- the event can be done
abbrev pub CanDo : RestoreEvent → List LineState → Type 0
CanDo (Restores i w) lines = (i < length lines) × (w < 3) × (0 < (line_at lines i).spare)
CanDo (Asks i) lines = i < length lines
CanDo Fences lines = Unit {0}

-- a cell on which nothing is pending, with a tag of at most the epoch
pub record IsQuietCell (epoch : ℕ) (l : LineState) : Type 0 where
  pub eight : length l.base ≡ 8
  pub tag : tag_of l.base ≤ epoch
  pub pending : l.pending ≡ []
  pub asked : l.asked ≡ 0

-- a cell that is restored: nothing is pending, and its record is its triple at the epoch
pub record IsRestored (epoch : ℕ) (l : LineState) : Type 0 where
  pub quiet : IsQuietCell epoch l
  pub triple : record_of l.base ≡ triple_of epoch l.base

-- the triples at an epoch of what memory holds of these lines
abbrev pub triples : ℕ → List LineState → List (List ℕ)
triples epoch lines = map (λ l. triple_of epoch l.base) lines

-- each of these events can be done in its turn; before each of them every survivor has the triple that memory holds, which stays the
-- same; at the end the cells are restored
abbrev pub IsRestoring : ℕ → List LineState → List RestoreEvent → Type 0
IsRestoring epoch lines [] = Each (IsRestored epoch) lines
IsRestoring epoch lines (event ∷ events) =
    Each (IsRecoverable epoch) lines × CanDo event lines × (triples epoch (lines_after event lines) ≡ triples epoch lines) × IsRestoring epoch (lines_after event lines) events

-- each line that is tagged with the epoch has room for the three stores of its restore
abbrev pub HaveRoomToRestore : ℕ → List LineState → Type 0
HaveRoomToRestore epoch lines = (i : ℕ) → i < length lines → tag_of (line_at lines i).base ≡ epoch → 3 ≤ (line_at lines i).spare
