-- What a cut leaves of cells in each of their states.
use Rattle.std.proofs.Common.{◌≡◌, ℕ, ◌<◌, ◌≤◌, ◌==◌, Bool, true, false, zero, suc, List, [], length, take, get_or, arith, refl, ap, sym, ◌∙◌, subst, inl, inr, if◌then◌else◌}
use Rattle.std.proofs.lemmas.List.{get_or_past}
use Rattle.std.proofs.lemmas.Bool.{cases_lt}
use Rattle.std.proofs.lemmas.Bool.Decides.{eqb_tells}
use Rattle.line_memory.specs.Line.{LineState, BankState, applied, survivor, loaded, latest, line_at, no_line, bank_load}
use Rattle.line_memory.specs.declared.store.Store.{Store}
use Rattle.room_model.specs.Cell.{tag_of, record_of, backup_of, triple_of, IsSafe, IsRecoverable}
use Rattle.incll_var.specs.declared.restore.RestoreEvent.{RestoreEvent}
use Rattle.incll_var.specs.declared.state.CellState.{CellState}
use Rattle.incll_var.specs.declared.state.CellState.TheVariants.{Torn, Running, Closing, Saved}
use Rattle.incll_var.specs.Restore.{IsQuietCell}
use Rattle.incll_var.specs.Cells.{CellBankState, IsCellIn, IsCellBank, IsTodo, IsStoredIn, IsSaved, MayEnter, epoch_of}
use Rattle.incll_var.specs.Laws.{RecoverableLaw, OneRoomLaw, SavedRecoverableLaw, SavedRoomLaw, SavedPendingLaw}
use Rattle.incll_var.specs.Stored.{AreStored}
use Rattle.incll_var.proofs.Stored.{none_stored}
use Rattle.incll_var.proofs.Behind.{same_function}
use Rattle.room_model.specs.Banks.{memory_words, surviving_words}
use Rattle.room_model.specs.Chains.{HasSameRecords}

-- of nothing, nothing is taken
pub nothing_taken : (k : ℕ) (ss : List Store) → ss ≡ [] → take k ss ≡ []
nothing_taken zero ss h = refl
nothing_taken (suc k) ss h = subst (λ (ts : List Store). take (suc k) ts ≡ []) (sym h) refl

-- where nothing is pending, what memory holds is all that a cut leaves
pub left_alone : (l : LineState) (k : ℕ) → l.pending ≡ [] → survivor l k ≡ l.base
left_alone l k none = ap (λ (ss : List Store). applied l.base ss) (nothing_taken k l.pending none)

-- a quiet cell is kept at its epoch and every later one
pub quiet_kept : (e m : ℕ) (l : LineState) → e ≤ m → IsQuietCell e l → IsRecoverable m l
quiet_kept e m l le quiet k = subst (λ (ws : List ℕ). IsSafe m (triple_of m l.base) ws) (sym (left_alone l k quiet.pending)) (record { eight = quiet.eight; tag = let tag = quiet.tag in omega (arith, tag); recovers = refl })

-- in each state a cell is kept at the epoch of the state
pub cell_kept : (state : CellState) (l : LineState) → IsCellIn state l → IsRecoverable (epoch_of state) l
cell_kept (Torn e) l h = h
cell_kept (Running e) l h = h.kept
cell_kept (Closing e) l h = h.kept
cell_kept (Saved e) l h = quiet_kept e e l (omega arith) h

pub kept_law : RecoverableLaw
kept_law b cells i lt = cell_kept b.state (line_at b.bank.lines i) (cells.cells i lt)

-- where there is no line, a cut leaves what memory holds
pub none_left : (lines : List LineState) (i k : ℕ) → length lines ≤ i → survivor (line_at lines i) k ≡ (line_at lines i).base
none_left lines i k ge = subst (λ (l : LineState). survivor l k ≡ l.base) (sym (get_or_past lines i no_line ge)) (ap (λ (ss : List Store). applied [] ss) (nothing_taken k [] refl))

-- kept cells leave one room
pub one_room_of : (e : ℕ) (bank : BankState) (choice : ℕ → ℕ) → ((i : ℕ) → i < length bank.lines → IsRecoverable e (line_at bank.lines i)) → surviving_words e bank choice ≡ memory_words e bank
one_room_of e bank choice kept = same_function (surviving_words e bank choice) (memory_words e bank) (λ i w. elim (cases_lt i (length bank.lines)) [
  | inl lt ↦ ap (λ (t : List ℕ). get_or t w 0) ((kept i lt (choice i)).recovers)
  | inr ge ↦ ap (λ (ws : List ℕ). get_or (triple_of e ws) w 0) (none_left bank.lines i (choice i) ge)
])

pub one_room : OneRoomLaw
one_room b choice cells = one_room_of (epoch_of b.state) b.bank choice (kept_law b cells)

-- a saved bank's cells are quiet
saved_quiet : (state : CellState) (saved : ℕ) (l : LineState) → state ≡ Saved saved → IsCellIn state l → IsQuietCell saved l
saved_quiet state saved l is h = subst (λ (s : CellState). IsCellIn s l) is h

pub saved_kept : SavedRecoverableLaw
saved_kept b saved epoch cells is le i lt = quiet_kept saved epoch (line_at b.bank.lines i) le (saved_quiet b.state saved (line_at b.bank.lines i) is (cells.cells i lt))

-- a word of a record
pub record_word : (ws : List ℕ) (w : ℕ) → w < 3 → get_or (record_of ws) w 0 ≡ get_or ws w 0
record_word ws zero lt = refl
record_word ws (suc zero) lt = refl
record_word ws (suc (suc zero)) lt = refl
record_word ws (suc (suc (suc w))) lt = absurd (omega arith)

-- where nothing is pending, a load gives what memory holds
pub loaded_alone : (l : LineState) (w : ℕ) → l.pending ≡ [] → loaded l w ≡ get_or l.base w 0
loaded_alone l w none = ap (λ (ss : List Store). latest (get_or l.base w 0) w ss) none

-- with another tag, the triple is the record
triple-other : (m : ℕ) (ws : List ℕ) → (tag_of ws == m) ≡ false → triple_of m ws ≡ record_of ws
triple-other m ws test = ap (λ (b : Bool). if b then backup_of ws else record_of ws) test

-- at a later epoch the triple of a quiet cell is its record
pub quiet_triple : (e m : ℕ) (l : LineState) → e < m → IsQuietCell e l → triple_of m l.base ≡ record_of l.base
quiet_triple e m l lt quiet = elim (eqb_tells (tag_of l.base) m) [
  | inl h ↦ let tag = quiet.tag in absurd (omega (arith, tag, h.1))
  | inr h ↦ triple-other m l.base h.0
]

-- the triple of no words has no word but 0
nothing_held : (m w : ℕ) → w < 3 → get_or (triple_of m []) w 0 ≡ 0
nothing_held m w lt = go (0 == m) ∙ zeros w lt
  where
    go : (b : Bool) → get_or (if b then backup_of [] else record_of []) w 0 ≡ get_or (record_of []) w 0
    go true = refl
    go false = refl

    zeros : (w : ℕ) → w < 3 → get_or (record_of []) w 0 ≡ 0
    zeros zero lt = refl
    zeros (suc zero) lt = refl
    zeros (suc (suc zero)) lt = refl
    zeros (suc (suc (suc w))) lt = absurd (omega arith)

-- where each cell's triple is its record and nothing is pending, the room that memory holds is the one by loads
pub loads_held : (m : ℕ) (bank : BankState) → ((i : ℕ) → i < length bank.lines → (triple_of m (line_at bank.lines i).base ≡ record_of (line_at bank.lines i).base) × ((line_at bank.lines i).pending ≡ []))
    → HasSameRecords (memory_words m bank) (bank_load bank)
loads_held m bank each i w lt = elim (cases_lt i (length bank.lines)) [
  | inl within ↦
      ap (λ (t : List ℕ). get_or t w 0) (each i within).0
      ∙ record_word (line_at bank.lines i).base w lt
      ∙ sym (loaded_alone (line_at bank.lines i) w (each i within).1)
  | inr ge ↦
      subst (λ (l : LineState). get_or (triple_of m l.base) w 0 ≡ loaded l w) (sym (get_or_past bank.lines i no_line ge)) (nothing_held m w lt ∙ sym (none w))
]
  where
    none : (w : ℕ) → loaded no_line w ≡ 0
    none zero = refl
    none (suc w) = refl

-- the loads of quiet cells are the room that memory holds at a later epoch
pub quiet_loads : (e m : ℕ) (bank : BankState) → e < m → ((i : ℕ) → i < length bank.lines → IsQuietCell e (line_at bank.lines i)) → HasSameRecords (memory_words m bank) (bank_load bank)
quiet_loads e m bank lt quiet = loads_held m bank (λ i within. (quiet_triple e m (line_at bank.lines i) lt (quiet i within), (quiet i within).pending))

pub saved_room : SavedRoomLaw
saved_room b saved epoch choice cells is lt i w three =
    let quiet : (j : ℕ) → j < length b.bank.lines → IsQuietCell saved (line_at b.bank.lines j) = λ j h. saved_quiet b.state saved (line_at b.bank.lines j) is (cells.cells j h) in
    let kept : (j : ℕ) → j < length b.bank.lines → IsRecoverable epoch (line_at b.bank.lines j) = λ j h. quiet_kept saved epoch (line_at b.bank.lines j) (omega arith) (quiet j h) in
    ap (λ (r : ℕ → ℕ → ℕ). r i w) (one_room_of epoch b.bank choice kept) ∙ quiet_loads saved epoch b.bank lt quiet i w three

-- entering: the cells are open, and what memory holds is what loads give
entered_cell : (state : CellState) (epoch : ℕ) (l : LineState) → MayEnter state epoch → IsCellIn state l → IsCellIn (Running epoch) l
entered_cell (Torn e) epoch l may h = absurd may
entered_cell (Running e) epoch l may h = subst (λ (m : ℕ). IsCellIn (Running m) l) may h
entered_cell (Closing e) epoch l may h = absurd may
entered_cell (Saved e) epoch l may h = record { kept = quiet_kept e epoch l (omega (arith, may)) h; asked = h.asked }

-- nothing is to be restored where an epoch may be entered
entered_todo : (state : CellState) (epoch : ℕ) (lines : List LineState) (todo : List RestoreEvent) → MayEnter state epoch → IsTodo state lines todo → todo ≡ []
entered_todo (Torn e) epoch lines todo may h = absurd may
entered_todo (Running e) epoch lines todo may h = h
entered_todo (Closing e) epoch lines todo may h = absurd may
entered_todo (Saved e) epoch lines todo may h = h

-- the lines that were stored to: none where a later epoch begins
entered_stored : (state : CellState) (epoch : ℕ) (lines : List LineState) (stored : List ℕ) → MayEnter state epoch → ((i : ℕ) → i < length lines → IsCellIn state (line_at lines i)) → IsStoredIn state lines stored
    → AreStored lines stored
entered_stored (Torn e) epoch lines stored may each h = absurd may
entered_stored (Running e) epoch lines stored may each h = h
entered_stored (Closing e) epoch lines stored may each h = absurd may
entered_stored (Saved e) epoch lines stored may each h = subst (AreStored lines) (sym h) (none_stored lines (λ i lt. (each i lt).pending))

pub enter_law : (b : CellBankState) (epoch : ℕ) → MayEnter b.state epoch → IsCellBank b → IsCellBank (record b { state = Running epoch })
enter_law b epoch may cells = record {
  lines = cells.lines;
  cells = λ i lt. entered_cell b.state epoch (line_at b.bank.lines i) may (cells.cells i lt);
  todo = entered_todo b.state epoch b.bank.lines b.todo may cells.todo;
  stored = entered_stored b.state epoch b.bank.lines b.stored may cells.cells cells.stored;
}

-- the triples at the epoch that begins
pub begins_law : (b : CellBankState) (epoch : ℕ) → MayEnter b.state epoch → IsCellBank b → IsSaved b.state → HasSameRecords (memory_words epoch b.bank) (bank_load b.bank)
begins_law b epoch may cells saved = go b.state may saved cells.cells
  where
    go : (state : CellState) → MayEnter state epoch → IsSaved state → ((i : ℕ) → i < length b.bank.lines → IsCellIn state (line_at b.bank.lines i)) → HasSameRecords (memory_words epoch b.bank) (bank_load b.bank)
    go (Torn e) may saved each = absurd saved
    go (Running e) may saved each = absurd saved
    go (Closing e) may saved each = absurd saved
    go (Saved e) may saved each = quiet_loads e epoch b.bank may each

pub saved_pending : SavedPendingLaw
saved_pending b cells saved line = go b.state saved cells.cells
  where
    go : (state : CellState) → IsSaved state → ((i : ℕ) → i < length b.bank.lines → IsCellIn state (line_at b.bank.lines i)) → (line_at b.bank.lines line).pending ≡ []
    go (Torn e) saved each = absurd saved
    go (Running e) saved each = absurd saved
    go (Closing e) saved each = absurd saved
    go (Saved e) saved each = elim (cases_lt line (length b.bank.lines)) [
      | inl lt ↦ (each line lt).pending
      | inr ge ↦ ap (λ (l : LineState). l.pending) (get_or_past b.bank.lines line no_line ge)
    ]
