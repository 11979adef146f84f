-- Behind the first events of a restore, and behind the last.
use Rattle.std.proofs.Common.{◌≡◌, ℕ, ◌<◌, zero, suc, List, [], ◌∷◌, take, length, arith, refl, ap, sym, ◌∙◌, subst}
use Rattle.std.proofs.Math.Seq.{take-length}
use Rattle.line_memory.specs.Line.{BankState, line_at, no_line, bank_load}
use Rattle.room_model.specs.Cell.{IsRecoverable}
use Rattle.incll_var.specs.declared.restore.RestoreEvent.{RestoreEvent}
use Rattle.incll_var.specs.declared.state.CellState.{CellState}
use Rattle.incll_var.specs.declared.state.CellState.TheVariants.{Torn}
use Rattle.incll_var.specs.Restore.{Each, IsQuietCell, IsRestored, IsRestoring, bank_after, bank_behind, triples}
use Rattle.incll_var.specs.Cells.{CellBankState, IsCellBank, IsTodo, AreRestored, restored_on}
use Rattle.incll_var.specs.Laws.{RestoringRoomLaw, RestoredRoomLaw, LaterRoomLaw, RestoredCountLaw}
use Rattle.incll_var.proofs.Survivors.{one_room_of, loads_held, quiet_kept, quiet_loads}
use Rattle.incll_var.proofs.Restores.{event_count, each_at, restoring_kept, triples_held}
use Rattle.room_model.specs.Banks.{memory_words}
use Rattle.room_model.specs.Chains.{HasSameRecords}

-- what holds of a restore that has come so far
record HasCome (m : ℕ) (given now : BankState) : Type 0 where
  kept : Each (IsRecoverable m) now.lines
  triples : triples m now.lines ≡ triples m given.lines

-- behind the first n events
come_so_far : (m : ℕ) (bank : BankState) (events : List RestoreEvent) (n : ℕ) → IsRestoring m bank.lines events → HasCome m bank (bank_behind (take n events) bank)
come_so_far m bank [] zero h = record { kept = restoring_kept m bank.lines [] h; triples = refl }
come_so_far m bank [] (suc n) h = record { kept = restoring_kept m bank.lines [] h; triples = refl }
come_so_far m bank (event ∷ events) zero h = record { kept = h.0; triples = refl }
come_so_far m bank (event ∷ events) (suc n) h =
    let next = come_so_far m (bank_after event bank) events n h.3 in
    record { kept = next.kept; triples = next.triples ∙ h.2 }

-- behind the last
restored_behind : (m : ℕ) (bank : BankState) (events : List RestoreEvent) → IsRestoring m bank.lines events → Each (IsRestored m) (bank_behind events bank).lines
restored_behind m bank [] h = h
restored_behind m bank (event ∷ events) h = restored_behind m (bank_after event bank) events h.3

-- a torn bank is being restored
torn_todo : (b : CellBankState) (m : ℕ) → b.state ≡ Torn m → IsCellBank b → IsRestoring m b.bank.lines b.todo
torn_todo b m torn cells = subst (λ (state : CellState). IsTodo state b.bank.lines b.todo) torn cells.todo

pub restoring_room : RestoringRoomLaw
restoring_room b m cells torn n choice =
    let come = come_so_far m b.bank b.todo n (torn_todo b m torn cells) in
    let now : BankState = bank_behind (take n b.todo) b.bank in
    one_room_of m now choice (λ i lt. each_at (IsRecoverable m) now.lines i no_line lt come.kept) ∙ triples_held m b.bank now come.triples

-- the room behind the last event is the one that memory held
end_held : (b : CellBankState) (m : ℕ) → b.state ≡ Torn m → IsCellBank b → memory_words m (bank_behind b.todo b.bank) ≡ memory_words m b.bank
end_held b m torn cells =
    let come = come_so_far m b.bank b.todo (length b.todo) (torn_todo b m torn cells) in
    ap (λ (es : List RestoreEvent). memory_words m (bank_behind es b.bank)) (sym (take-length b.todo)) ∙ triples_held m b.bank (bank_behind (take (length b.todo) b.todo) b.bank) come.triples

-- restored cells have the triples as their loads
pub restored_loads : (m : ℕ) (bank : BankState) → AreRestored m bank.lines → HasSameRecords (memory_words m bank) (bank_load bank)
restored_loads m bank restored = loads_held m bank (λ i lt. (sym (restored i lt).triple, (restored i lt).quiet.pending))

-- each cell is restored at the end
end_restored : (b : CellBankState) (m : ℕ) → b.state ≡ Torn m → IsCellBank b → AreRestored m (bank_behind b.todo b.bank).lines
end_restored b m torn cells i lt = each_at (IsRestored m) (bank_behind b.todo b.bank).lines i no_line lt (restored_behind m b.bank b.todo (torn_todo b m torn cells))

pub restored_room : RestoredRoomLaw
restored_room b m cells torn =
    let restored = end_restored b m torn cells in (
      restored,
      λ i w lt. sym (restored_loads m (bank_behind b.todo b.bank) restored i w lt) ∙ ap (λ (r : ℕ → ℕ → ℕ). r i w) (end_held b m torn cells),
    )

pub later_room : LaterRoomLaw
later_room b m later choice cells torn lt i w three =
    let now : BankState = bank_behind b.todo b.bank in
    let restored = end_restored b m torn cells in
    let quiet : (j : ℕ) → j < length now.lines → IsQuietCell m (line_at now.lines j) = λ j h. (restored j h).quiet in
    let kept : (j : ℕ) → j < length now.lines → IsRecoverable later (line_at now.lines j) = λ j h. quiet_kept m later (line_at now.lines j) (omega arith) (quiet j h) in
    ap (λ (r : ℕ → ℕ → ℕ). r i w) (one_room_of later now choice kept)
    ∙ quiet_loads m later now lt quiet i w three
    ∙ (restored_room b m cells torn).1 i w three

pub restored_count : RestoredCountLaw
restored_count b = go b.todo
  where
    go : (events : List RestoreEvent) → length (restored_on b.state b.bank events).bank.lines ≡ length b.bank.lines
    go [] = refl
    go (event ∷ events) = event_count event b.bank
