-- The loads of a bank, and what memory holds of it, behind what changes neither.
use Rattle.std.proofs.Common.{◌≡◌, ℕ, ◌<◌, List, length, slice_index, ap, sym, ◌∙◌, inl, inr, get_or-set_same, get_or-set_other, refl, [], ◌∷◌}
use Rattle.std.proofs.lemmas.Bool.Decides.{eqb_tells}
use Rattle.line_memory.specs.Line.{LineState, BankState, line_at, loaded, latest, written_back, no_line, with_line, bank_load, bank_written_back, HasSameWords, stored}
use Rattle.line_memory.specs.declared.store.Store.{Store}
use Rattle.room_model.specs.Banks.{memory_words}
use Rattle.room_model.specs.Chains.{RoomWords, HasSameRecords}
use Rattle.room_model.specs.Writes.{AreStoresWithin}
use Rattle.incll_var.specs.Cells.{HasSameCells, CellBankState, played, epoch_of}
use Rattle.incll_var.proofs.Behind.{same_function}
use Rattle.incll_var.proofs.Restores.{same_held}
use Rattle.room_model.specs.declared.write.PlannedStore.{PlannedStore}
use Rattle.planned_cells.specs.Planned.{memory_words_in}

-- a line with the same base and pending stores has the same loads
line_loads : (l k : LineState) → HasSameWords l k → (w : ℕ) → loaded k w ≡ loaded l w
line_loads l k same w = ap (λ (b : List ℕ). latest (slice_index b w) w k.pending) same.base ∙ ap (λ (ss : List Store). latest (slice_index l.base w) w ss) same.pending

-- more room changes no load
pub loads-same : (old new : BankState) → HasSameCells old new → bank_load new ≡ bank_load old
loads-same old new same = same_function (bank_load new) (bank_load old) (λ i w. line_loads (line_at old.lines i) (line_at new.lines i) (same.lines i) w)

-- a write-back changes no load
pub loads-written_back : (bank : BankState) (line : ℕ) → line < length bank.lines → bank_load (bank_written_back bank line) ≡ bank_load bank
loads-written_back bank line within = same_function (bank_load (bank_written_back bank line)) (bank_load bank) (λ i w. elim (eqb_tells i line) [
  | inl h ↦
      let here : line_at (bank_written_back bank line).lines i ≡ written_back (line_at bank.lines line) =
      ap (λ (k : ℕ). line_at (bank_written_back bank line).lines k) h.1 ∙ get_or-set_same bank.lines line (written_back (line_at bank.lines line)) no_line within in
      ap (λ (k : LineState). loaded k w) here ∙ ap (λ (k : ℕ). bank_load bank k w) (sym h.1)
  | inr h ↦ ap (λ (k : LineState). loaded k w) (get_or-set_other bank.lines line i (written_back (line_at bank.lines line)) no_line h.1)
])

-- the same records, by equal words
pub same_words : (r q : RoomWords) → q ≡ r → HasSameRecords q r
same_words r q e = λ line w lt. ap (λ (k : RoomWords). k line w) e

-- more room changes nothing of what memory holds
pub more_held : (e : ℕ) (old new : BankState) → HasSameCells old new → memory_words e new ≡ memory_words e old
more_held e old new same = same_held e old new (λ i. (same.lines i).base)

-- a line with the same base in its place changes nothing of it
pub line_held : (e : ℕ) (bank : BankState) (line : ℕ) (l : LineState) → line < length bank.lines → l.base ≡ (line_at bank.lines line).base → memory_words e (with_line bank line l) ≡ memory_words e bank
line_held e bank line l within same = same_held e bank (with_line bank line l) (λ i. elim (eqb_tells i line) [
  | inl h ↦
      ap (λ (k : ℕ). (line_at (with_line bank line l).lines k).base) h.1 ∙ ap (λ (k : LineState). k.base) (get_or-set_same bank.lines line l no_line within)
      ∙ same ∙ ap (λ (k : ℕ). (line_at bank.lines k).base) (sym h.1)
  | inr h ↦ ap (λ (k : LineState). k.base) (get_or-set_other bank.lines line i l no_line h.1)
])

-- a store that is made changes nothing of what memory has
pub played_held : (b : CellBankState) (stores : List PlannedStore) → AreStoresWithin (length b.bank.lines) stores → memory_words_in (played b stores) ≡ memory_words_in b
played_held b [] placed = refl
played_held b (p ∷ ps) placed = line_held (epoch_of b.state) b.bank p.line (stored (line_at b.bank.lines p.line) p.word p.value) placed.0 refl
