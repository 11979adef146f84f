-- What cells and their epoch begin with: what a cut left, or new memory.
use Rattle.std.proofs.Common.{◌≡◌, ℕ, suc, zero, ◌<◌, ◌≤◌, List, [], ◌∷◌, length, map, slice_index, get_or, refl, ap, sym, ◌∙◌, subst, arith, get_or-set_same}
use Rattle.std.proofs.Math.ListN.{length-map}
use Rattle.line_memory.specs.Line.{LineState, BankState, line_at, loaded, latest, no_line, quiet_line, quiet_bank, with_spare, bank_with_spare}
use Rattle.line_memory.specs.declared.store.Store.{Store}
use Rattle.room_model.specs.Cell.{triple_of, tag_of}
use Rattle.room_model.specs.Chains.{RoomWords}
use Rattle.room_model.specs.Banks.{memory_words}
use Rattle.room_model.specs.EpochLine.{memory_epoch, loaded_epoch}
use Rattle.incll_var.specs.declared.state.CellState.{CellState}
use Rattle.incll_var.specs.declared.state.CellState.TheVariants.{Torn}
use Rattle.incll_var.specs.Cells.{epoch_of}
use Rattle.planned_cells.specs.Planned.{words_in}
use Rattle.epoch_word.specs.SuperLine.{HoldsEpoch}
use Rattle.epoch_cells.specs.Cells.{EpochCellsState, CanRecover, records_in, records, saved_records, recovered_records, cell_count}
use Rattle.epoch_cells.specs.Events.{new_cell, new_epoch, AreRecords}
use Rattle.epoch_cells.proofs.Records.{these}

-- the epoch by load of a super room on which nothing is pending
pub quiet_epoch : (bank room : BankState) (spare : ℕ) → HoldsEpoch bank → room ≡ bank_with_spare bank 0 spare → loaded_epoch room ≡ memory_epoch bank
quiet_epoch bank room spare holds is =
    let one = holds.one in
    let within : 0 < length bank.lines = omega (arith, one) in
    ap loaded_epoch is
    ∙ ap (λ (l : LineState). loaded l 0) (get_or-set_same bank.lines 0 (with_spare (line_at bank.lines 0) spare) no_line within)
    ∙ ap (λ (ss : List Store). latest (memory_epoch bank) 0 ss) holds.quiet

-- torn cells mean what memory has of them
pub record AreTornOf (s : EpochCellsState) (cells epoch : BankState) (e : ℕ) : Type 0 where
  pub state : s.cells.state ≡ Torn e
  pub epoch_is : e ≡ memory_epoch epoch
  pub in_memory : memory_words e s.cells.bank ≡ memory_words e cells
  pub lines : cell_count s ≡ length cells.lines

found : (s : EpochCellsState) (cells epoch : BankState) (e : ℕ) → AreTornOf s cells epoch e → records_in (memory_words e s.cells.bank) (cell_count s) ≡ recovered_records cells epoch
found s cells epoch e torn =
    ap (λ (r : RoomWords). records_in r (cell_count s)) torn.in_memory ∙ ap (records_in (memory_words e cells)) torn.lines
    ∙ ap (λ (k : ℕ). records_in (memory_words k cells) (length cells.lines)) torn.epoch_is

pub torn_records : (s : EpochCellsState) (cells epoch : BankState) (e : ℕ) → AreTornOf s cells epoch e → records s ≡ recovered_records cells epoch
torn_records s cells epoch e torn = ap (λ (state : CellState). records_in (words_in state s.cells.bank s.plan.stores) (cell_count s)) torn.state ∙ found s cells epoch e torn

pub torn_saved : (s : EpochCellsState) (cells epoch : BankState) (e : ℕ) → AreTornOf s cells epoch e → saved_records s ≡ recovered_records cells epoch
torn_saved s cells epoch e torn = ap (λ (state : CellState). records_in (memory_words (epoch_of state) s.cells.bank) (cell_count s)) torn.state ∙ found s cells epoch e torn

-- the bank of new cells, and that of a new super room
abbrev pub new_cells : List (List ℕ) → BankState
new_cells first = quiet_bank (map new_cell first)

abbrev pub new_super : BankState
new_super = quiet_bank (new_epoch ∷ [])

-- the line of a new cell
new_line : (first : List (List ℕ)) (k : ℕ) → k < length first → line_at (map quiet_line (map new_cell first)) k ≡ quiet_line (new_cell (get_or first k []))
new_line [] k lt = absurd (omega (arith, lt))
new_line (r ∷ rs) zero lt = refl
new_line (r ∷ rs) (suc k) lt = new_line rs k (omega (arith, lt))

many_new : (first : List (List ℕ)) → length (new_cells first).lines ≡ length first
many_new first = length-map (map new_cell first) quiet_line ∙ length-map first new_cell

-- new memory can be recovered, and has the records that it was made with
pub new_lawful : (first : List (List ℕ)) → CanRecover (new_cells first) new_super
new_lawful first = record {
  has_epoch = record { one = refl; quiet = refl; some = omega arith; fits = omega arith };
  settled = λ i lt.
      let many = many_new first in
      let within : i < length first = omega (arith, many, lt) in
      record {
        pending = ap (λ (l : LineState). l.pending) (new_line first i within);
        tag = subst (λ (l : LineState). tag_of l.base ≤ 1) (sym (new_line first i within)) (omega arith);
      };
}

-- a list of three words by its words
by_words : (words : List ℕ) → length words ≡ 3 → words ≡ slice_index words 0 ∷ slice_index words 1 ∷ slice_index words 2 ∷ []
by_words [] three = absurd (omega (arith, three))
by_words (a ∷ []) three = absurd (omega (arith, three))
by_words (a ∷ b ∷ []) three = absurd (omega (arith, three))
by_words (a ∷ b ∷ d ∷ []) three = refl
by_words (a ∷ b ∷ d ∷ e ∷ words) three = absurd (omega (arith, three))

pub new_records : (first : List (List ℕ)) → AreRecords first → recovered_records (new_cells first) new_super ≡ first
new_records first are =
    let many = many_new first in
    sym (these (memory_words 1 (new_cells first)) (length (new_cells first).lines) first (sym many)
    (λ k lt.
    let within : k < length first = omega (arith, many, lt) in
    by_words (get_or first k []) (are k within)
    ∙ sym (ap (λ (l : LineState). slice_index (triple_of 1 l.base) 0 ∷ slice_index (triple_of 1 l.base) 1 ∷ slice_index (triple_of 1 l.base) 2 ∷ []) (new_line first k within))))
