-- What a power cut leaves of cells and their epoch, and what that recovers to.
use Rattle.std.proofs.Common.{◌≡◌, ℕ, zero, suc, ◌+◌, ◌^◌, ◌<◌, ◌≤◌, true, List, [], ◌∷◌, length, map, slice_index, refl, ap, sym, ◌∙◌, subst, arith, inl, inr, ◌⊎◌}
use Rattle.std.proofs.Math.ListN.{length-map}
use Rattle.line_memory.specs.Line.{LineState, BankState, line_at, survivor, quiet_line, no_line, bank_load}
use Rattle.room_model.specs.declared.write.PlannedStore.{PlannedStore}
use Rattle.room_model.specs.Chains.{RoomWords}
use Rattle.room_model.specs.Cell.{triple_of, tag_of, IsRecoverable}
use Rattle.room_model.specs.Banks.{memory_words, surviving_words}
use Rattle.room_model.specs.EpochLine.{memory_epoch, loaded_epoch, surviving_epoch}
use Rattle.room_model.specs.Image.{surviving_lines}
use Rattle.room_model.specs.Writes.{stored_in}
use Rattle.incll_var.specs.declared.state.CellState.{CellState}
use Rattle.incll_var.specs.declared.state.CellState.TheVariants.{Saved}
use Rattle.incll_var.specs.Cells.{CellBankState, epoch_of, AreSettled, IsRunning}
use Rattle.incll_var.specs.Laws.{OneRoomLaw, RecoverableLaw, SavedRecoverableLaw, SavedRoomLaw}
use Rattle.incll_var.specs.Plans.{PlanState}
use Rattle.planned_cells.specs.Planned.{ArePlannedCells, planned_words, words_in}
use Rattle.epoch_word.specs.declared.stage.EpochStage.TheVariants.{Before, Stored, AskedFor}
use Rattle.epoch_word.specs.Stages.{SurvivingLaw}
use Rattle.epoch_word.specs.SuperLine.{IsSuperRoom, HoldsEpoch, SurvivorLaw, NextLaw}
use Rattle.epoch_cells.specs.declared.stage.Stage.{Stage}
use Rattle.epoch_cells.specs.declared.stage.Stage.TheVariants.{Open, WritingBack, WrittenBack, Fenced, EpochStored, EpochAsked, Restoring}
use Rattle.epoch_cells.specs.Cells.{EpochCellsState, AreEpochCells, IsAt, CanRecover, records_in, records, saved_records, recovered_records, left_of, cell_count, is_epoch_pending}
use Rattle.epoch_cells.specs.Laws.{CutLaw}
use Rattle.epoch_cells.proofs.Records.{same_records}

-- ---- lines that are left

-- of no line nothing is left
nothing : (k : ℕ) → quiet_line (survivor no_line k) ≡ no_line
nothing zero = refl
nothing (suc k) = refl

-- a line that is left is what it keeps, with nothing pending
left_line : (choice : ℕ → ℕ) (i k : ℕ) (ls : List LineState) → line_at (map quiet_line (surviving_lines choice i ls)) k ≡ quiet_line (survivor (line_at ls k) (choice (i + k)))
left_line choice i k [] = sym (nothing (choice (i + k)))
left_line choice i zero (l ∷ ls) = let here : i ≡ i + 0 = omega arith in ap (λ (n : ℕ). quiet_line (survivor l (choice n))) here
left_line choice i (suc k) (l ∷ ls) = let here : suc i + k ≡ i + suc k = omega arith in left_line choice (suc i) k ls ∙ ap (λ (n : ℕ). quiet_line (survivor (line_at ls k) (choice n))) here

pub left_at : (choice : ℕ → ℕ) (bank : BankState) (k : ℕ) → line_at (left_of choice bank).lines k ≡ quiet_line (survivor (line_at bank.lines k) (choice k))
left_at choice bank k = let here : 0 + k ≡ k = omega arith in left_line choice 0 k bank.lines ∙ ap (λ (n : ℕ). quiet_line (survivor (line_at bank.lines k) (choice n))) here

-- as many lines are left
many_left : (choice : ℕ → ℕ) (i : ℕ) (ls : List LineState) → length (surviving_lines choice i ls) ≡ length ls
many_left choice i [] = refl
many_left choice i (l ∷ ls) = ap suc (many_left choice (suc i) ls)

pub left_count : (choice : ℕ → ℕ) (bank : BankState) → length (left_of choice bank).lines ≡ length bank.lines
left_count choice bank = length-map (surviving_lines choice 0 bank.lines) quiet_line ∙ many_left choice 0 bank.lines

-- the epoch that is left
left_epoch : (kept : ℕ → ℕ) (bank : BankState) → memory_epoch (left_of kept bank) ≡ surviving_epoch bank (kept 0)
left_epoch kept bank = ap (λ (l : LineState). slice_index l.base 0) (left_at kept bank 0)

-- what is left of cells recovers at an epoch to what a cut leaves of them at it
left_records : (choice : ℕ → ℕ) (bank : BankState) (epoch : ℕ) → records_in (memory_words epoch (left_of choice bank)) (length (left_of choice bank).lines) ≡ records_in (surviving_words epoch bank choice) (length bank.lines)
left_records choice bank epoch =
    ap (λ (n : ℕ). records_in (memory_words epoch (left_of choice bank)) n) (left_count choice bank)
    ∙ same_records (memory_words epoch (left_of choice bank)) (surviving_words epoch bank choice) (length bank.lines) (λ line w lt. ap (λ (l : LineState). slice_index (triple_of epoch l.base) w) (left_at choice bank line))

-- what is left of cells is settled at an epoch at which each of them is recoverable
settled_left : (choice : ℕ → ℕ) (bank : BankState) (epoch : ℕ) → ((i : ℕ) → i < length bank.lines → IsRecoverable epoch (line_at bank.lines i)) → AreSettled epoch (left_of choice bank).lines
settled_left choice bank epoch each i lt =
    let many = left_count choice bank in
    let within : i < length bank.lines = omega (arith, many) in
    record {
      pending = ap (λ (l : LineState). l.pending) (left_at choice bank i);
      tag = subst (λ (l : LineState). tag_of l.base ≤ epoch) (sym (left_at choice bank i)) (each i within (choice i)).tag;
    }

-- ---- the stages

-- the epoch of the cells is that of memory
pub cells_epoch : (stage : Stage) (e : ℕ) (cells : CellBankState) (epoch : BankState) → IsAt stage e cells epoch → epoch_of cells.state ≡ e
cells_epoch Open e cells epoch at = ap epoch_of at.0
cells_epoch WritingBack e cells epoch at = ap epoch_of at.0
cells_epoch WrittenBack e cells epoch at = ap epoch_of at.0
cells_epoch Fenced e cells epoch at = ap epoch_of at.0
cells_epoch EpochStored e cells epoch at = ap epoch_of at.0
cells_epoch EpochAsked e cells epoch at = ap epoch_of at.0
cells_epoch Restoring e cells epoch at = ap epoch_of at.0

-- the next epoch is pending, and a cut left it
pub record IsNext (stage : Stage) (e left : ℕ) (cells : CellBankState) : Type 0 where
  pub pending : is_epoch_pending stage ≡ true
  pub saved : cells.state ≡ Saved e
  pub next : left ≡ e + 1

-- a cut leaves the epoch of memory, or the next where it is pending
left_in : SurvivingLaw → (stage : Stage) (e kept : ℕ) (cells : CellBankState) (epoch : BankState) → IsSuperRoom epoch → IsAt stage e cells epoch → (surviving_epoch epoch kept ≡ e) ⊎ IsNext stage e (surviving_epoch epoch kept) cells
left_in law Open e kept cells epoch is at = inl (law Before epoch e kept is at.1)
left_in law WritingBack e kept cells epoch is at = inl (law Before epoch e kept is at.1)
left_in law WrittenBack e kept cells epoch is at = inl (law Before epoch e kept is at.1)
left_in law Fenced e kept cells epoch is at = inl (law Before epoch e kept is at.1)
left_in law EpochStored e kept cells epoch is at = elim (law Stored epoch e kept is at.1) [
  | inl here ↦ inl here
  | inr next ↦ inr (record { pending = refl; saved = at.0; next = next })
]
left_in law EpochAsked e kept cells epoch is at = elim (law AskedFor epoch e kept is at.1) [
  | inl here ↦ inl here
  | inr next ↦ inr (record { pending = refl; saved = at.0; next = next })
]
left_in law Restoring e kept cells epoch is at = inl (law Before epoch e kept is at.1)

-- saved cells do not run
saved_still : (state : CellState) (e : ℕ) → state ≡ Saved e → IsRunning state → ⊥
saved_still state e is running = subst IsRunning is running

-- where cells do not run no store is left
none_left : (state : CellState) (stores : List PlannedStore) → (IsRunning state → ⊥) → (0 < length stores → IsRunning state) → stores ≡ []
none_left state [] still running = refl
none_left state (s ∷ ss) still running = absurd (still (running (omega arith)))

-- of saved cells no store is left
pub saved_none : (cells : CellBankState) (plan : PlanState) (e : ℕ) → ArePlannedCells cells plan → cells.state ≡ Saved e → plan.stores ≡ []
saved_none cells plan e is saved = none_left cells.state plan.stores (saved_still cells.state e saved) is.running

-- saved cells mean their loads
pub saved_words : (cells : CellBankState) (plan : PlanState) (e : ℕ) → ArePlannedCells cells plan → cells.state ≡ Saved e → planned_words cells plan ≡ bank_load cells.bank
saved_words cells plan e is saved =
    ap (λ (state : CellState). words_in state cells.bank plan.stores) saved
    ∙ ap (λ (ss : List PlannedStore). stored_in (bank_load cells.bank) ss) (saved_none cells plan e is saved)

-- ---- a cut

-- what is left of the super room holds an epoch
holds : SurvivorLaw → NextLaw → (kept : ℕ → ℕ) (epoch : BankState) → IsSuperRoom epoch → HoldsEpoch (left_of kept epoch)
holds survives next kept epoch is =
    let left = left_epoch kept epoch in
    let from = is.line.some in
    let to = is.line.fits in
    let low : loaded_epoch epoch < 2 ^ 32 = to in
    let some : 1 ≤ memory_epoch epoch = from in
    let order : memory_epoch epoch ≤ loaded_epoch epoch = elim (next epoch is) [ inl same ↦ omega (arith, same) | inr one ↦ omega (arith, one) ] in
    let within : (1 ≤ surviving_epoch epoch (kept 0)) × (surviving_epoch epoch (kept 0) < 2 ^ 32) = elim (survives epoch (kept 0) is) [
      | inl same ↦ (omega (arith, same, some), omega (arith, same, order, low))
      | inr same ↦ (omega (arith, same, some, order), omega (arith, same, low))
    ] in
    record {
      one = left_count kept epoch ∙ is.one;
      quiet = ap (λ (l : LineState). l.pending) (left_at kept epoch 0);
      some = omega (arith, left, within.0);
      fits = omega (arith, left, within.1);
    }

-- what a cut leaves, at the epoch that it leaves, where all cells are recoverable at it, and their records are these
kept_as : SurvivorLaw → NextLaw → (s : EpochCellsState) (choice kept : ℕ → ℕ) (rs : List (List ℕ)) → AreEpochCells s
    → ((i : ℕ) → i < length s.cells.bank.lines → IsRecoverable (surviving_epoch s.epoch (kept 0)) (line_at s.cells.bank.lines i))
    → records_in (surviving_words (surviving_epoch s.epoch (kept 0)) s.cells.bank choice) (cell_count s) ≡ rs
    → CanRecover (left_of choice s.cells.bank) (left_of kept s.epoch) × (recovered_records (left_of choice s.cells.bank) (left_of kept s.epoch) ≡ rs)
kept_as survives next s choice kept rs is each rs_are =
    let left = left_epoch kept s.epoch in
    let these = left_of choice s.cells.bank in (
      record {
        has_epoch = holds survives next kept s.epoch is.epoch;
        settled = subst (λ (e : ℕ). AreSettled e these.lines) (sym left) (settled_left choice s.cells.bank (surviving_epoch s.epoch (kept 0)) each);
      },
      ap (λ (e : ℕ). records_in (memory_words e these) (length these.lines)) left ∙ left_records choice s.cells.bank (surviving_epoch s.epoch (kept 0)) ∙ rs_are,
    )

-- the law
pub cut_law : OneRoomLaw → RecoverableLaw → SavedRecoverableLaw → SavedRoomLaw → SurvivingLaw → SurvivorLaw → NextLaw → CutLaw
cut_law one_room recoverable saved_recoverable saved_room surviving survives next s choice kept is =
    let e = memory_epoch s.epoch in
    let left = surviving_epoch s.epoch (kept 0) in
    let cells = s.cells in
    elim (left_in surviving s.stage e (kept 0) cells s.epoch is.epoch is.at) [
      | inl here ↦
          let same : left ≡ epoch_of cells.state = here ∙ sym (cells_epoch s.stage e cells s.epoch is.at) in
          let kept_is = kept_as survives next s choice kept (saved_records s) is
          (subst (λ (k : ℕ). (i : ℕ) → i < length cells.bank.lines → IsRecoverable k (line_at cells.bank.lines i)) (sym same) (recoverable cells is.cells.cells_are))
          (ap (λ (k : ℕ). records_in (surviving_words k cells.bank choice) (cell_count s)) same ∙ ap (λ (r : RoomWords). records_in r (cell_count s)) (one_room cells choice is.cells.cells_are)) in
          record { lawful = kept_is.0; state = inl kept_is.1 }
      | inr later ↦
          let low : e ≤ left = let n = later.next in omega (arith, n) in
          let lower : e < left = let n = later.next in omega (arith, n) in
          let kept_is = kept_as survives next s choice kept (records s) is
          (saved_recoverable cells e left is.cells.cells_are later.saved low)
          (same_records (surviving_words left cells.bank choice) (bank_load cells.bank) (cell_count s) (saved_room cells e left choice is.cells.cells_are later.saved lower)
          ∙ ap (λ (r : RoomWords). records_in r (cell_count s)) (sym (saved_words cells s.plan e is.cells later.saved))) in
          record { lawful = kept_is.0; state = inr (later.pending, kept_is.1) }
    ]
