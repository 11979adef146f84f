-- What the events of cells and their epoch keep.
use Rattle.std.proofs.Common.{◌≡◌, ℕ, ◌<◌, Bool, false, List, [], ◌∷◌, length, refl, ap, sym, ◌∙◌, subst, arith, if◌then◌else◌, inl, inr, IsTrue, ◌↔◌}
use Rattle.std.proofs.lemmas.Bool.{cases_lt, false≢true}
use Rattle.line_memory.specs.Line.{BankState, bank_load}
use Rattle.room_model.specs.declared.write.PlannedStore.{PlannedStore}
use Rattle.room_model.specs.Chains.{RoomWords, HasSameRecords}
use Rattle.room_model.specs.Banks.{memory_words}
use Rattle.room_model.specs.EpochLine.{memory_epoch, loaded_epoch}
use Rattle.incll_var.specs.declared.state.CellState.{CellState}
use Rattle.incll_var.specs.declared.state.CellState.TheVariants.{Running, Saved}
use Rattle.incll_var.specs.Cells.{IsSaved, epoch_of, with_state, restored_on}
use Rattle.incll_var.specs.declared.restore.RestoreEvent.{RestoreEvent}
use Rattle.incll_var.specs.declared.restore.RestoreEvent.TheVariants.{Restores, Asks, Fences}
use Rattle.incll_var.specs.declared.restore.RestoreStep.TheVariants.{Finished}
use Rattle.incll_var.specs.Restore.{next_step}
use Rattle.incll_var.specs.Plans.{behind_first}
use Rattle.planned_cells.specs.Planned.{PlannedState, ArePlannedCells, planned_words, memory_words_in}
use Rattle.epoch_word.specs.SuperLine.{IsSuperRoom, IsAsked, IsInMemory}
use Rattle.epoch_cells.specs.declared.stage.Stage.{Stage}
use Rattle.epoch_cells.specs.declared.stage.Stage.TheVariants.{Open, EpochAsked}
use Rattle.epoch_cells.specs.Cells.{EpochCellsState, state_of, AreEpochCells, IsAt, records_in, records, saved_records, cell_count, is_last, is_open, events_left}
use Rattle.epoch_cells.specs.Events.{IsEvent}
use Rattle.epoch_cells.proofs.Records.{same_records}
use Rattle.epoch_cells.proofs.Cuts.{saved_words, saved_none}

-- where a store stands, at a stage that is known
pub at_stage : (s : EpochCellsState) (stage : Stage) → AreEpochCells s → s.stage ≡ stage → IsAt stage (memory_epoch s.epoch) s.cells s.epoch
at_stage s stage is known = subst (λ (g : Stage). IsAt g (memory_epoch s.epoch) s.cells s.epoch) known is.at

-- the cells mean what they meant, and memory has of them what it had
pub record CellsGo (s n : EpochCellsState) : Type 0 where
  pub words : HasSameRecords (planned_words n.cells n.plan) (planned_words s.cells s.plan)
  pub in_memory : memory_words_in n.cells ≡ memory_words_in s.cells
  pub lines : cell_count n ≡ cell_count s
  pub whole : ArePlannedCells n.cells n.plan

-- cells that are not touched
pub still : (s : EpochCellsState) (epoch : BankState) (stage : Stage) → AreEpochCells s → CellsGo s (record s { epoch = epoch; stage = stage })
still s epoch stage is = record { words = λ line w lt. refl; in_memory = refl; lines = refl; whole = is.cells }

pub same_now : (s n : EpochCellsState) → CellsGo s n → records n ≡ records s
same_now s n go = same_records (planned_words n.cells n.plan) (planned_words s.cells s.plan) (cell_count n) go.words ∙ ap (records_in (planned_words s.cells s.plan)) go.lines

pub same_saved : (s n : EpochCellsState) → CellsGo s n → saved_records n ≡ saved_records s
same_saved s n go = ap (λ (r : RoomWords). records_in r (cell_count n)) go.in_memory ∙ ap (records_in (memory_words_in s.cells)) go.lines

-- such cells are, where the super room stands at its stage
pub still_whole : (s n : EpochCellsState) (e : ℕ) → AreEpochCells s → CellsGo s n → IsSuperRoom n.epoch → memory_epoch n.epoch ≡ e → IsAt n.stage e n.cells n.epoch → AreEpochCells n
still_whole s n e is go super memory at = record {
  cells = go.whole;
  epoch = super;
  at = subst (λ (k : ℕ). IsAt n.stage k n.cells n.epoch) (sym memory) at;
}

-- an event that is not the last, at a stage that is known
pub event : (s n : EpochCellsState) (stage : Stage) → AreEpochCells s → s.stage ≡ stage → CellsGo s n → IsSuperRoom n.epoch → memory_epoch n.epoch ≡ memory_epoch s.epoch → IsAt n.stage (memory_epoch s.epoch) n.cells n.epoch
    → is_last stage ≡ false → is_open n.stage ≡ is_open stage → events_left n < events_left (record s { stage = stage }) → IsEvent s n
event s n stage is known go super memory at last opens fewer =
    let now = same_now s n go in
    let saved = same_saved s n go in
    let first : is_open n.stage ≡ is_open s.stage = opens ∙ ap is_open (sym known) in
    record {
      same = now;
      saved = saved ∙ sym (ap (λ (b : Bool). if b then records s else saved_records s) (ap is_last known ∙ last));
      later = ap (λ (b : Bool). if b then saved_records n else records n) first ∙ ap (λ (rs : List (List ℕ)). if is_open s.stage then rs else records n) saved ∙ ap (λ (rs : List (List ℕ)). if is_open s.stage then saved_records s else rs) now;
      fewer = subst (λ (g : Stage). events_left n < events_left (record s { stage = g })) (sym known) fewer;
      whole = still_whole s n (memory_epoch s.epoch) is go super memory at;
    }

-- behind its first store a plan is shorter
pub shorter : (ss : List PlannedStore) → 0 < length ss → length (behind_first ss) < length ss
shorter [] some = absurd (omega (arith, some))
shorter (p ∷ ps) some = omega arith

-- where it is not said that some are left, none is
pub none_of : (some : Bool) (left : ℕ) → some ≡ false → (IsTrue some ↔ (0 < left)) → left ≡ 0
none_of some left none is = elim (cases_lt 0 left) [
  | inl lt ↦ absurd (false≢true (sym none ∙ is.1 lt))
  | inr le ↦ omega (arith, le)
]

-- what is not the end of a restore leaves the state, and an event less
pub gone_on : (state : CellState) (bank : BankState) (todo : List RestoreEvent) → (next_step todo ≡ Finished → ⊥) → ((restored_on state bank todo).state ≡ state) × (length (restored_on state bank todo).todo < length todo)
gone_on state bank [] goes = absurd (goes refl)
gone_on state bank (event ∷ events) goes = (refl, omega arith)

-- its end saves the cells
pub ended : (state : CellState) (bank : BankState) (todo : List RestoreEvent) → next_step todo ≡ Finished → (restored_on state bank todo).state ≡ Saved (epoch_of state)
ended state bank [] is = refl
ended state bank (Restores i w ∷ events) is = absurd (cc)
ended state bank (Asks i ∷ events) is = absurd (cc)
ended state bank (Fences ∷ events) is = absurd (cc)

-- cells that are opened in an epoch that is in memory
pub record Opened (s : EpochCellsState) (p : PlannedState) (epoch : BankState) (e : ℕ) : Type 0 where
  pub is : p ≡ record { cells = with_state s.cells (Running e); plan = s.plan }
  pub begins : IsSaved s.cells.state → HasSameRecords (memory_words e s.cells.bank) (bank_load s.cells.bank)
  pub words : HasSameRecords (planned_words p.cells p.plan) (planned_words s.cells s.plan)
  pub whole : ArePlannedCells p.cells p.plan
  pub super : IsSuperRoom epoch
  pub in_memory : IsAsked s.epoch → IsInMemory epoch
  pub loaded : e ≡ loaded_epoch epoch

-- the last event
pub last_event : (s : EpochCellsState) (p : PlannedState) (epoch : BankState) (e : ℕ) → AreEpochCells s → s.stage ≡ EpochAsked → Opened s p epoch e → IsEvent s (state_of p epoch Open)
last_event s p epoch e is stage opened =
    let at = at_stage s EpochAsked is stage in
    let n : EpochCellsState = state_of p epoch Open in
    let count : cell_count n ≡ cell_count s = ap (λ (k : PlannedState). length k.cells.bank.lines) opened.is in
    let now : records n ≡ records s = same_records (planned_words n.cells n.plan) (planned_words s.cells s.plan) (cell_count n) opened.words ∙ ap (records_in (planned_words s.cells s.plan)) count in
    let saved_now : IsSaved s.cells.state = subst IsSaved (sym at.0) tt in
    let saved : saved_records n ≡ records s =
    ap (λ (k : PlannedState). records_in (memory_words_in k.cells) (length k.cells.bank.lines)) opened.is
    ∙ same_records (memory_words e s.cells.bank) (bank_load s.cells.bank) (cell_count s) (opened.begins saved_now)
    ∙ ap (λ (r : RoomWords). records_in r (cell_count s)) (sym (saved_words s.cells s.plan (memory_epoch s.epoch) is.cells at.0)) in
    let held = opened.in_memory at.1.2 in
    let memory : memory_epoch epoch ≡ e = held.held ∙ sym opened.loaded in
    let left : length p.plan.stores ≡ 0 = ap (λ (k : PlannedState). length k.plan.stores) opened.is ∙ ap (λ (ss : List PlannedStore). length ss) (saved_none s.cells s.plan (memory_epoch s.epoch) is.cells at.0) in
    record {
      same = now;
      saved = saved ∙ sym (ap (λ (g : Stage). if is_last g then records s else saved_records s) stage);
      later = saved ∙ sym (ap (λ (g : Stage). if is_open g then saved_records s else records s) stage);
      fewer = subst (λ (g : Stage). length p.plan.stores < events_left (record s { stage = g })) (sym stage) (omega (arith, left));
      whole = record {
        cells = opened.whole;
        epoch = opened.super;
        at = (ap (λ (k : PlannedState). k.cells.state) opened.is ∙ ap Running (sym memory), (held, sym held.held));
      };
    }
