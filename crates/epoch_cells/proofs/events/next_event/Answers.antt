use Rattle.std.proofs.Common.{◌<◌, length, refl, ap, sym, ◌∙◌, subst, arith}
use Rattle.line_memory.specs.Line.{BankState, unasked}
use Rattle.room_model.specs.Chains.{RoomWords}
use Rattle.incll_var.specs.declared.state.CellState.{CellState}
use Rattle.incll_var.specs.declared.state.CellState.TheVariants.{Saved}
use Rattle.incll_var.specs.Cells.{CellBankState, epoch_of}
use Rattle.room_model.specs.EpochLine.{memory_epoch}
use Rattle.epoch_word.specs.Stages.{IsAtStage}
use Rattle.epoch_word.specs.declared.stage.EpochStage.TheVariants.{Stored, AskedFor}
use Rattle.planned_cells.specs.Planned.{PlannedState}
use Rattle.epoch_cells.specs.declared.stage.Stage.TheVariants.{Open, WritingBack, WrittenBack, Fenced, EpochStored, EpochAsked, Restoring}
use Rattle.epoch_cells.specs.Cells.{EpochCellsState, state_of}
use Rattle.epoch_cells.proofs.Going.{at_stage, event, last_event, still, shorter, none_of, gone_on, ended}
use Rattle.epoch_cells.proofs.events.next_event.Goals as goal

pub returns-in-Open : goal.returns-in-Open
returns-in-Open c =
    let s : EpochCellsState = state_of c.args.cells.now c.args.epoch.now c.args.stage in
    let at = at_stage s Open c.requires.whole c.in-Open.is in
    let fewer : length c.step.new.self.plan.stores < length s.plan.stores = subst (λ (p : PlannedState). length p.plan.stores < length s.plan.stores) (sym c.step.ensures.is) (shorter s.plan.stores (c.requires.left c.in-Open.is)) in
    event s (state_of c.step.new.self s.epoch Open) Open c.requires.whole c.in-Open.is (record { words = λ line w lt. ap (λ (r : RoomWords). r line w) c.step.ensures.words; in_memory = c.step.ensures.in_memory; lines = c.step.ensures.lines; whole = c.step.ensures.whole }) c.requires.whole.epoch refl (c.step.ensures.state ∙ at.0, at.1) refl refl fewer

pub returns-then-close_next : goal.returns-then-close_next
returns-then-close_next c =
    let s : EpochCellsState = state_of c.args.cells.now c.args.epoch.now c.args.stage in
    let at = at_stage s WritingBack c.requires.whole c.in-WritingBack.is in
    let fewer = c.close_next.ensures.fewer in
    event s (state_of c.close_next.new.self s.epoch WritingBack) WritingBack c.requires.whole c.in-WritingBack.is (record { words = c.close_next.ensures.words; in_memory = c.close_next.ensures.in_memory; lines = c.close_next.ensures.lines; whole = c.close_next.ensures.whole }) c.requires.whole.epoch refl (ap (λ (p : PlannedState). p.cells.state) c.close_next.ensures.is ∙ at.0, at.1, c.close_next.ensures.more.0 c.if-close_next.true) refl refl (omega (arith, fewer))

pub returns-else-close_next : goal.returns-else-close_next
returns-else-close_next c =
    let s : EpochCellsState = state_of c.args.cells.now c.args.epoch.now c.args.stage in
    let at = at_stage s WritingBack c.requires.whole c.in-WritingBack.is in
    let fewer = c.close_next.ensures.fewer in
    event s (state_of c.close_next.new.self s.epoch WrittenBack) WritingBack c.requires.whole c.in-WritingBack.is (record { words = c.close_next.ensures.words; in_memory = c.close_next.ensures.in_memory; lines = c.close_next.ensures.lines; whole = c.close_next.ensures.whole }) c.requires.whole.epoch refl (ap (λ (p : PlannedState). p.cells.state) c.close_next.ensures.is ∙ at.0, at.1, none_of c.close_next.result (unasked c.close_next.new.self.cells.bank.lines) c.if-close_next.false c.close_next.ensures.more) refl refl (omega (arith, fewer))

pub returns-in-WrittenBack : goal.returns-in-WrittenBack
returns-in-WrittenBack c =
    let s : EpochCellsState = state_of c.args.cells.now c.args.epoch.now c.args.stage in
    let at = at_stage s WrittenBack c.requires.whole c.in-WrittenBack.is in
    event s (state_of c.close_fence.new.self s.epoch Fenced) WrittenBack c.requires.whole c.in-WrittenBack.is (record { words = c.close_fence.ensures.words; in_memory = c.close_fence.ensures.in_memory; lines = c.close_fence.ensures.lines; whole = c.close_fence.ensures.whole }) c.requires.whole.epoch refl (ap (λ (p : PlannedState). p.cells.state) c.close_fence.ensures.is ∙ ap (λ (k : CellState). Saved (epoch_of k)) at.0, at.1) refl refl (omega arith)

pub returns-in-Fenced : goal.returns-in-Fenced
returns-in-Fenced c =
    let s : EpochCellsState = state_of c.args.cells.now c.args.epoch.now c.args.stage in
    let at = at_stage s Fenced c.requires.whole c.in-Fenced.is in
    let n : EpochCellsState = state_of c.args.cells.now c.store_next.new.self EpochStored in
    let word = subst (λ (b : BankState). IsAtStage Stored (memory_epoch s.epoch) b) (sym c.store_next.ensures.is) (c.stage_laws.ensures.stored s.epoch (memory_epoch s.epoch) c.requires.whole.epoch at.1) in
    event s n Fenced c.requires.whole c.in-Fenced.is (still s n.epoch n.stage c.requires.whole) c.store_next.ensures.room word.0 (at.0, word) refl refl (omega arith)

pub returns-in-EpochStored : goal.returns-in-EpochStored
returns-in-EpochStored c =
    let s : EpochCellsState = state_of c.args.cells.now c.args.epoch.now c.args.stage in
    let at = at_stage s EpochStored c.requires.whole c.in-EpochStored.is in
    let n : EpochCellsState = state_of c.args.cells.now c.write_back.new.self EpochAsked in
    let word = subst (λ (b : BankState). IsAtStage AskedFor (memory_epoch s.epoch) b) (sym c.write_back.ensures.is) (c.stage_laws.ensures.asked s.epoch (memory_epoch s.epoch) c.requires.whole.epoch at.1) in
    event s n EpochStored c.requires.whole c.in-EpochStored.is (still s n.epoch n.stage c.requires.whole) c.write_back.ensures.room word.0 (at.0, word) refl refl (omega arith)

pub returns-in-EpochAsked : goal.returns-in-EpochAsked
returns-in-EpochAsked c =
    last_event (state_of c.args.cells.now c.args.epoch.now c.args.stage) c.enter.new.self c.fence.new.self c.epoch.result c.requires.whole c.in-EpochAsked.is
    (record { is = c.enter.ensures.is; begins = c.enter.ensures.begins; words = c.enter.ensures.words; whole = c.enter.ensures.whole; super = c.fence.ensures.room; in_memory = c.fence.ensures.in_memory; loaded = c.epoch.ensures.epoch })

pub returns-in-Finished : goal.returns-in-Finished
returns-in-Finished c =
    let s : EpochCellsState = state_of c.args.cells.now c.args.epoch.now c.args.stage in
    let at = at_stage s Restoring c.requires.whole c.in-Restoring.is in
    let after = ap (λ (p : PlannedState). p.cells) c.restore_next.ensures.is in
    event s (state_of c.restore_next.new.self s.epoch Fenced) Restoring c.requires.whole c.in-Restoring.is (record { words = c.restore_next.ensures.words; in_memory = c.restore_next.ensures.in_memory; lines = c.restore_next.ensures.lines; whole = c.restore_next.ensures.whole }) c.requires.whole.epoch refl (ap (λ (k : CellBankState). k.state) after ∙ ended s.cells.state s.cells.bank s.cells.todo (sym c.restore_next.ensures.step ∙ c.in-Finished.is) ∙ ap (λ (k : CellState). Saved (epoch_of k)) at.0, at.1) refl refl (omega arith)

pub returns-in_default : goal.returns-in_default
returns-in_default c =
    let s : EpochCellsState = state_of c.args.cells.now c.args.epoch.now c.args.stage in
    let at = at_stage s Restoring c.requires.whole c.in-Restoring.is in
    let after = ap (λ (p : PlannedState). p.cells) c.restore_next.ensures.is in
    let gone = gone_on s.cells.state s.cells.bank s.cells.todo (λ end. c.in_default.not-Finished (c.restore_next.ensures.step ∙ end)) in
    let fewer : length c.restore_next.new.self.cells.todo < length s.cells.todo = subst (λ (k : CellBankState). length k.todo < length s.cells.todo) (sym after) gone.1 in
    event s (state_of c.restore_next.new.self s.epoch Restoring) Restoring c.requires.whole c.in-Restoring.is (record { words = c.restore_next.ensures.words; in_memory = c.restore_next.ensures.in_memory; lines = c.restore_next.ensures.lines; whole = c.restore_next.ensures.whole }) c.requires.whole.epoch refl (ap (λ (k : CellBankState). k.state) after ∙ gone.0 ∙ at.0, at.1) refl refl (omega (arith, fewer))
