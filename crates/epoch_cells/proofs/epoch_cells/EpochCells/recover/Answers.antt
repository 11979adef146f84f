use Rattle.std.proofs.Common.{length, ap, ◌∙◌}
use Rattle.room_model.specs.Banks.{memory_words}
use Rattle.planned_cells.specs.Planned.{PlannedState}
use Rattle.epoch_cells.specs.declared.stage.Stage.TheVariants.{Restoring}
use Rattle.epoch_cells.proofs.Beginnings.{AreTornOf, quiet_epoch, torn_records, torn_saved}
use Rattle.epoch_cells.proofs.epoch_cells.EpochCells.recover.Goals as goal

pub returns-clause-records : goal.returns-clause-records
returns-clause-records c =
    let torn : AreTornOf (record { cells = c.of-2.result.cells; plan = c.of-2.result.plan; epoch = c.in_ok-epoch.epoch; stage = Restoring }) c.args.cells c.args.epoch c.epoch-2.result = record {
      state = ap (λ (p : PlannedState). p.cells.state) c.of-2.ensures.is ∙ c.in_ok-cells.ensures.state;
      epoch_is = c.epoch-2.ensures.epoch ∙ quiet_epoch c.args.epoch c.in_ok-epoch.epoch _ c.requires.has_epoch c.in_ok-epoch.ensures.is;
      in_memory = ap (λ (p : PlannedState). memory_words c.epoch-2.result p.cells.bank) c.of-2.ensures.is ∙ c.in_ok-cells.ensures.in_memory;
      lines = ap (λ (p : PlannedState). length p.cells.bank.lines) c.of-2.ensures.is ∙ c.in_ok-cells.ensures.same.count;
    } in
    torn_records _ c.args.cells c.args.epoch c.epoch-2.result torn

pub returns-clause-saved : goal.returns-clause-saved
returns-clause-saved c =
    let torn : AreTornOf (record { cells = c.of-2.result.cells; plan = c.of-2.result.plan; epoch = c.in_ok-epoch.epoch; stage = Restoring }) c.args.cells c.args.epoch c.epoch-2.result = record {
      state = ap (λ (p : PlannedState). p.cells.state) c.of-2.ensures.is ∙ c.in_ok-cells.ensures.state;
      epoch_is = c.epoch-2.ensures.epoch ∙ quiet_epoch c.args.epoch c.in_ok-epoch.epoch _ c.requires.has_epoch c.in_ok-epoch.ensures.is;
      in_memory = ap (λ (p : PlannedState). memory_words c.epoch-2.result p.cells.bank) c.of-2.ensures.is ∙ c.in_ok-cells.ensures.in_memory;
      lines = ap (λ (p : PlannedState). length p.cells.bank.lines) c.of-2.ensures.is ∙ c.in_ok-cells.ensures.same.count;
    } in
    torn_saved _ c.args.cells c.args.epoch c.epoch-2.result torn
