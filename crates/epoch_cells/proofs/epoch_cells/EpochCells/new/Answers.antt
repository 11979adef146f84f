use Rattle.std.proofs.Common.{◌≡◌, ap, sym, ◌∙◌, subst}
use Rattle.line_memory.specs.Line.{BankState, quiet_bank}
use Rattle.epoch_cells.specs.Cells.{CanRecover, recovered_records}
use Rattle.epoch_cells.proofs.Beginnings.{new_cells, new_super, new_lawful, new_records}
use Rattle.epoch_cells.proofs.epoch_cells.EpochCells.new.Goals as goal

pub recover-requires : goal.recover-requires
recover-requires c =
    let cells : c.in_ok-cells.cells ≡ new_cells c.args.first.now = c.in_ok-cells.ensures.is ∙ ap quiet_bank c.in_ok-cells_of.ensures.is in
    let epoch : c.in_ok-epoch.epoch ≡ new_super = c.in_ok-epoch.ensures.is ∙ ap quiet_bank c.in_ok-epoch_of.ensures in
    subst (λ (b : BankState). CanRecover b c.in_ok-epoch.epoch) (sym cells) (subst (CanRecover (new_cells c.args.first.now)) (sym epoch) (new_lawful c.args.first.now))

pub returns-clause-records : goal.returns-clause-records
returns-clause-records c =
    let cells : c.in_ok-cells.cells ≡ new_cells c.args.first.now = c.in_ok-cells.ensures.is ∙ ap quiet_bank c.in_ok-cells_of.ensures.is in
    let epoch : c.in_ok-epoch.epoch ≡ new_super = c.in_ok-epoch.ensures.is ∙ ap quiet_bank c.in_ok-epoch_of.ensures in
    c.in_ok-new.ensures.records ∙ ap (λ (b : BankState). recovered_records b c.in_ok-epoch.epoch) cells ∙ ap (recovered_records (new_cells c.args.first.now)) epoch ∙ new_records c.args.first.now c.in_ok-cells_of.ensures.three

pub returns-clause-saved : goal.returns-clause-saved
returns-clause-saved c =
    let cells : c.in_ok-cells.cells ≡ new_cells c.args.first.now = c.in_ok-cells.ensures.is ∙ ap quiet_bank c.in_ok-cells_of.ensures.is in
    let epoch : c.in_ok-epoch.epoch ≡ new_super = c.in_ok-epoch.ensures.is ∙ ap quiet_bank c.in_ok-epoch_of.ensures in
    c.in_ok-new.ensures.saved ∙ ap (λ (b : BankState). recovered_records b c.in_ok-epoch.epoch) cells ∙ ap (recovered_records (new_cells c.args.first.now)) epoch ∙ new_records c.args.first.now c.in_ok-cells_of.ensures.three
