use Rattle.std.proofs.Common.{◌<◌, slice_index, ap, sym, ◌∙◌, subst}
use Rattle.epoch_cells.specs.Cells.{EpochCellsState, IsAtRest, records, column, cell_count}
use Rattle.epoch_cells.proofs.Written.{rest_word}
use Rattle.epoch_cells.proofs.epoch_cells.EpochCells.word.Goals as goal

pub returns-clause-word : goal.returns-clause-word
returns-clause-word c =
    let s : EpochCellsState = record { cells = c.self.inside.cells.cells; plan = c.self.inside.cells.plan; epoch = c.self.inside.epoch; stage = c.self.inside.stage } in
    c.load.ensures.load
    ∙ rest_word s c.args.cell c.args.word c.self.invariant (subst IsAtRest (sym c.self.view_is) c.requires.rest) (subst (λ (k : EpochCellsState). c.args.cell < cell_count k) (sym c.self.view_is) c.requires.cell) c.requires.word
    ∙ ap (λ (k : EpochCellsState). slice_index (column c.args.word (records k)) c.args.cell) c.self.view_is
