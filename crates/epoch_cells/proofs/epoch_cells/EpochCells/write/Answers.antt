use Rattle.std.proofs.Common.{List, ap, sym, ◌∙◌, subst}
use Rattle.room_model.specs.declared.write.Write.{Write}
use Rattle.room_model.specs.Writes.{AreWithin}
use Rattle.epoch_cells.specs.Cells.{EpochCellsState, IsAtRest, cell_count, records, after_writes}
use Rattle.epoch_cells.proofs.Written.{planned, begun}
use Rattle.epoch_cells.proofs.epoch_cells.EpochCells.write.Goals as goal

pub returns-clause-written : goal.returns-clause-written
returns-clause-written c =
    let s : EpochCellsState = record { cells = c.self.inside.cells.cells; plan = c.self.inside.cells.plan; epoch = c.self.inside.epoch; stage = c.self.inside.stage } in
    let rest : IsAtRest s = subst IsAtRest (sym c.self.view_is) c.requires.rest in
    let xs : List Write = c.args.writes.now in
    begun c.stores_law.ensures s c.plan_writes.new.cells xs c.self.invariant rest (subst (λ (k : EpochCellsState). AreWithin (cell_count k) xs) (sym c.self.view_is) c.requires.within)
    (planned s c.plan_writes.new.cells _ c.self.invariant rest.stage c.in_ok-plan_writes.ensures.ok)
    ∙ ap (λ (k : EpochCellsState). after_writes (records k) xs) c.self.view_is
