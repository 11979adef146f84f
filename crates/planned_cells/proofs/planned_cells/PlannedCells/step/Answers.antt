use Rattle.std.proofs.Common.{◌≡◌, ap, ◌∙◌, subst}
use Rattle.planned_cells.specs.Planned.{PlannedState, memory_words_in}
use Rattle.planned_cells.proofs.Loads.{played_held}
use Rattle.planned_cells.proofs.planned_cells.PlannedCells.step.Goals as goal

pub returns-clause-in_memory : goal.returns-clause-in_memory
returns-clause-in_memory c =
    subst (λ (p : PlannedState). memory_words_in c.play.new.self ≡ memory_words_in p.cells) c.self.view_is
    (ap memory_words_in c.play.ensures.store ∙ played_held c.self.inside.cells c.self.inside.plan.stores c.self.invariant.planned.places)
