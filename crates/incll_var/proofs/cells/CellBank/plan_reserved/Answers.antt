use Rattle.std.proofs.Common.{sym, subst}
use Rattle.incll_var.specs.Cells.{epoch_of}
use Rattle.incll_var.specs.Plans.{PlanState, IsPlanned}
use Rattle.incll_var.proofs.Planned.{planned_more}
use Rattle.incll_var.proofs.cells.CellBank.plan_reserved.Goals as goal

pub returns-clause-planned : goal.returns-clause-planned
returns-clause-planned c = λ planned.
    let now = c.args.self.now in
    subst (λ (p : PlanState). IsPlanned (epoch_of now.state) now.bank.lines p.stores) (sym c.plan_stores.ensures.is)
    (planned_more now c.args.line c.args.plan.now.stores c.args.word c.args.value c.plan_stores.ensures.cells c.requires.running c.requires.line c.requires.word planned)
