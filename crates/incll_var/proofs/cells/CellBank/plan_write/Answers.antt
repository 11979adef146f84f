use Rattle.std.proofs.Common.{◌≤◌, arith, length, sym, ◌∙◌, ap, subst}
use Rattle.line_memory.specs.Line.{bank_load}
use Rattle.room_model.specs.Writes.{write, write_stores}
use Rattle.incll_var.specs.Cells.{epoch_of}
use Rattle.incll_var.specs.Plans.{PlanState, IsPlanned, filled}
use Rattle.incll_var.proofs.Fills.{filled-made, write_stores-length}
use Rattle.incll_var.proofs.cells.CellBank.plan_write.Goals as goal

pub plan_reserved-requires-clause-room : goal.plan_reserved-requires-clause-room
plan_reserved-requires-clause-room c =
    let now = c.args.self.now in
    let is = write_stores-length (epoch_of now.state) (bank_load now.bank) c.args.plan.now.stores c.args.line c.args.word c.args.value ∙ sym c.stores_needed.ensures in
    subst (λ (p : PlanState). length (write_stores (epoch_of now.state) (bank_load now.bank) p.stores (write c.args.line c.args.word c.args.value)) ≤ p.spare) (sym c.in_ok-make_room.ensures.ok) (omega (arith, is))

pub returns-clause-ok : goal.returns-clause-ok
returns-clause-ok c =
    let now = c.args.self.now in
    let is = write_stores-length (epoch_of now.state) (bank_load now.bank) c.args.plan.now.stores c.args.line c.args.word c.args.value ∙ sym c.stores_needed.ensures in
    c.plan_reserved.ensures.is
    ∙ ap (λ (p : PlanState). filled p (write_stores (epoch_of now.state) (bank_load now.bank) p.stores (write c.args.line c.args.word c.args.value))) c.in_ok-make_room.ensures.ok
    ∙ filled-made c.args.plan.now c.stores_needed.result (write_stores (epoch_of now.state) (bank_load now.bank) c.args.plan.now.stores (write c.args.line c.args.word c.args.value)) is

pub returns-clause-planned : goal.returns-clause-planned
returns-clause-planned c = λ planned.
    c.plan_reserved.ensures.planned (subst (λ (p : PlanState). IsPlanned (epoch_of c.args.self.now.state) c.args.self.now.bank.lines p.stores) (sym c.in_ok-make_room.ensures.ok) planned)
