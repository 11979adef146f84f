use Rattle.std.proofs.Common.{sym, subst}
use Rattle.incll_var.specs.Cells.{CellBankState, IsSaved, MayEnter}
use Rattle.incll_var.proofs.Survivors.{enter_law, begins_law}
use Rattle.incll_var.proofs.cells.CellBank.enter.Goals as goal

pub invariant_of-self : goal.invariant_of-self
invariant_of-self c =
    let b : CellBankState = record { bank = c.self.inside.bank; state = c.self.inside.state; todo = c.self.inside.todo; stored = c.self.inside.stored.lines } in
    let may : MayEnter b.state c.args.epoch = subst (λ (k : CellBankState). MayEnter k.state c.args.epoch) (sym c.self.view_is) c.requires in
    (enter_law b c.args.epoch may c.self.invariant.0, c.self.invariant.1)

pub returns-clause-begins : goal.returns-clause-begins
returns-clause-begins c =
    let b : CellBankState = record { bank = c.self.inside.bank; state = c.self.inside.state; todo = c.self.inside.todo; stored = c.self.inside.stored.lines } in
    let may : MayEnter b.state c.args.epoch = subst (λ (k : CellBankState). MayEnter k.state c.args.epoch) (sym c.self.view_is) c.requires in
    λ saved. begins_law b c.args.epoch may c.self.invariant.0 (subst (λ (k : CellBankState). IsSaved k.state) (sym c.self.view_is) saved)

pub returns-clause-cells : goal.returns-clause-cells
returns-clause-cells c = (invariant_of-self c).0
