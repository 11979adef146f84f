use Rattle.std.proofs.Common.{length, ap, sym, ◌∙◌, subst}
use Rattle.incll_var.specs.declared.state.CellState.{CellState}
use Rattle.incll_var.specs.Cells.{CellBankState, IsCellBank, MayClose}
use Rattle.incll_var.proofs.Closings.{begin_law, begun_unasked, stored_pending}
use Rattle.incll_var.proofs.cells.CellBank.close_begin.Goals as goal

pub invariant_of-self : goal.invariant_of-self
invariant_of-self c =
    let b : CellBankState = record { bank = c.self.inside.bank; state = c.self.inside.state; todo = c.self.inside.todo; stored = c.self.inside.stored.lines } in
    let may : MayClose b.state = subst (λ (k : CellBankState). MayClose k.state) (sym c.self.view_is) c.requires in (
      subst (λ (s : CellState). IsCellBank (record b { state = s })) (sym c.closing-self-inside.ensures)
          (begin_law b c.len-count.result may c.len-count.ensures.len (c.len-count.ensures.len ∙ stored_pending b may c.self.invariant.0) c.self.invariant.0),
      c.self.invariant.1,
    )

pub returns-clause-count : goal.returns-clause-count
returns-clause-count c =
    let cells : IsCellBank c.args.self.now = subst IsCellBank c.self.view_is c.self.invariant.0 in
    c.len-count.ensures.len ∙ ap (λ (b : CellBankState). length b.stored) c.self.view_is ∙ stored_pending c.args.self.now c.requires cells

pub returns-clause-unasked : goal.returns-clause-unasked
returns-clause-unasked c =
    let cells : IsCellBank c.args.self.now = subst IsCellBank c.self.view_is c.self.invariant.0 in
    begun_unasked c.args.self.now c.requires cells ∙ sym (c.len-count.ensures.len ∙ ap (λ (b : CellBankState). length b.stored) c.self.view_is ∙ stored_pending c.args.self.now c.requires cells)

pub returns-clause-cells : goal.returns-clause-cells
returns-clause-cells c = (invariant_of-self c).0
