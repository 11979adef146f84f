use Rattle.std.proofs.Common.{◌≡◌, [], ℕ, sym, subst}
use Rattle.line_memory.specs.Line.{BankState, bank_load, unasked}
use Rattle.flush_list.specs.Lists.{FlushListState, cleared}
use Rattle.incll_var.specs.Stored.{KeepsList}
use Rattle.incll_var.proofs.Lists.{list_cleared}
use Rattle.incll_var.specs.declared.state.CellState.TheVariants.{Saved}
use Rattle.incll_var.specs.Cells.{CellBankState, IsCellBank, IsClosing, KeepsPlaces, epoch_of}
use Rattle.incll_var.proofs.Closings.{fence_law, fence_held, fence_loads, fence_room}
use Rattle.room_model.specs.Banks.{memory_words}
use Rattle.room_model.specs.Chains.{HasSameRoom}
use Rattle.incll_var.proofs.cells.CellBank.close_fence.Goals as goal

pub invariant_of-self : goal.invariant_of-self
invariant_of-self c =
    let b : CellBankState = record { bank = c.self.inside.bank; state = c.self.inside.state; todo = c.self.inside.todo; stored = c.self.inside.stored.lines } in
    let closing : IsClosing b.state = subst (λ (k : CellBankState). IsClosing k.state) (sym c.self.view_is) c.requires.closing in
    let asked : unasked b.bank.lines ≡ 0 = subst (λ (k : CellBankState). unasked k.bank.lines ≡ 0) (sym c.self.view_is) c.requires.asked in (
      subst (λ (f : FlushListState). IsCellBank (record { bank = c.fence.new.self; state = Saved c.epoch.result; todo = c.self.inside.todo; stored = f.lines })) (sym c.clear.ensures)
          (subst (λ (e : ℕ). IsCellBank (record { bank = c.fence.new.self; state = Saved e; todo = c.self.inside.todo; stored = [] })) (sym c.epoch.ensures)
          (fence_law b c.fence.new.self closing asked c.fence.ensures.is c.fence.ensures.whole c.self.invariant.0)),
      subst (KeepsList c.fence.new.self.lines) (sym c.clear.ensures)
          (subst (λ (k : BankState). KeepsList k.lines (cleared c.self.inside.stored)) (sym c.fence.ensures.is) (list_cleared b.bank.lines c.self.inside.stored c.self.invariant.0.lines c.self.invariant.1)),
    )

pub returns-clause-in_memory : goal.returns-clause-in_memory
returns-clause-in_memory c =
    let b : CellBankState = record { bank = c.self.inside.bank; state = c.self.inside.state; todo = c.self.inside.todo; stored = c.self.inside.stored.lines } in
    let closing : IsClosing b.state = subst (λ (k : CellBankState). IsClosing k.state) (sym c.self.view_is) c.requires.closing in
    let asked : unasked b.bank.lines ≡ 0 = subst (λ (k : CellBankState). unasked k.bank.lines ≡ 0) (sym c.self.view_is) c.requires.asked in
    subst (λ (k : CellBankState). memory_words (epoch_of k.state) c.fence.new.self ≡ memory_words (epoch_of k.state) k.bank) c.self.view_is (fence_held b c.fence.new.self closing asked c.fence.ensures.is c.self.invariant.0)

pub returns-clause-loads : goal.returns-clause-loads
returns-clause-loads c = subst (λ (k : CellBankState). HasSameRoom (bank_load c.fence.new.self) (bank_load k.bank)) c.self.view_is (fence_loads c.self.inside.bank c.fence.new.self c.self.invariant.0.lines c.fence.ensures.is)

pub returns-clause-room : goal.returns-clause-room
returns-clause-room c = subst (λ (k : CellBankState). KeepsPlaces k.bank c.fence.new.self) c.self.view_is (fence_room c.self.inside.bank c.fence.new.self c.self.invariant.0.lines c.fence.ensures.is)

pub returns-clause-cells : goal.returns-clause-cells
returns-clause-cells c = (invariant_of-self c).0
