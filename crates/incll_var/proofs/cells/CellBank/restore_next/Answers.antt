use Rattle.std.proofs.Common.{◌≡◌, length, sym, subst, ap, ◌∙◌}
use Rattle.line_memory.specs.Line.{BankState, bank_load}
use Rattle.incll_var.specs.Cells.{CellBankState, IsCellBank, MayRestore, KeepsPlaces, epoch_of}
use Rattle.incll_var.proofs.Lists.{list_kept}
use Rattle.incll_var.proofs.Restores.{restoring_stored, none_stored_to, event_count, do_law, ended_restored, HasDone}
use Rattle.incll_var.proofs.RestoreRuns.{restored_loads}
use Rattle.room_model.specs.Banks.{memory_words}
use Rattle.incll_var.proofs.cells.CellBank.restore_next.Goals as goal

pub returns-then-is_empty-clause-loads : goal.returns-then-is_empty-clause-loads
returns-then-is_empty-clause-loads c = λ torn none line w lt.
    let now = c.args.self.now in
    let cells : IsCellBank now = subst IsCellBank c.self.view_is c.self.invariant.0 in
    ap (λ (b : CellBankState). bank_load b.bank line w) c.self.view_is
    ∙ sym (restored_loads (epoch_of now.state) now.bank (ended_restored now none cells torn) line w lt)

behind : (c : goal.After-do_event) → HasDone c.self.inside.state c.take_first-event.result c.self.inside.bank c.do_event.new.bank c.take_first-event.new.self
behind c =
    let b : CellBankState = record { bank = c.self.inside.bank; state = c.self.inside.state; todo = c.self.inside.todo; stored = c.self.inside.stored.lines } in
    let may : MayRestore b.state = subst (λ (k : CellBankState). MayRestore k.state) (sym c.self.view_is) c.requires in
    do_law b c.take_first-event.result c.do_event.new.bank c.take_first-event.new.self may c.take_first-event.ensures c.do_event.ensures.bank c.self.invariant.0

pub invariant_of-self-2 : goal.invariant_of-self-2
invariant_of-self-2 c =
    let may : MayRestore c.self.inside.state = subst (λ (k : CellBankState). MayRestore k.state) (sym c.self.view_is) c.requires in (
      record {
        lines = c.do_event.ensures.whole;
        cells = (behind c).cells;
        todo = (behind c).todo;
        stored = restoring_stored c.self.inside.state c.self.inside.bank.lines c.do_event.new.bank.lines c.self.inside.stored.lines may c.self.invariant.0.stored;
      },
      list_kept c.self.inside.bank.lines c.do_event.new.bank.lines c.self.inside.stored (none_stored_to c.self.inside.state c.self.inside.bank.lines c.self.inside.stored.lines may c.self.invariant.0.stored)
          (ap (λ (k : BankState). length k.lines) c.do_event.ensures.bank ∙ event_count c.take_first-event.result c.self.inside.bank) (behind c).room c.self.invariant.1,
    )

pub returns-clause-in_memory : goal.returns-clause-in_memory
returns-clause-in_memory c = subst (λ (b : CellBankState). memory_words (epoch_of b.state) c.do_event.new.bank ≡ memory_words (epoch_of b.state) b.bank) c.self.view_is (behind c).held

pub returns-clause-room : goal.returns-clause-room
returns-clause-room c = subst (λ (b : CellBankState). KeepsPlaces b.bank c.do_event.new.bank) c.self.view_is (behind c).room

pub returns-clause-cells : goal.returns-clause-cells
returns-clause-cells c = (invariant_of-self-2 c).0
