use Rattle.std.proofs.Common.{◌<◌, ℕ, List, length, sym, subst, ap}
use Rattle.line_memory.specs.Line.{BankState, line_at}
use Rattle.flush_list.specs.Lists.{FlushListState}
use Rattle.incll_var.specs.Cells.{CellBankState, IsCellBank, HasSameCells}
use Rattle.incll_var.specs.Stored.{KeepsList}
use Rattle.incll_var.proofs.MoreRoom.{same_cells, spare_same}
use Rattle.incll_var.proofs.cells.CellBank.reserve.Goals as goal
use Rattle.incll_var.proofs.cells.CellBank.reserve.Goals.{After-reserve}

same : (c : After-reserve) → HasSameCells c.self.inside.bank c.reserve.new.self
same c =
    let within : c.args.line < length c.self.inside.bank.lines = subst (λ (b : CellBankState). c.args.line < length b.bank.lines) (sym c.self.view_is) c.requires in
    spare_same c.self.inside.bank c.reserve.new.self c.args.line (line_at c.reserve.new.self.lines c.args.line).spare within c.reserve.ensures.kept c.reserve.ensures.same

pub returns-clause-same : goal.returns-clause-same
returns-clause-same c = subst (λ (b : CellBankState). HasSameCells b.bank c.reserve.new.self) c.self.view_is (same c)

pub invariant_of-self-2 : goal.invariant_of-self-2
invariant_of-self-2 c =
    let b : CellBankState = record { bank = c.self.inside.bank; state = c.self.inside.state; todo = c.self.inside.todo; stored = c.self.inside.stored.lines } in (
      subst (λ (xs : List ℕ). IsCellBank (record b { bank = c.reserve.new.self; stored = xs })) (sym (ap (λ (f : FlushListState). f.lines) c.place_for.ensures.same))
          (same_cells b c.reserve.new.self (same c) c.reserve.ensures.whole c.self.invariant.0),
      subst (λ (k : BankState). KeepsList k.lines c.place_for.new.list) (sym c.reserve.ensures.same) (c.in_ok-place_for.ensures.place (line_at c.reserve.new.self.lines c.args.line).spare),
    )

pub returns-clause-cells : goal.returns-clause-cells
returns-clause-cells c = (invariant_of-self-2 c).0
