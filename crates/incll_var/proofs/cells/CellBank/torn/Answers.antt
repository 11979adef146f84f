use Rattle.std.proofs.Common.{◌≡◌, ℕ, List, sym, subst, rules}
use Rattle.incll_var.specs.declared.state.CellState.TheVariants.{Torn}
use Rattle.incll_var.specs.Cells.{IsCellBank}
use Rattle.incll_var.specs.Restore.{events_at}
use Rattle.incll_var.proofs.Tears.{torn_begins, Begins}
use Rattle.incll_var.proofs.cells.CellBank.torn.Goals as goal
use Rattle.incll_var.proofs.cells.CellBank.torn.Goals.{In_ok-stored, After-drop-tagged-2}

begins : (c : In_ok-stored) → Begins c.args.epoch c.args.bank c.reserve_tagged.new.bank c.in_ok-todo.todo
begins c =
    let is : c.in_ok-todo.todo ≡ events_at c.args.epoch c.reserve_tagged.new.bank.lines = search rules in
    torn_begins c.args.epoch c.args.bank c.reserve_tagged.new.bank c.in_ok-todo.todo c.requires c.reserve_tagged.ensures.same c.reserve_tagged.ensures.whole c.in_ok-reserve_tagged.ensures.room is

-- the same, where the function returns
begun : (c : After-drop-tagged-2) → Begins c.args.epoch c.args.bank c.reserve_tagged.new.bank c.in_ok-todo.todo
begun c =
    let is : c.in_ok-todo.todo ≡ events_at c.args.epoch c.reserve_tagged.new.bank.lines = search rules in
    torn_begins c.args.epoch c.args.bank c.reserve_tagged.new.bank c.in_ok-todo.todo c.requires c.reserve_tagged.ensures.same c.reserve_tagged.ensures.whole c.in_ok-reserve_tagged.ensures.room is

pub invariant_of-result : goal.invariant_of-result
invariant_of-result c = (
  subst (λ (xs : List ℕ). IsCellBank (record { bank = c.reserve_tagged.new.bank; state = Torn c.args.epoch; todo = c.in_ok-todo.todo; stored = xs })) (sym c.in_ok-stored.ensures.none) (begins c).cells,
  c.in_ok-stored.ensures.keeps,
)

pub returns-clause-events : goal.returns-clause-events
returns-clause-events c = (begun c).order

pub returns-clause-in_memory : goal.returns-clause-in_memory
returns-clause-in_memory c = (begun c).held

pub returns-clause-cells : goal.returns-clause-cells
returns-clause-cells c = subst (λ (xs : List ℕ). IsCellBank (record { bank = c.reserve_tagged.new.bank; state = Torn c.args.epoch; todo = c.in_ok-todo.todo; stored = xs })) (sym c.in_ok-stored.ensures.none) (begun c).cells
