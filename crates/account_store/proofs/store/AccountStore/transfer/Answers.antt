use Rattle.std.proofs.Common.{ℕ, ◌+◌, ◌-◌, slice_index, ap, sym, ◌∙◌, subst}
use Rattle.epoch_cells.specs.Cells.{EpochCellsState}
use Rattle.account_store.specs.Accounts.{balances}
use Rattle.account_store.proofs.Balances.{MayMove, AreOfTransfer, begun}
use Rattle.account_store.proofs.store.AccountStore.transfer.Goals as goal

pub invariant_of-self-2 : goal.invariant_of-self-2
invariant_of-self-2 c =
    let s : EpochCellsState = c.self.inside.cells in
    let may : MayMove s c.args.from c.args.to c.args.amount =
    subst (λ (k : EpochCellsState). MayMove k c.args.from c.args.to c.args.amount) (sym c.self.view_is) (record { from_is = c.requires.from; to_is = c.requires.to; two = c.requires.two; enough = c.requires.enough }) in
    let writes : AreOfTransfer s c.args.from c.args.to c.args.amount c.as_slice.result.now = record {
      less = _;
      more = _;
      less_is = ap (λ (x : ℕ). x - c.args.amount) (c.balance.ensures.balance ∙ ap (λ (k : EpochCellsState). slice_index (balances k) c.args.from) (sym c.self.view_is));
      more_is = ap (λ (x : ℕ). x + c.args.amount) (c.balance-2.ensures.balance ∙ ap (λ (k : EpochCellsState). slice_index (balances k) c.args.to) (sym c.self.view_is));
      are = c.as_slice.ensures;
    } in
    begun c.column_laws.ensures.count c.column_laws.ensures.writes s c.write.new.self c.args.from c.args.to c.args.amount c.as_slice.result.now c.self.invariant may writes c.write.ensures.whole c.in_ok-write.ensures.written c.write.ensures.saved

pub returns-clause-whole : goal.returns-clause-whole
returns-clause-whole c =
    let s : EpochCellsState = c.self.inside.cells in
    let may : MayMove s c.args.from c.args.to c.args.amount =
    subst (λ (k : EpochCellsState). MayMove k c.args.from c.args.to c.args.amount) (sym c.self.view_is) (record { from_is = c.requires.from; to_is = c.requires.to; two = c.requires.two; enough = c.requires.enough }) in
    let writes : AreOfTransfer s c.args.from c.args.to c.args.amount c.as_slice.result.now = record {
      less = _;
      more = _;
      less_is = ap (λ (x : ℕ). x - c.args.amount) (c.balance.ensures.balance ∙ ap (λ (k : EpochCellsState). slice_index (balances k) c.args.from) (sym c.self.view_is));
      more_is = ap (λ (x : ℕ). x + c.args.amount) (c.balance-2.ensures.balance ∙ ap (λ (k : EpochCellsState). slice_index (balances k) c.args.to) (sym c.self.view_is));
      are = c.as_slice.ensures;
    } in
    begun c.column_laws.ensures.count c.column_laws.ensures.writes s c.write.new.self c.args.from c.args.to c.args.amount c.as_slice.result.now c.self.invariant may writes c.write.ensures.whole c.in_ok-write.ensures.written c.write.ensures.saved
