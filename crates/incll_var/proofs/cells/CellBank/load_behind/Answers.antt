use Rattle.std.proofs.Common.{◌≡◌, ◌≤◌, List, [], length, drop, refl, sym, ap, ◌∙◌, subst}
use Rattle.std.proofs.Math.ListN.{drop_of_length-le}
use Rattle.line_memory.specs.Line.{bank_load}
use Rattle.room_model.specs.declared.write.PlannedStore.{PlannedStore}
use Rattle.incll_var.proofs.PlannedLoads.{latest_to, latest_stored}
use Rattle.incll_var.proofs.cells.CellBank.load_behind.Goals as goal

pub returns : goal.returns
returns c =
    let stores = c.args.plan.now.stores in
    let now = c.args.self.now in
    let ended : drop c.loop-place.place stores ≡ [] = drop_of_length-le stores (subst (λ n. n ≤ c.loop-place.place) c.left-place-end.ensures c.loop-place-test.false) in
    ap (λ (ss : List PlannedStore). latest_to c.args.line c.args.word c.loop-place.behind ss) (sym ended)
    ∙ c.loop-place.invariant.0
    ∙ latest_stored c.args.line c.args.word (bank_load now.bank c.args.line c.args.word) stores (bank_load now.bank) refl
