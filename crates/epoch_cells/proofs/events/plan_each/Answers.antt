use Rattle.std.proofs.Common.{ℕ, List, ◌++◌, take, get_or, ap, sym, ◌∙◌, add-one}
use Rattle.line_memory.specs.Line.{bank_load}
use Rattle.room_model.specs.declared.write.Write.{Write}
use Rattle.room_model.specs.declared.write.PlannedStore.{PlannedStore}
use Rattle.room_model.specs.Writes.{write, stores_behind, write_stores}
use Rattle.incll_var.specs.Cells.{epoch_of}
use Rattle.incll_var.specs.Plans.{PlanState}
use Rattle.epoch_cells.proofs.Written.{write_within, one_more}
use Rattle.epoch_cells.proofs.events.plan_each.Goals as goal

pub plan_write-requires-clause-line : goal.plan_write-requires-clause-line
plan_write-requires-clause-line c = (write_within _ c.args.writes.now c.loop-write.write-index (write 0 0 0) c.requires.within c.loop-write-test.true).0

pub plan_write-requires-clause-word : goal.plan_write-requires-clause-word
plan_write-requires-clause-word c = (write_within _ c.args.writes.now c.loop-write.write-index (write 0 0 0) c.requires.within c.loop-write-test.true).1

pub loop-write-preserved : goal.loop-write-preserved
loop-write-preserved c =
    let e = epoch_of c.args.cells.now.state in
    let r = bank_load c.args.cells.now.bank in
    let before : List PlannedStore = c.args.plan.now.stores in
    let xs : List Write = c.args.writes.now in
    let k : ℕ = c.loop-write.write-index in
    record {
      stores = ap (λ (p : PlanState). p.stores) c.in_ok-plan_write.ensures.ok
          ∙ ap (λ (ss : List PlannedStore). ss ++ write_stores e r ss (get_or xs k (write 0 0 0))) c.loop-write.invariant.stores
          ∙ sym (one_more e r before xs k (write 0 0 0) c.loop-write-test.true) ∙ ap (λ (j : ℕ). stores_behind e r before (take j xs)) (sym (add-one k));
      planned = c.in_ok-plan_write.ensures.planned c.loop-write.invariant.planned;
    }
