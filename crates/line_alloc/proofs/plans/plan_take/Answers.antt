use Rattle.std.proofs.Common.{◌≢◌, ◌∙◌, rules, length}
use Rattle.line_memory.specs.Line.{bank_load}
use Rattle.line_alloc.proofs.Taken.{free_taken, free_left, taken_map, taken_queue}
use Rattle.line_alloc.proofs.plans.plan_take.Goals as goal

free : (c : goal.After-take) → bank_load c.args.cells.now.bank 0 0 ≢ 0
free c = search rules

pub returns-then-free-ne0-clause-map : goal.returns-then-free-ne0-clause-map
returns-then-free-ne0-clause-map c =
    let r = bank_load c.args.cells.now.bank in
    let lines = length c.args.cells.now.bank.lines in
    taken_map c.take.result lines r c.load-free.result c.take.ensures.line (c.load-free.ensures ∙ free_taken r (free c)) (free_left lines r (free c))

pub returns-then-free-ne0-clause-queue : goal.returns-then-free-ne0-clause-queue
returns-then-free-ne0-clause-queue c =
    let r = bank_load c.args.cells.now.bank in
    let lines = length c.args.cells.now.bank.lines in
    taken_queue c.take.result lines r c.load-free.result c.take.ensures.line (c.load-free.ensures ∙ free_taken r (free c)) (free_left lines r (free c))
