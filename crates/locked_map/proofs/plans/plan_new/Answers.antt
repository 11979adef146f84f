use Rattle.line_memory.specs.Line.{bank_load}
use Rattle.std.proofs.Common.{subst, sym, ℕ}
use Rattle.room_laws.specs.Stocks.{IsHeader}
use Rattle.locked_map.proofs.plans.plan_new.Goals as goal

pub plan_take-requires-clause-header : goal.plan_take-requires-clause-header
plan_take-requires-clause-header c = subst (λ (n : ℕ). IsHeader n (bank_load c.args.cells.now.bank)) (sym c.requires.room.lines) c.requires.place.bounds.header
