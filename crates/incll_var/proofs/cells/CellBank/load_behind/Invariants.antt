use Rattle.std.proofs.Common.{◌≡◌, drop, length}
use Rattle.line_memory.specs.Line.{bank_load}
use Rattle.incll_var.proofs.PlannedLoads.{latest_to}
use Rattle.incll_var.proofs.cells.CellBank.load_behind.Given as goal

abbrev pub invariant-loop-place : goal.invariant-loop-place
invariant-loop-place l = (latest_to l.line l.word l.behind (drop l.place l.plan.stores) ≡ latest_to l.line l.word (bank_load l.self.bank l.line l.word) l.plan.stores) × (l.place-end ≡ length l.plan.stores)
