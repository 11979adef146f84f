use Rattle.std.proofs.Common.{◌≡◌, drop, length}
use Rattle.room_model.specs.Writes.{touches}
use Rattle.incll_var.proofs.plan.Plan.touches.Given as goal

abbrev pub invariant-loop-place : goal.invariant-loop-place
invariant-loop-place l = (touches l.line (drop l.place l.self.stores) ≡ touches l.line l.self.stores) × (l.place-end ≡ length l.self.stores)
