use Rattle.std.proofs.Common.{◌<◌}
use Rattle.script_text.specs.Program.{turns_of}
use Rattle.turn_order.specs.Orders.{IsOrderOf}
use Rattle.turn_order.proofs.tests.gives.Given as goal

-- there are threads, and the order is one of the mode
abbrev pub invariant-loop-thread : goal.invariant-loop-thread
invariant-loop-thread l = (0 < l.order.threads) × IsOrderOf (turns_of l.mode) l.order
