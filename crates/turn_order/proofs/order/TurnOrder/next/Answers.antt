use Rattle.std.proofs.Common.{arith, ap}
use Rattle.script_text.specs.Program.{turns_of}
use Rattle.turn_order.proofs.Turns.{turn_round, turn_drawn, turn_listed}
use Rattle.turn_order.proofs.order.TurnOrder.next.Goals as goal
use Rattle.turn_order.proofs.order.TurnOrder.next.Goals.{in-RoundRobin, in-Seeded, in-Listed}

pub returns-clause-thread : goal.returns-clause-thread
returns-clause-thread c =
    elim c.match-mode.branch [
      | in-RoundRobin w ↦ grind (arith, turn_round)
      | in-Seeded w ↦ grind (arith, turn_drawn)
      | in-Listed w ↦
          turn_listed c.args.self.now.threads c.args.self.now.given c.match-mode.thread (turns_of c.args.mode.now) w.in-Listed.threads.items (ap turns_of w.in-Listed.is) (grind arith) (grind arith)
    ]
