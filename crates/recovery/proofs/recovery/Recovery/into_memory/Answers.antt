use Rattle.std.proofs.Common.{◌<◌, ◌^◌, sym, subst}
use Rattle.line_memory.specs.Line.{all_lines}
use Rattle.room_yard.specs.World.{WorldState, memory_of}
use Rattle.recovery.proofs.Endings.{few_lines}
use Rattle.recovery.proofs.recovery.Recovery.into_memory.Goals as goal

pub memory-requires-clause-lines : goal.memory-requires-clause-lines
memory-requires-clause-lines c =
    subst (λ (w : WorldState). all_lines (memory_of w.rooms) < 2 ^ 32) (sym c.of-world.ensures)
    (few_lines c.self.invariant.some (record { settings = c.self.inside.settings; rooms = c.self.inside.rooms.items; stage = c.self.inside.stage }) c.self.invariant.about)
