use Rattle.std.proofs.Common.{ap, ◌∙◌}
use Rattle.locked_map.proofs.TestRooms.{played-state}
use Rattle.command_room.specs.Room.{CommandRoomState}
use Rattle.locked_map.proofs.tests.finish.Goals as goal

pub loop-room-preserved : goal.loop-room-preserved
loop-room-preserved c = record {
  settings = ap (λ (s : CommandRoomState). s.settings) c.step.ensures.is ∙ c.loop-room.invariant.settings;
  number = ap (λ (s : CommandRoomState). s.room) c.step.ensures.is ∙ c.loop-room.invariant.number;
  state = ap (λ (s : CommandRoomState). s.cells.state) c.step.ensures.is ∙ played-state c.loop-room.room.cells c.loop-room.room.plan.stores ∙ c.loop-room.invariant.state;
  under = ap (λ (s : CommandRoomState). s.under_way) c.step.ensures.is ∙ c.loop-room.invariant.under;
}
