use Rattle.std.proofs.Common.{arith, ap, refl, ◌∙◌}
use Rattle.line_memory.specs.Line.{unasked}
use Rattle.locked_map.proofs.TestRooms.{closing-is}
use Rattle.command_room.specs.Room.{CommandRoomState}
use Rattle.locked_map.proofs.tests.close.Goals as goal

pub loop-more-init : goal.loop-more-init
loop-more-init c = record {
  state = ap (λ (s : CommandRoomState). s.cells.state) c.close_begin-count.ensures.is ∙ closing-is c.close_begin-count.result c.args.epoch c.args.room.now.cells.state c.requires.state c.if-count-eq0.false;
  settings = refl;
  number = refl;
  idle = ap (λ (s : CommandRoomState). s.under_way) c.close_begin-count.ensures.is ∙ c.requires.idle.idle;
  some = λ e. omega (arith, ap (λ (s : CommandRoomState). unasked s.cells.bank.lines) c.close_begin-count.ensures.is, c.close_begin-count.ensures.unasked, c.if-count-eq0.false);
  none = λ e. search;
}
