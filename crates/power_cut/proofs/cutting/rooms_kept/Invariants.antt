use Rattle.std.proofs.Common.{◌≡◌, ◌++◌, drop}
use Rattle.room_model.specs.Image.{surviving_rooms, image_of}
use Rattle.store_order.specs.Choice.{IsDrawnTo}
use Rattle.power_cut.specs.Image.{lists_of, HaveWords}
use Rattle.power_cut.specs.Cut.{choosing, first_line}
use Rattle.power_cut.proofs.cutting.rooms_kept.Given as goal

abbrev pub invariant-loop-room : goal.invariant-loop-room
invariant-loop-room l = record {
  first : l.first ≡ first_line l.memory l.room;
  drawn : IsDrawnTo l.choice l.first l.words;
  words : HaveWords (lists_of l.rooms.items);
  kept : lists_of l.rooms.items ++ surviving_rooms (choosing l.choice l.memory) l.room (drop l.room l.memory) ≡ image_of l.memory (choosing l.choice l.memory);
}
