use Rattle.std.proofs.Common.{◌≡◌, ◌+◌, ◌<◌, ◌^◌, length}
use Rattle.script_text.specs.Reading.{left_of}
use Rattle.script_text.specs.ReportReading.{held_at}
use Rattle.script_text.proofs.Fronts.{with_front_and_rest}
use Rattle.script_text.proofs.report_rooms.held_rooms.Given as goal

-- the rooms so far, and then those that are left, are all
abbrev pub invariant-loop-rooms : goal.invariant-loop-rooms
invariant-loop-rooms l = record {
  near : l.place.line + length l.place.rest.now + 1 < 2 ^ 32;
  reads : with_front_and_rest l.rooms.items (held_at l.low (left_of l.place)) ≡ held_at 0 (left_of l.fn.place);
}

abbrev pub decreases-loop-rooms : goal.decreases-loop-rooms
decreases-loop-rooms l = length l.place.rest.now
