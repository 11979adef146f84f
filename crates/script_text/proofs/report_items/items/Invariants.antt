use Rattle.std.proofs.Common.{◌≡◌, ◌+◌, ◌<◌, ◌^◌, length}
use Rattle.script_text.specs.Reading.{left_of}
use Rattle.script_text.specs.ReportReading.{items_at}
use Rattle.script_text.proofs.ReportSteps.{with_items}
use Rattle.script_text.proofs.report_items.items.Given as goal

-- the entries and marks so far, and then those that are left, are all
abbrev pub invariant-loop-marks : goal.invariant-loop-marks
invariant-loop-marks l = record {
  near : l.place.line + length l.place.rest.now + 1 < 2 ^ 32;
  reads : with_items l.entries.items l.marks.items (items_at l.last (length l.entries.items) (left_of l.place)) ≡ items_at l.began 0 (left_of l.fn.place);
}

abbrev pub decreases-loop-marks : goal.decreases-loop-marks
decreases-loop-marks l = length l.place.rest.now
