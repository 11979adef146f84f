use Rattle.std.proofs.Common.{◌≡◌, drop, map}
use Rattle.line_memory.specs.Line.{quiet_line}
use Rattle.crash_explorer.specs.Cut.{bare}
use Rattle.explore_example.specs.Recoveries.{all_worked}
use Rattle.explore_example.proofs.recovering.lines_worked.Given as goal

-- the events that are left make of the lines so far what all make of the first
abbrev pub invariant-loop-event : goal.invariant-loop-event
invariant-loop-event l = all_worked (drop l.event-index l.events) (bare l.bank.lines) ≡ all_worked l.events (map quiet_line l.fn.left.items)
