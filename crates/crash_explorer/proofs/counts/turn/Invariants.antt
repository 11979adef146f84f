use Rattle.std.proofs.Common.{◌≡◌}
use Rattle.crash_explorer.specs.Cut.{AreWithin}
use Rattle.crash_explorer.specs.Order.{advanced}
use Rattle.crash_explorer.proofs.Advancing.{has_next, advanced_from, has_next_from}
use Rattle.crash_explorer.proofs.counts.turn.Given as goal

abbrev pub invariant-loop-i : goal.invariant-loop-i
invariant-loop-i l = record {
  within : AreWithin l.kept l.most;
  now : advanced_from l.i l.kept l.most ≡ advanced l.fn.kept l.most;
  more : has_next_from l.i l.kept l.most ≡ has_next l.fn.kept l.most;
}
