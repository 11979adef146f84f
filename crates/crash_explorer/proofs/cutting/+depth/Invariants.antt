use Rattle.std.proofs.Common.{ℕ, ◌+◌, ◌*◌, ◌-◌}
use Rattle.crash_explorer.specs.Cut.{bare}
use Rattle.crash_explorer.specs.Order.{ahead}
use Rattle.crash_explorer.proofs.Finding.{before}
use Rattle.crash_explorer.proofs.Cuts.{IsAt, IsMet, IsSampled}
use Rattle.crash_explorer.proofs.Inner.{AreInside}
use Rattle.crash_explorer.proofs.cutting.+depth.Given as goal

-- the depth, and within a depth how far a call is from the next recovery
abbrev pub decreases-try_left : goal.decreases-try_left
decreases-try_left g l = 4 * l.depth

abbrev pub decreases-try_cut : goal.decreases-try_cut
decreases-try_cut g l = 4 * l.depth + 2

abbrev pub decreases-try_all : goal.decreases-try_all
decreases-try_all g l = 4 * l.depth + 1

abbrev pub decreases-try_sample : goal.decreases-try_sample
decreases-try_sample g l = 4 * l.depth + 1

abbrev pub invariant-try_left-loop-i : goal.invariant-try_left-loop-i
invariant-try_left-loop-i g l = AreInside l.plan (g.S.Subject.cut l.subject) (l.depth - 1) l.left l.i l.effort

abbrev pub invariant-try_all-survivors : goal.invariant-try_all-survivors
invariant-try_all-survivors g l = record {
  n : ℕ;
  at : IsAt l.most l.kept.items n;
  met : IsMet l.plan (g.S.Subject.cut l.subject) l.depth (bare l.bank.lines) (before l.kept.items) n l.search;
}

abbrev pub decreases-try_all-survivors : goal.decreases-try_all-survivors
decreases-try_all-survivors g l = ahead l.kept.items l.most

abbrev pub invariant-try_sample-loop-j : goal.invariant-try_sample-loop-j
invariant-try_sample-loop-j g l = IsSampled l.plan (g.S.Subject.cut l.subject) l.depth (bare l.bank.lines) l.j l.effort
