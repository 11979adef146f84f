use Rattle.std.proofs.Common.{◌≡◌, ◌++◌, drop}
use Rattle.std.specs.String.{string_bytes}
use Rattle.explore_example.specs.Words.{inside_text}
use Rattle.explore_example.proofs.telling.push_inside.Given as goal

-- the cuts so far are written, and those that are left follow
abbrev pub invariant-loop-cut : goal.invariant-loop-cut
invariant-loop-cut l = string_bytes l.out ++ inside_text (drop l.cut-index l.cuts) ≡ string_bytes l.fn.out ++ inside_text l.cuts
