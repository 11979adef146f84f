use Rattle.std.proofs.Common.{◌≡◌, ◌++◌, drop}
use Rattle.std.specs.String.{string_bytes}
use Rattle.explore_example.specs.Words.{lines_text}
use Rattle.explore_example.proofs.telling.push_lines.Given as goal

-- the lines so far are written, and those that are left follow
abbrev pub invariant-loop-line : goal.invariant-loop-line
invariant-loop-line l = string_bytes l.out ++ lines_text l.line (drop l.line l.kept) l.pending ≡ string_bytes l.fn.out ++ lines_text 0 l.kept l.pending
