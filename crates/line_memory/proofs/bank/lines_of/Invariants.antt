use Rattle.std.proofs.Common.{◌≡◌, take, map}
use Rattle.line_memory.specs.Line.{quiet_line, AreLines}
use Rattle.line_memory.proofs.bank.lines_of.Given as goal

-- a line for each of the words so far
abbrev pub invariant-loop-words : goal.invariant-loop-words
invariant-loop-words l = (l.lines.items ≡ map quiet_line (take l.words-index l.base)) × AreLines l.lines.items
