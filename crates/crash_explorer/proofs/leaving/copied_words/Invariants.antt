use Rattle.std.proofs.Common.{◌≡◌, take}
use Rattle.crash_explorer.proofs.leaving.copied_words.Given as goal

abbrev pub invariant-loop-line : goal.invariant-loop-line
invariant-loop-line l = l.copy.items ≡ take l.line-index l.words
