use Rattle.std.proofs.Common.{◌≡◌, ◌++◌, take}
use Rattle.std.specs.String.{string_bytes}
use Rattle.script_text.specs.Program.{listed}
use Rattle.script_text.specs.Text.{spaced, turns_words}
use Rattle.script_text.proofs.printing.push_turn_list.Given as goal

-- the turns so far are written
abbrev pub invariant-loop-thread : goal.invariant-loop-thread
invariant-loop-thread l = string_bytes l.out ≡ string_bytes l.fn.out ++ spaced (turns_words (listed (take l.thread-index l.threads)))
