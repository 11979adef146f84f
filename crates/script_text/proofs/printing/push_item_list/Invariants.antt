use Rattle.std.proofs.Common.{◌≡◌, ◌++◌, take}
use Rattle.std.specs.String.{string_bytes}
use Rattle.script_text.specs.Program.{these}
use Rattle.script_text.specs.Text.{spaced, keep_words}
use Rattle.script_text.proofs.printing.push_item_list.Given as goal

-- the items so far are written
abbrev pub invariant-loop-item : goal.invariant-loop-item
invariant-loop-item l = string_bytes l.out ≡ string_bytes l.fn.out ++ spaced (keep_words (these (take l.item-index l.items)))
