use Rattle.std.proofs.Common.{◌≡◌, ◌+◌, ◌++◌, drop, length}
use Rattle.std.specs.String.{string_bytes}
use Rattle.life_model.specs.Life.{AreRising, lengths}
use Rattle.script_text.specs.Text.{ended}
use Rattle.script_text.specs.ReportText.{item_lines}
use Rattle.script_text.proofs.reporting.push_items.Given as goal

-- what is written, and then what is left, is all
abbrev pub invariant-loop-mark : goal.invariant-loop-mark
invariant-loop-mark l = record {
  marked : AreRising l.above (lengths (drop l.mark-index l.marks)) (length l.entries);
  counted : l.above + length l.rest ≡ length l.entries;
  written : string_bytes l.out ++ ended (item_lines l.above l.rest (drop l.mark-index l.marks)) ≡ string_bytes l.fn.out ++ ended (item_lines 0 l.entries l.marks);
}
