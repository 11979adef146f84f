use Rattle.std.proofs.Common.{ℕ, ◌++◌, List, Vec, Global, ap, ◌∙◌}
use Rattle.std.specs.String.{string_bytes}
use Rattle.seq_object.specs.declared.command.Command.{Command}
use Rattle.script_text.specs.Program.{program_of}
use Rattle.script_text.specs.Text.{ended, sections_lines}
use Rattle.script_text.proofs.PrintLaws.{lists, written}
use Rattle.script_text.proofs.printing.print.Goals as goal

pub returns : goal.returns
returns c =
    ap (λ (v : Vec ℕ Global). v.items) c.into_bytes.ensures.value
    ∙ written (program_of c.args.script.now) (string_bytes c.new-out.result) (string_bytes c.writeln.new.self) (string_bytes c.push_settings.new.out) (string_bytes c.push_turns.new.out)
    (string_bytes c.push_keep.new.out) (string_bytes c.push_sections.new.out) (string_bytes c.push_end.new.out)
    c.new-out.ensures.bytes c.in_ok-writeln.ensures.bytes c.in_ok-push_settings.ensures c.in_ok-push_turns.ensures c.in_ok-push_keep.ensures
    (c.in_ok-push_sections.ensures ∙ ap (λ (vs : List (Vec Command Global)). string_bytes c.push_keep.new.out ++ ended (sections_lines 0 (lists vs))) c.deref.ensures.value)
    c.in_ok-push_end.ensures
