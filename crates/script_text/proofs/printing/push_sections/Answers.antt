use Rattle.std.proofs.Common.{◌++◌, take, ap, ◌∙◌, List}
use Rattle.std.specs.String.{string_bytes}
use Rattle.seq_object.specs.declared.command.Command.{Command}
use Rattle.script_text.specs.Text.{ended, section_lines, sections_lines}
use Rattle.script_text.proofs.PrintLaws.{grown, lists, sections_pushed}
use Rattle.script_text.proofs.printing.push_sections.Goals as goal

pub loop-thread-preserved : goal.loop-thread-preserved
loop-thread-preserved c =
    let i = c.loop-thread.thread in
    let v = c.index-threads-thread.result in
    grown (string_bytes c.push_section.new.out) (string_bytes c.loop-thread.out) (string_bytes c.args.out.now) (ended (sections_lines 0 (lists (take i c.args.threads.now))))
    (ended (section_lines i v.items)) _ (c.in_ok-push_section.ensures ∙ ap (λ (cs : List Command). string_bytes c.loop-thread.out ++ ended (section_lines i cs)) c.as_slice.ensures.value) c.loop-thread.invariant (sections_pushed c.args.threads.now i v c.loop-thread-test.true c.index-threads-thread.is)
