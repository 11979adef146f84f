use Rattle.std.proofs.Common.{◌≡◌, ℕ, ◌+◌, List, [], ◌∷◌, ◌++◌, false, length, length-append, sym, ap, ◌∙◌, arith}
use Rattle.seq_object.specs.declared.command.Command.{Command}
use Rattle.script_text.specs.Reading.{left_of}
use Rattle.script_text.specs.Sections.{ends_section, commands_at}
use Rattle.script_text.proofs.Fronts.{with_front_and_rest, front_and_rest_more}
use Rattle.script_text.proofs.SectionLemmas.{commands_more, commands_too_many}
use Rattle.script_text.proofs.sections.commands.Goals as goal

pub returns-then-len-ge-MOST_COMMANDS-clause-reads :
    goal.returns-then-len-ge-MOST_COMMANDS-clause-reads
returns-then-len-ge-MOST_COMMANDS-clause-reads c =
    let go : ends_section c.in_ok-text.text.now ≡ false = sym c.is_section_end.ensures ∙ c.if-is_section_end.false in
    let last = commands_too_many (length c.loop-commands.commands.items) (left_of c.loop-commands.place) c.in_ok-text.text.now (left_of c.in_ok-text.behind) c.in_ok-command.command c.in_ok-text.ensures.reads go (sym c.in_ok-command.ensures) (omega arith) in
    sym c.loop-commands.invariant.reads ∙ ap (with_front_and_rest c.loop-commands.commands.items) last

pub loop-commands-preserved : goal.loop-commands-preserved
loop-commands-preserved c =
    let go : ends_section c.in_ok-text.text.now ≡ false = sym c.is_section_end.ensures ∙ c.if-is_section_end.false in
    let more = commands_more (length c.loop-commands.commands.items) (left_of c.loop-commands.place) c.in_ok-text.text.now (left_of c.in_ok-text.behind) c.in_ok-command.command c.in_ok-text.ensures.reads go (sym c.in_ok-command.ensures) (omega arith) in
    let pushed = c.in_ok-push.ensures.items in
    let longer = length-append c.loop-commands.commands.items (c.in_ok-command.command ∷ []) in
    record {
      few = omega (arith, ap length pushed, longer);
      counted = omega (arith, ap length pushed, longer, c.in_ok-text.ensures.next);
      reads =
          ap (λ (xs : List Command). with_front_and_rest xs (commands_at (length xs) (left_of c.in_ok-text.behind))) pushed
          ∙ ap (λ (n : ℕ). with_front_and_rest (c.loop-commands.commands.items ++ c.in_ok-command.command ∷ []) (commands_at n (left_of c.in_ok-text.behind))) longer
          ∙ sym (ap (with_front_and_rest c.loop-commands.commands.items) more ∙ front_and_rest_more c.loop-commands.commands.items c.in_ok-command.command (commands_at (length c.loop-commands.commands.items + 1) (left_of c.in_ok-text.behind)))
          ∙ c.loop-commands.invariant.reads;
    }
