use Rattle.std.proofs.Common.{◌%◌, ◌∙◌, ap, ℕ}
use Rattle.drill.specs.Scripts.{drawn_place}
use Rattle.drill.proofs.Drawing.{behind_word, behind_command, command_drawn}
use Rattle.drill.proofs.scripts.drawn_command.Goals as goal

pub returns-clause-command : goal.returns-clause-command
returns-clause-command c =
    let second = behind_word c.args.n (drawn_place c.args.thread c.args.index) c.args.words.now c.next_word-kind.new.self c.requires.drawn (ap (λ (p : ℕ × ℕ). p.1) c.next_word-kind.ensures) in
    c.command.ensures
    ∙ command_drawn c.args.n c.args.thread c.args.index c.args.words.now c.next_word-kind.new.self _ _ _ c.requires.drawn second
    (ap (λ (p : ℕ × ℕ). p.0 % 8) c.next_word-kind.ensures) (ap (λ (p : ℕ × ℕ). p.0 % 100) c.next_word-key.ensures) c.from-value.ensures

pub returns-clause-drawn : goal.returns-clause-drawn
returns-clause-drawn c =
    let second = behind_word c.args.n (drawn_place c.args.thread c.args.index) c.args.words.now c.next_word-kind.new.self c.requires.drawn (ap (λ (p : ℕ × ℕ). p.1) c.next_word-kind.ensures) in
    behind_command c.args.n c.args.thread c.args.index c.next_word-kind.new.self c.next_word-key.new.self second (ap (λ (p : ℕ × ℕ). p.1) c.next_word-key.ensures)
