use Rattle.std.proofs.Common.{◌≡◌, ℕ, ◌<◌, length, sym, ap, ◌∙◌, subst}
use Rattle.line_memory.specs.Line.{BankState, bank_load, line_at}
use Rattle.room_model.specs.Cell.{tag_of}
use Rattle.room_model.specs.Chains.{HasSameRecords}
use Rattle.room_model.specs.MapRoom.{live_layout}
use Rattle.room_model.specs.Formatted.{formatted, first_node}
use Rattle.formatting.proofs.ByRoom.{formatted_lines, formatted_quiet, no_tag, cells_load}
use Rattle.formatting.proofs.banks.format_room.Goals as goal

pub returns-clause-lines : goal.returns-clause-lines
returns-clause-lines c = ap (λ (b : BankState). length b.lines) c.in_ok-bank.ensures ∙ formatted_lines c.args.sizes c.args.room

pub returns-clause-quiet : goal.returns-clause-quiet
returns-clause-quiet c = λ line. ap (λ (b : BankState). (line_at b.lines line).pending) c.in_ok-bank.ensures ∙ formatted_quiet c.args.sizes c.args.room line

pub returns-clause-tags : goal.returns-clause-tags
returns-clause-tags c = subst (λ (b : BankState). (line : ℕ) → line < length b.lines → tag_of (line_at b.lines line).base ≡ 0) (sym c.in_ok-bank.ensures)
    (λ line within. no_tag c.args.sizes c.args.room line c.requires.valid (subst (λ (n : ℕ). line < n) (formatted_lines c.args.sizes c.args.room) within))

pub returns-clause-loads : goal.returns-clause-loads
returns-clause-loads c = λ few. subst (λ (b : BankState). HasSameRecords (bank_load b) (formatted (first_node live_layout c.args.sizes c.args.room))) (sym c.in_ok-bank.ensures)
    (cells_load c.args.sizes c.args.room c.requires.valid few)
