use Rattle.std.proofs.Common.{sym, ap, ◌∙◌, Err}
use Rattle.script_text.proofs.ReportSteps.{no_entry_of}
use Rattle.script_text.proofs.report_entries.entry.Goals as goal

-- a second equals sign
pub returns-in-Some-more : goal.returns-in-Some-more
returns-in-Some-more c =
    let first = rw c.in-Some.is at c.first_piece.ensures.cut in
    let second = rw c.in-Some-more.is at c.first_piece-2.ensures.cut in
    ap Err c.no_entry-in-Some-more.ensures ∙ sym (no_entry_of c.args.line c.args.text.now c.first_piece.result.0.now c.in-Some.rest.now c.first_piece-2.result.0.now c.in-Some-more.field-0.now first second)
