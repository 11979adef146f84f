use Rattle.std.proofs.Common.{refl, sym, ◌∙◌}
use Rattle.script_text.specs.ReportText.{report_of}
use Rattle.script_text.proofs.ReportReadLaws.{report_found, report_only}
use Rattle.script_text.proofs.report_reading.read_report.Goals as goal

pub returns-in-Ok-clause-found : goal.returns-in-Ok-clause-found
returns-in-Ok-clause-found c = report_found c.args.text.now (report_of c.in-Ok.report) c.in-Ok.ensures

pub returns-in-Ok-clause-only : goal.returns-in-Ok-clause-only
returns-in-Ok-clause-only c r is = sym (report_only c.args.text.now r is) ∙ c.in-Ok.ensures

pub returns-in-Err-Fault-clause-only : goal.returns-in-Err-Fault-clause-only
returns-in-Err-Fault-clause-only c r is =
    let fails = rw c.in-Err-Fault.field-0-is at c.in-Err-Fault.ensures in
    (c.in-Err-Fault.fault, sym (report_only c.args.text.now r is) ∙ fails, refl)
