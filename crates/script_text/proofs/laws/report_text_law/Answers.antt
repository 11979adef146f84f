use Rattle.script_text.proofs.ReportReadLaws.{report_texts}
use Rattle.script_text.proofs.laws.report_text_law.Goals as goal

pub returns : goal.returns
returns c = report_texts
