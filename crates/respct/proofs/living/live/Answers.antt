use Rattle.std.proofs.Common.{rules}
use Rattle.script_text.specs.Program.{program_of}
use Rattle.script_text.specs.ReportText.{report_of}
use Rattle.respct.proofs.Lives.{is_report}
use Rattle.respct.proofs.living.live.Goals as goal

pub returns-clause-told : goal.returns-clause-told
returns-clause-told c =
    is_report c.args.life (program_of c.args.script.now) c.args.memory.now (report_of c.in_ok-report.report) c.replay_job.new.memory c.requires.script (search rules) c.requires.ready c.requires.words
    c.in_ok-report.ensures.told c.in_ok-report.ensures.run c.in_ok-report.ensures.ends c.in_ok-report.ensures.closes
