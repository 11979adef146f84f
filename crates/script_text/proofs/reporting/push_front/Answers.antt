use Rattle.std.proofs.lemmas.Result.{on_ok_weaker}
use Rattle.std.specs.String.{string_bytes}
use Rattle.script_text.specs.ReportText.{report_of}
use Rattle.script_text.proofs.ReportLaws.{front_written}
use Rattle.script_text.proofs.reporting.push_front.Goals as goal

pub returns : goal.returns
returns c =
    on_ok_weaker c.writeln-2.result
    (λ e. front_written (report_of c.args.report.now) (string_bytes c.args.out.now) (string_bytes c.writeln.new.self) (string_bytes c.push_life.new.out) (string_bytes c.writeln-2.new.self) c.in_ok-writeln.ensures.bytes c.in_ok-push_life.ensures e)
    c.writeln-2.ensures.bytes
