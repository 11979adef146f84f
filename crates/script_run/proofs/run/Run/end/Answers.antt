use Rattle.std.proofs.Common.{◌≡◌, List, sym, subst}
use Rattle.life_model.specs.Life.{reported}
use Rattle.yard_model.specs.declared.view.Beginning.{Beginning}
use Rattle.yard_model.specs.declared.view.Checkpoint.{Checkpoint}
use Rattle.yard_model.specs.Beginnings.{opening_of, marks_of}
use Rattle.script_run.specs.Ends.{HasSpace, TellsBeginning}
use Rattle.script_run.proofs.run.Run.end.Goals as goal

pub report-requires-clause-began : goal.report-requires-clause-began
report-requires-clause-began c = subst (λ (b : Beginning). TellsBeginning c.args.began b) (sym c.turn_all_off.ensures.beginning) c.requires.began

pub report-requires-clause-marks : goal.report-requires-clause-marks
report-requires-clause-marks c =
    let beginning = c.turn_all_off.ensures.beginning in
    let checkpoints = c.turn_all_off.ensures.checkpoints in
    subst (λ (z : Beginning × List Checkpoint). c.args.self.marks.items ≡ reported (opening_of z.0) (marks_of z.0 z.1)) (λ k. (sym beginning k, sym checkpoints k)) c.requires.marks

pub report-requires-clause-space : goal.report-requires-clause-space
report-requires-clause-space c = subst (λ (b : Beginning). HasSpace b.settings b.scripts c.args.space) (sym c.turn_all_off.ensures.beginning) c.requires.space

pub returns-clause-ends : goal.returns-clause-ends
returns-clause-ends c = record {
  last = c.turn_all_off.result;
  off = c.turn_all_off.ensures.off;
  lawful = c.turn_all_off.ensures.replay.lawful;
  beginning = c.turn_all_off.ensures.beginning;
  history = c.turn_all_off.ensures.history;
  checkpoints = c.turn_all_off.ensures.checkpoints;
  report = c.report.ensures.report;
  want = c.report.ensures.want;
}
