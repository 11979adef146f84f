use Rattle.std.proofs.Common.{◌≡◌, ◌<◌, ◌≤◌, ◌^◌, ℕ, List, length, map, drop, sym, ap, subst}
use Rattle.std.specs.Global.{Vec}
use Rattle.std.specs.List.{All}
use Rattle.seq_object.specs.declared.command.Command.{Command}
use Rattle.script_text.specs.declared.script.Script.{Script}
use Rattle.script_text.specs.Program.{program_of, turns_of}
use Rattle.script_text.specs.ReportText.{report_of}
use Rattle.script_text.specs.Schedules.{schedule_of}
use Rattle.plain_yard.specs.Opening.{commands_in}
use Rattle.replay_model.specs.Replays.{ReplayState}
use Rattle.script_run.specs.declared.ending.Space.{Space}
use Rattle.script_run.specs.Ends.{HasSpace}
use Rattle.script_run.specs.Starts.{IsStartOf}
use Rattle.script_run.specs.Runs.{RunsOrDries}
use Rattle.script_run.specs.Steps.{AreMarksOf}
use Rattle.turn_order.specs.Orders.{OrderState}
use Rattle.life_model.specs.declared.life.Mark.{Mark}
use Rattle.script_run.proofs.Sections.{are_short, commands_few}
use Rattle.script_run.proofs.Starting.{as_many, no_mark, told_beginning, has_space, is_told, is_replay}
use Rattle.script_run.proofs.Enough.{start_ends, start_closes}
use Rattle.script_run.proofs.whole.started.Goals as goal

-- what is so of the sections as a slice is so of the script
module _ (s : Script) (sections : List (Vec Command)) (are : sections ≡ s.threads.items) where
  starts : (replay : ReplayState) → IsStartOf s.settings (map (λ (x : Vec Command). x.items) sections) replay → IsStartOf s.settings (program_of s).threads replay
  starts replay is = subst (λ (xs : List (Vec Command)). IsStartOf s.settings (map (λ (x : Vec Command). x.items) xs) replay) are is

  spares : (space : Space) → HasSpace s.settings (map (λ (x : Vec Command). x.items) sections) space → HasSpace s.settings (program_of s).threads space
  spares space has = subst (λ (xs : List (Vec Command)). HasSpace s.settings (map (λ (x : Vec Command). x.items) xs) space) are has

pub of-requires-clause-few : goal.of-requires-clause-few
of-requires-clause-few c = subst (λ (xs : List (Vec Command)). commands_in (map (λ s. s.items) xs) < 2 ^ 32) (sym c.as_slice-scripts.ensures.value) (commands_few (program_of c.args.script.now) c.requires.script)

pub start-requires-clause-short : goal.start-requires-clause-short
start-requires-clause-short c =
    subst (λ (xs : List (Vec Command)). All (λ (s : Vec Command). length s.items ≤ 4096) xs) (sym c.as_slice-scripts.ensures.value)
    (are_short c.args.script.now.threads.items c.requires.script.sections)

-- THE RUN is of a start of the script.
pub run-run-requires-clause-threads : goal.run-run-requires-clause-threads
run-run-requires-clause-threads c = as_many c.args.script.now.settings _ c.in_ok-replay.replay c.in_ok-replay.ensures.start

pub run-run-requires-clause-marks : goal.run-run-requires-clause-marks
run-run-requires-clause-marks c =
    subst (λ (marks : List Mark). AreMarksOf marks c.in_ok-replay.replay) (sym c.new.ensures.items) (no_mark c.args.script.now.settings _ c.in_ok-replay.replay c.in_ok-replay.ensures.start)

-- THE END is of a run from it.
pub end-requires-clause-began : goal.end-requires-clause-began
end-requires-clause-began c = told_beginning c.args.script.now.settings _ c.in_ok-replay.replay c.in_ok-replay.ensures.start c.run-run.result.replay c.run-run.ensures.beginning

pub end-requires-clause-space : goal.end-requires-clause-space
end-requires-clause-space c =
    has_space c.args.script.now.settings _ c.in_ok-replay.replay c.in_ok-replay.ensures.start c.run-run.result.replay c.run-run.ensures.beginning c.in_ok-space.space c.in_ok-space.ensures

-- THE REPORT is of this replay.
pub returns : goal.returns
returns c =
    let s = c.args.script.now in
    let start = starts s c.as_slice-scripts.result.now c.as_slice-scripts.ensures.value c.in_ok-replay.replay c.in_ok-replay.ensures.start in
    let schedule = schedule_of s.settings.threads (turns_of s.mode) in
    let none : c.of-order.result.given ≡ 0 = ap (λ (o : OrderState). o.given) c.of-order.ensures.is in
    let runs : RunsOrDries c.run-run.result.dry schedule c.in_ok-replay.replay c.run-run.result.replay =
    subst (λ (n : ℕ). RunsOrDries c.run-run.result.dry (drop n schedule) c.in_ok-replay.replay c.run-run.result.replay) none c.run-run.ensures.runs in
    record {
      told = is_told s.settings (program_of s).threads c.in_ok-replay.replay start c.run-run.result.replay c.run-run.ensures.beginning c.run-run.result.dry c.run-run.ensures.number
          (report_of c.end.result.report) c.end.result.memory c.end.ensures.ends c.end.ensures.flushed;
      run = is_replay s.settings (program_of s).threads c.in_ok-replay.replay start c.run-run.result.replay c.run-run.ensures.beginning c.run-run.result.dry c.run-run.ensures.number
          (report_of c.end.result.report) c.end.result.memory c.end.ensures.ends schedule runs;
      ends = start_ends s.settings (program_of s).threads c.in_ok-replay.replay start c.in_ok-replay.ensures.replay c.in_ok-replay.ensures.right
          c.run-run.result.replay c.run-run.ensures.replay c.run-run.ensures.beginning c.run-run.result.dry
          (report_of c.end.result.report) c.end.result.memory c.end.ensures.ends schedule runs;
      closes = start_closes s.settings (program_of s).threads c.in_ok-replay.replay start c.in_ok-replay.ensures.replay c.in_ok-replay.ensures.right
          c.run-run.result.replay c.run-run.ensures.replay c.run-run.ensures.beginning c.run-run.result.dry
          (report_of c.end.result.report) c.end.result.memory c.end.ensures.ends schedule runs;
    }
