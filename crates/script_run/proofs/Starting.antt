-- The report of a whole replay of a start, by its parts.
use Rattle.std.proofs.Common.{◌≡◌, ℕ, Bool, true, false, List, [], ◌++◌, length, sym, ap, ◌∙◌, subst}
use Rattle.seq_object.specs.declared.settings.Settings.{Settings}
use Rattle.seq_object.specs.History.{Scripts}
use Rattle.line_memory.specs.Line.{BankState, all_write_backs}
use Rattle.life_model.specs.declared.life.Outcome.{Outcome}
use Rattle.life_model.specs.declared.life.Outcome.TheVariants.{Finished, Stalled, Cut, Starved}
use Rattle.life_model.specs.Life.{Opening, start_of, reported}
use Rattle.life_model.specs.Told.{ReportState, TellsOf, is_resume}
use Rattle.yard_model.specs.declared.view.Beginning.{Beginning}
use Rattle.yard_model.specs.Beginnings.{opening_of, recovery_marks, lengths_of}
use Rattle.yard_model.specs.declared.view.Checkpoint.{Checkpoint}
use Rattle.replay_model.specs.Replays.{ReplayState, AllTurnOff, Runs, RunsDry, RunsTo}
use Rattle.replay_model.specs.Endings.{IsFreshStart}
use Rattle.replay_laws.proofs.EndingsTold.{start_is_told}
use Rattle.replay_progress.proofs.Runs.{kept_runs}
use Rattle.script_run.specs.declared.ending.Space.{Space}
use Rattle.script_run.specs.Runs.{RunsOrDries}
use Rattle.script_run.specs.Starts.{IsStartOf, IsReplayOf}
use Rattle.script_run.specs.Ends.{HasSpace, TellsBeginning, TellsWant, Ends}
use Rattle.script_run.specs.Steps.{AreMarksOf}
use Rattle.script_run.proofs.Running.{dries_kept}

-- a run that ended by itself, or at want of memory
abbrev IsRun : Bool → List ℕ → ReplayState → ReplayState → Type 0
IsRun false turns s t = Runs turns s t
IsRun true turns s t = RunsDry turns s t

-- so is the one that the code makes
is_run : (dry : Bool) (turns : List ℕ) (s t : ReplayState) → RunsOrDries dry turns s t → IsRun dry turns s t
is_run false turns s t kept = kept_runs turns s t kept
is_run true turns s t dries = dries_kept turns s t dries

-- one that memory does not end is the whole run
runs_to : (dry : Bool) (outcome : Outcome) (turns : List ℕ) (s t : ReplayState) → TellsWant dry outcome → IsRun dry turns s t → RunsTo outcome turns s t
runs_to dry Finished turns s t want runs = subst (λ (d : Bool). IsRun d turns s t) want runs
runs_to dry Stalled turns s t want runs = subst (λ (d : Bool). IsRun d turns s t) want runs
runs_to dry Cut turns s t want runs = subst (λ (d : Bool). IsRun d turns s t) want runs
runs_to dry Starved turns s t want runs = subst (λ (d : Bool). IsRun d turns s t) want runs

pub ran_to : (dry : Bool) (outcome : Outcome) (turns : List ℕ) (s t : ReplayState) → TellsWant dry outcome → RunsOrDries dry turns s t → RunsTo outcome turns s t
ran_to dry outcome turns s t want runs = runs_to dry outcome turns s t want (is_run dry turns s t runs)

-- OF THE FIRST STATE.
module _ (settings : Settings) (scripts : Scripts) (first : ReplayState) (start : IsStartOf settings scripts first) where
  pub as_many : length first.workers ≡ settings.threads
  as_many = ap (λ (s : ReplayState). length s.workers) start.is ∙ start.number

  -- no epoch is closed,
  pub no_checkpoint : first.yard.told.checkpoints ≡ []
  no_checkpoint = ap (λ (s : ReplayState). s.yard.told.checkpoints) start.is

  -- and no mark is told of it
  pub no_mark : AreMarksOf [] first
  no_mark = subst (λ (o : Opening). [] ≡ reported (opening_of first.yard.beginning) (recovery_marks o.life ++ lengths_of first.yard.told.checkpoints)) (sym start.opening)
      (ap (λ (cs : List Checkpoint). reported (opening_of first.yard.beginning) (lengths_of cs)) (sym no_checkpoint))

  -- OF THE STATE in which the run ended.
  module _ (ran : ReplayState) (beginning : ran.yard.beginning ≡ first.yard.beginning) where
    opens_so : opening_of ran.yard.beginning ≡ start_of settings scripts
    opens_so = ap opening_of beginning ∙ start.opening

    pub told_beginning : TellsBeginning (record { resumed = false; epoch = 1 }) ran.yard.beginning
    told_beginning = record {
      resumed = ap (λ (o : Opening). is_resume o.life) (sym opens_so);
      epoch = ap (λ (o : Opening). o.epoch) (sym opens_so);
    }

    pub has_space : (space : Space) → HasSpace settings scripts space → HasSpace ran.yard.beginning.settings ran.yard.beginning.scripts space
    has_space space has = subst (λ (o : Opening). HasSpace o.settings o.scripts space) (sym opens_so) has

    -- OF THE END.
    module _ (dry : Bool) (number : length ran.workers ≡ settings.threads) (r : ReportState) (memory : List BankState) (ends : Ends dry ran r memory) where
      since_first : ends.last.yard.beginning ≡ first.yard.beginning
      since_first = ends.beginning ∙ beginning

      pub is_told : r.flushed ≡ all_write_backs memory → TellsOf (start_of settings scripts) [] 0 r memory
      is_told flushed = subst (λ (o : Opening). TellsOf o [] 0 r memory) (ap opening_of since_first ∙ start.opening)
          (start_is_told ends.last.yard r memory ends.lawful (subst (λ (b : Beginning). IsFreshStart b) (sym since_first) start.fresh) ends.report flushed)

      all_off : AllTurnOff 0 (length first.workers) ran ends.last
      all_off = subst (λ (n : ℕ). AllTurnOff 0 n ran ends.last) (number ∙ sym as_many) ends.off

      pub is_replay : (schedule : List ℕ) → RunsOrDries dry schedule first ran → IsReplayOf settings scripts schedule r memory
      is_replay schedule runs = record {
        first = first;
        last = ends.last;
        start = start;
        replays = record { last = ran; runs = ran_to dry r.outcome schedule first ran ends.want runs; ends = all_off; shows = ends.report.ends };
        report = ends.report;
      }
