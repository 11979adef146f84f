-- The run of a resume's workers, in the yard that its recovered world opens.
use Rattle.std.proofs.Common.{◌≡◌, ℕ, ◌^◌, Bool, List, [], length, refl, sym, ap, ◌∙◌, subst}
use Rattle.seq_object.specs.declared.settings.Settings.{Settings}
use Rattle.seq_object.specs.History.{Scripts}
use Rattle.line_memory.specs.Line.{BankState, all_write_backs}
use Rattle.life_model.specs.declared.life.Mark.{Mark}
use Rattle.life_model.specs.Life.{Opening}
use Rattle.life_model.specs.Told.{ReportState, is_resume}
use Rattle.yard_model.specs.declared.view.Beginning.{Beginning}
use Rattle.yard_model.specs.Beginnings.{opening_of}
use Rattle.room_yard.specs.Told.{Told}
use Rattle.room_yard.specs.World.{WorldState, Opens, Begins, beginning_with}
use Rattle.plain_yard.specs.Shown.{ShownYard, opening_told}
use Rattle.worker_model.specs.Workers.{WorkerState}
use Rattle.replay_model.specs.Replays.{ReplayState, AllTurnOff}
use Rattle.replay_model.specs.Kept.{IsReplay}
use Rattle.replay_progress.specs.Shown.{GoesOnRight}
use Rattle.script_run.specs.declared.ending.Began.{Began}
use Rattle.script_run.specs.declared.ending.Space.{Space}
use Rattle.script_run.specs.Runs.{HaveDone, RunsOrDries}
use Rattle.script_run.specs.Starts.{AreFirstWorkers}
use Rattle.script_run.specs.Ends.{HasSpace, TellsBeginning, Ends}
use Rattle.script_run.specs.Steps.{AreMarksOf}
use Rattle.script_run.specs.Resumes.{IsOpenedBy, IsRunIn}
use Rattle.script_run.proofs.Openings.{HasOpened, opening_is, is_replay, goes_on_right, none_done, first_marks}
use Rattle.script_run.proofs.Starting.{ran_to}
use Rattle.script_run.proofs.Enough.{ends_by_rounds, closes_few}

-- the yard was made of the world with which this life opens
pub record IsYardOf (settings : Settings) (scripts : Scripts) (world : WorldState) (yard : ShownYard) : Type 0 where
  pub beginning : yard.beginning ≡ beginning_with settings scripts (2 ^ 63) world
  pub opens : (f : Beginning) → Begins settings scripts (2 ^ 63) f → Opens f world → (opening_of yard.beginning ≡ opening_of f) × Opens yard.beginning world
  pub told : yard.told ≡ opening_told yard.beginning world

module _ (settings : Settings) (scripts : Scripts) (world : WorldState) (workers : List WorkerState) (marks : List Mark) (began : Began) (b : Beginning)
    (opened : IsOpenedBy settings scripts world workers marks began b) (yard : ShownYard) (made : IsYardOf settings scripts world yard) where
  abbrev first : ReplayState
  first = record { yard = yard; workers = workers }

  has_opened : HasOpened b world first
  has_opened =
      let both = made.opens b opened.begins opened.opens in
      record {
        begins = opened.opens;
        opening = both.0;
        opens = both.1;
        beginning = made.beginning ∙ (let s = sym opened.begins.settings_are in let ss = sym opened.begins.scripts_are in (λ j. beginning_with (s j) (ss j) (2 ^ 63) world));
        told = made.told;
        workers = subst (λ (s : Settings). AreFirstWorkers (opening_of b) s.threads workers) (sym opened.begins.settings_are) opened.workers_are;
      }

  -- THE FIRST STATE.
  pub first_replay : IsReplay first
  first_replay = is_replay b world first has_opened

  first_right : GoesOnRight first
  first_right = goes_on_right b world first has_opened opened.early

  pub first_none_done : HaveDone 0 first
  first_none_done = none_done b world first has_opened

  pub marks_before : AreMarksOf marks first
  marks_before = opened.marks_are ∙ first_marks b world first has_opened

  none_closed : first.yard.told.checkpoints ≡ []
  none_closed = ap (λ (t : Told). t.checkpoints) made.told

  -- THE STATE in which the run ended.
  module _ (ran : ReplayState) (beginning : ran.yard.beginning ≡ yard.beginning) where
    opens_so : opening_of ran.yard.beginning ≡ opening_of b
    opens_so = ap opening_of beginning ∙ has_opened.opening

    pub told_so : TellsBeginning began ran.yard.beginning
    told_so = record {
      resumed = opened.began_so.resumed ∙ ap (λ (o : Opening). is_resume o.life) (sym opens_so);
      epoch = opened.began_so.epoch ∙ ap (λ (o : Opening). o.epoch) (sym opens_so);
    }

    pub still_space : (space : Space) → HasSpace settings scripts space → HasSpace ran.yard.beginning.settings ran.yard.beginning.scripts space
    still_space space has =
        subst (λ (o : Opening). HasSpace o.settings o.scripts space) (sym opens_so)
        (subst (λ (z : Settings × Scripts). HasSpace z.0 z.1 space) (let s = sym opened.begins.settings_are in let ss = sym opened.begins.scripts_are in (λ j. (s j, ss j))) has)

    -- THE END.
    module _ (goes : IsReplay ran) (dry : Bool) (number : length ran.workers ≡ settings.threads) (r : ReportState) (memory : List BankState) (ends : Ends dry ran r memory) (flushed : r.flushed ≡ all_write_backs memory)
        (turns : List ℕ) (runs : RunsOrDries dry turns first ran) where
      all_off : AllTurnOff 0 (length workers) ran ends.last
      all_off = subst (λ (n : ℕ). AllTurnOff 0 n ran ends.last) (number ∙ sym opened.workers_are.number) ends.off

      pub is_run_in : IsRunIn settings scripts turns world workers marks began r memory
      is_run_in = record {
        first = first;
        last = ends.last;
        is = opening_is b world first has_opened;
        opens = has_opened.opens;
        opening = λ f by. (made.opens f by.begins by.opens).0;
        number = opened.workers_are.number;
        lawful = ends.lawful;
        since = ends.beginning ∙ beginning;
        replays = record { last = ran; runs = ran_to dry r.outcome turns first ran ends.want runs; ends = all_off; shows = ends.report.ends };
        report = ends.report;
        flushed = flushed;
        ends = ends_by_rounds (opening_of yard.beginning) first refl none_closed first_replay first_right ran goes beginning dry r memory ends turns runs;
        closes = closes_few (opening_of yard.beginning) first refl none_closed first_replay first_right ran goes beginning dry r memory ends turns runs;
      }
