-- A resume before its first event, and the run that its recovered world opens.
use Rattle.std.specs.Prelude.{◌≡◌, ℕ, ◌^◌, ◌<◌, ◌⊎◌, List, [], length, map, drop, vec_capacity}
use Rattle.seq_object.specs.declared.command.Command.{Command}
use Rattle.seq_object.specs.declared.settings.Settings.{Settings}
use Rattle.seq_object.specs.History.{Scripts}
use Rattle.seq_object.specs.Sizes.{sizes_of}
use Rattle.line_memory.specs.Line.{BankState, all_write_backs}
use Rattle.room_model.specs.Image.{image_of, nothing_kept, epoch_at}
use Rattle.life_model.specs.declared.life.Mark.{Mark}
use Rattle.life_model.specs.declared.life.Outcome.TheVariants.{Starved}
use Rattle.life_model.specs.Life.{Opening, reported, lengths}
use Rattle.life_model.specs.Told.{ReportState}
use Rattle.epoch_word.specs.declared.stage.EpochStage.TheVariants.{Before}
use Rattle.yard_model.specs.declared.view.Beginning.{Beginning}
use Rattle.yard_model.specs.Beginnings.{opening_of, recovery_marks, write_backs_at}
use Rattle.room_yard.specs.World.{WorldState, memory_of, Opens, Begins}
use Rattle.plain_yard.specs.Shown.{IsLawfulYard}
use Rattle.recovery.specs.Banks.{most_at}
use Rattle.recovery.specs.Recovering.{AllWriteLittleBack}
use Rattle.recovery.specs.Told.{bare_report}
use Rattle.worker_model.specs.Workers.{WorkerState}
use Rattle.replay_model.specs.Replays.{ReplayState, Replays}
use Rattle.replay_model.specs.Endings.{IsReportOfYard}
use Rattle.replay_model.specs.Laws.{opening_replay}
use Rattle.script_run.specs.declared.ending.Began.{Began}
use Rattle.script_run.specs.declared.resuming.Prepared.{Prepared}
use Rattle.script_run.specs.Ends.{HasSpace, TellsBeginning}
use Rattle.script_run.specs.Starts.{AreFirstWorkers}
use Rattle.script_run.specs.Enough.{EndsByRounds, ClosesFew}
use Rattle.script_run.specs.Jobs.{IsResumeOver, IsRecoveryOver}

-- all that a resume over this memory needs: the lists of its report, the lengths of its scripts, a worker for each thread at its place in the
-- image, and the recovery in its first state
pub record IsPrepared (settings : Settings) (scripts : Scripts) (memory : List BankState) (p : Prepared) : Type 0 where
  pub space : HasSpace settings scripts p.space
  pub no_mark : p.marks.items ≡ []
  pub room : 0 < vec_capacity p.marks
  pub lengths : p.lengths.items ≡ map (λ (s : List Command). length s) scripts
  pub workers : (o : Opening) → IsResumeOver settings scripts memory o → AreFirstWorkers o settings.threads p.workers.items
  pub recovery : IsRecoveryOver settings memory p.recovery
  pub stage : p.recovery.stage ≡ Before
  pub few : AllWriteLittleBack (most_at settings (epoch_at (sizes_of settings) (image_of memory nothing_kept)) memory) p.recovery

-- a life of these settings and scripts that begins so opens with this world, these workers and these marks, and its counts of write-backs are
-- far from their type's end
pub record IsOpenedBy (settings : Settings) (scripts : Scripts) (world : WorldState) (workers : List WorkerState) (marks : List Mark) (began : Began) (b : Beginning) : Type 0 where
  pub begins : Begins settings scripts (2 ^ 63) b
  pub opens : Opens b world
  pub workers_are : AreFirstWorkers (opening_of b) settings.threads workers
  pub marks_are : marks ≡ reported (opening_of b) (recovery_marks b.life)
  pub began_so : TellsBeginning began b
  pub early : (room : ℕ) → write_backs_at b room < 2 ^ 63

-- a report and a memory are those of the run of these turns in the yard that the world opens; rounds that these turns offer, behind however many
-- of them, end it, and it closes seldom
pub record IsRunIn (settings : Settings) (scripts : Scripts) (turns : List ℕ) (world : WorldState) (workers : List WorkerState) (marks : List Mark) (began : Began) (r : ReportState) (memory : List BankState) : Type 0 where
  pub first : ReplayState
  pub last : ReplayState
  pub is : first ≡ opening_replay first.yard.beginning world workers
  pub opens : Opens first.yard.beginning world
  pub opening : (b : Beginning) → IsOpenedBy settings scripts world workers marks began b → opening_of first.yard.beginning ≡ opening_of b
  pub number : length workers ≡ settings.threads
  pub lawful : IsLawfulYard last.yard
  pub since : last.yard.beginning ≡ first.yard.beginning
  pub replays : Replays r.outcome turns first last
  pub report : IsReportOfYard last.yard r memory
  pub flushed : r.flushed ≡ all_write_backs memory
  pub ends : (m : ℕ) → EndsByRounds (opening_of first.yard.beginning) (drop m turns) r.outcome
  pub closes : ClosesFew (opening_of first.yard.beginning) r.entries (lengths r.marks)

-- they are, or memory ran out before the yard was made
abbrev pub RunsOrStarves : Settings → Scripts → List ℕ → WorldState → List WorkerState → List Mark → Began → ReportState → List BankState → Type 0
RunsOrStarves settings scripts turns world workers marks began r memory =
    ((memory ≡ memory_of world.rooms) × (r ≡ bare_report began.epoch marks (all_write_backs memory) Starved)) ⊎ IsRunIn settings scripts turns world workers marks began r memory
