-- What a job is carried out over, and what is told of its replay.
use Rattle.std.specs.Prelude.{◌≡◌, ℕ, ◌+◌, ◌<◌, ◌≤◌, ◌⊎◌, List, [], ◌∷◌, length, map, drop}
use Rattle.seq_object.specs.declared.command.Command.{Command}
use Rattle.seq_object.specs.declared.settings.Settings.{Settings}
use Rattle.seq_object.specs.History.{Scripts}
use Rattle.seq_object.specs.Sizes.{sizes_of}
use Rattle.line_memory.specs.Line.{BankState, IsQuiet, all_write_backs}
use Rattle.room_model.specs.Formatted.{formatted_memory}
use Rattle.room_model.specs.Image.{image_of, nothing_kept, epoch_at, IsLawful}
use Rattle.room_model.specs.MapRoom.{live_layout}
use Rattle.life_model.specs.declared.life.Life.{Life}
use Rattle.life_model.specs.declared.life.Life.TheVariants.{Start, Resume}
use Rattle.life_model.specs.declared.life.Mark.{Mark}
use Rattle.life_model.specs.declared.life.Outcome.TheVariants.{Cut, Starved}
use Rattle.life_model.specs.Life.{Opening, sizes, script_of, opening_place, start_of}
use Rattle.life_model.specs.Lives.{ResumesFrom}
use Rattle.life_model.specs.Told.{ReportState}
use Rattle.yard_model.specs.Beginnings.{opening_of}
use Rattle.room_yard.specs.World.{WorldState, memory_of, Opens}
use Rattle.recovery.specs.Laws.{IsWorldOf}
use Rattle.recovery.specs.Told.{bare_report}
use Rattle.recovery.specs.Recovering.{RecoveryState, IsRecovery, behind_events, events_left, recovery_events}
use Rattle.worker_model.specs.Workers.{WorkerState}
use Rattle.replay_model.specs.Replays.{ReplayState, Replays}
use Rattle.replay_model.specs.Endings.{IsReportOfYard}
use Rattle.replay_model.specs.Laws.{opening_replay}
use Rattle.script_run.specs.Starts.{IsReplayOf}

-- a resume of these settings and scripts opens so over a memory
pub record IsResumeOver (settings : Settings) (scripts : Scripts) (memory : List BankState) (o : Opening) : Type 0 where
  pub settings_are : o.settings ≡ settings
  pub scripts_are : o.scripts ≡ scripts
  pub from : ResumesFrom (sizes_of settings) (image_of memory nothing_kept) o

-- a life of these settings and scripts opens so over a memory
abbrev pub OpensOver : Life → Settings → Scripts → List BankState → Opening → Type 0
OpensOver Start settings scripts memory o = o ≡ start_of settings scripts
OpensOver Resume settings scripts memory o = IsResumeOver settings scripts memory o

-- a memory from which a resume of these settings and scripts may go on: nothing is pending, and it has counted no write-back; its image is
-- lawful, of an epoch that leaves room for the checkpoints, and no thread's place in it is past its script's end
pub record MayResume (settings : Settings) (scripts : Scripts) (memory : List BankState) : Type 0 where
  pub quiet : IsQuiet memory
  pub none : all_write_backs memory ≡ 0
  pub lawful : IsLawful live_layout (sizes_of settings) (image_of memory nothing_kept)
  pub early : epoch_at (sizes_of settings) (image_of memory nothing_kept) < 4278190080
  pub places : (o : Opening) → IsResumeOver settings scripts memory o → (thread : ℕ) → thread < settings.threads → opening_place o thread ≤ length (script_of scripts thread)

-- the memory is ready for a life: formatted for a start, and one from which a resume may go on
abbrev pub IsReady : Life → Settings → Scripts → List BankState → Type 0
IsReady Start settings scripts memory = memory ≡ formatted_memory (sizes_of settings)
IsReady Resume settings scripts memory = MayResume settings scripts memory

-- the first state of a recovery of this memory, with all its events to come
pub record IsRecoveryOver (settings : Settings) (memory : List BankState) (r : RecoveryState) : Type 0 where
  pub settings_are : r.settings ≡ settings
  pub about : (o : Opening) → o.settings ≡ settings → ResumesFrom (sizes o) (image_of memory nothing_kept) o → IsRecovery o r
  pub events : events_left r ≡ recovery_events (sizes_of settings) (image_of memory nothing_kept)

-- the schedule has fewer turns than the recovery has events: it is cut behind so many
pub record IsCutInRecovery (settings : Settings) (schedule : List ℕ) (memory : List BankState) (first : RecoveryState) (r : ReportState) (left : List BankState) : Type 0 where
  pub few : length schedule < events_left first
  pub left_is : left ≡ memory_of (behind_events (length schedule) first).rooms
  pub report : r ≡ bare_report (epoch_at (sizes_of settings) (image_of memory nothing_kept)) [] (all_write_backs left) Cut

-- the mark of the recovery of an image of this epoch
abbrev pub recovery_mark : ℕ → Mark
recovery_mark epoch = record { epoch = epoch + 1; length = 0 }

-- memory ran out before the recovered world was made a yard
pub record IsStarvedBehindRecovery (settings : Settings) (memory : List BankState) (world : WorldState) (r : ReportState) (left : List BankState) : Type 0 where
  pub left_is : left ≡ memory_of world.rooms
  pub report : r ≡ bare_report (epoch_at (sizes_of settings) (image_of memory nothing_kept)) (recovery_mark (epoch_at (sizes_of settings) (image_of memory nothing_kept)) ∷ []) (all_write_backs left) Starved

-- the recovered world opens the yard, each worker begins at its thread's place in the image, and these turns are the workers'
pub record IsRunBehindRecovery (settings : Settings) (scripts : Scripts) (turns : List ℕ) (memory : List BankState) (world : WorldState) (r : ReportState) (left : List BankState) : Type 0 where
  pub first : ReplayState
  pub last : ReplayState
  pub workers : List WorkerState
  pub is : first ≡ opening_replay first.yard.beginning world workers
  pub opens : Opens first.yard.beginning world
  pub opening : (o : Opening) → IsResumeOver settings scripts memory o → opening_of first.yard.beginning ≡ o
  pub number : length workers ≡ settings.threads
  pub replays : Replays r.outcome turns first last
  pub report : IsReportOfYard last.yard r left

-- the schedule has a turn for each event of the recovery, and the later turns are those of the yard that the recovered world opens
pub record IsRecoveredAndRun (settings : Settings) (scripts : Scripts) (schedule : List ℕ) (memory : List BankState) (first : RecoveryState) (r : ReportState) (left : List BankState) : Type 0 where
  pub enough : events_left first ≤ length schedule
  pub world : WorldState
  pub is_world : IsWorldOf (behind_events (events_left first) first) (map (λ (s : List Command). length s) scripts) world
  pub goes : IsStarvedBehindRecovery settings memory world r left ⊎ IsRunBehindRecovery settings scripts (drop (events_left first) schedule) memory world r left

-- a report and a memory are those of the replay of a resume under this schedule
pub record IsReplayOfResume (settings : Settings) (scripts : Scripts) (schedule : List ℕ) (memory : List BankState) (r : ReportState) (left : List BankState) : Type 0 where
  pub first : RecoveryState
  pub recovery : IsRecoveryOver settings memory first
  pub goes : IsCutInRecovery settings schedule memory first r left ⊎ IsRecoveredAndRun settings scripts schedule memory first r left

-- a report and a memory are those of the replay of a life under this schedule
abbrev pub IsReplayedLife : Life → Settings → Scripts → List ℕ → List BankState → ReportState → List BankState → Type 0
IsReplayedLife Start settings scripts schedule memory r left = IsReplayOf settings scripts schedule r left
IsReplayedLife Resume settings scripts schedule memory r left = IsReplayOfResume settings scripts schedule memory r left
