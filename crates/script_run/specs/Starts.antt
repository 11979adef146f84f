-- The first state of a start, and what is told of its replay.
use Rattle.std.specs.Prelude.{◌≡◌, ◌≢◌, ℕ, ◌<◌, List, length, Some, slice_get, slice_index}
use Rattle.seq_object.specs.declared.settings.Settings.{Settings}
use Rattle.seq_object.specs.History.{Scripts}
use Rattle.line_memory.specs.Line.{BankState}
use Rattle.life_model.specs.Life.{Opening, start_of, opening_place}
use Rattle.life_model.specs.Told.{ReportState}
use Rattle.restart_point.specs.declared.thread_end.ThreadEnd.TheVariants.{Waits}
use Rattle.yard_model.specs.declared.view.Beginning.{Beginning}
use Rattle.yard_model.specs.Beginnings.{opening_of}
use Rattle.yard_model.specs.Opens.{opening_view}
use Rattle.room_yard.specs.World.{WorldState, Opens}
use Rattle.worker_model.specs.Workers.{WorkerState, IsWorker}
use Rattle.replay_model.specs.Replays.{ReplayState, Replays}
use Rattle.replay_model.specs.Endings.{IsFreshStart, IsReportOfYard}
use Rattle.replay_model.specs.Laws.{opening_replay}

-- a start of these settings and scripts, of which no turn is made: the yard opens with its world, and each thread has a worker
pub record IsStartOf (settings : Settings) (scripts : Scripts) (s : ReplayState) : Type 0 where
  pub world : WorldState
  pub workers : List WorkerState
  pub is : s ≡ opening_replay s.yard.beginning world workers
  pub opens : Opens s.yard.beginning world
  pub opening : opening_of s.yard.beginning ≡ start_of settings scripts
  pub fresh : IsFreshStart s.yard.beginning
  pub number : length workers ≡ settings.threads

-- threads whose scripts and settings these are go on from these places
pub record IsAtPlaces (settings : Settings) (scripts : Scripts) (places : List ℕ) (o : Opening) : Type 0 where
  pub settings_are : o.settings ≡ settings
  pub scripts_are : o.scripts ≡ scripts
  pub places_are : (i : ℕ) → i < settings.threads → opening_place o i ≡ slice_index places i

-- these are the workers of the first so many threads: each is its opening view's, wherever a life opens so, and none waits for an item
pub record AreFirstWorkers (o : Opening) (n : ℕ) (workers : List WorkerState) : Type 0 where
  pub number : length workers ≡ n
  pub each : (b : Beginning) → opening_of b ≡ o → (i : ℕ) (c : WorkerState) → slice_get workers i ≡ Some c → IsWorker c (opening_view b i)
  pub none_waits : (i : ℕ) (c : WorkerState) → slice_get workers i ≡ Some c → c.end ≢ Waits

-- a report and a memory are those of the replay of a start under this schedule: of the run from the first state on, and the giving up behind it
pub record IsReplayOf (settings : Settings) (scripts : Scripts) (schedule : List ℕ) (r : ReportState) (memory : List BankState) : Type 0 where
  pub first : ReplayState
  pub last : ReplayState
  pub start : IsStartOf settings scripts first
  pub replays : Replays r.outcome schedule first last
  pub report : IsReportOfYard last.yard r memory
