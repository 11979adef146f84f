-- What holds of each state of a run.
use Rattle.std.specs.Prelude.{◌≡◌, ℕ, length, Some, slice_get}
use Rattle.plain_yard.specs.Shown.{view_at, IsLawfulYard}
use Rattle.worker_model.specs.Workers.{WorkerState, IsWorker}
use Rattle.replay_model.specs.Replays.{ReplayState}

-- the yard is lawful, and there is a worker for each thread that is its view's
pub record IsReplay (s : ReplayState) : Type 0 where
  pub lawful : IsLawfulYard s.yard
  pub number : length s.workers ≡ length s.yard.told.world.views
  pub workers : (i : ℕ) (c : WorkerState) → slice_get s.workers i ≡ Some c → IsWorker c (view_at s.yard i)
