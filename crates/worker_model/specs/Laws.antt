-- Laws on workers: how one begins, what a look at the power, a tick and the turning off leave, and how many events one has done.
use Rattle.std.specs.Prelude.{ℕ, length}
use Rattle.seq_object.specs.Sizes.{sizes_of}
use Rattle.life_model.specs.Work.{Worked, HasWorked}
use Rattle.yard_model.specs.declared.view.View.{View}
use Rattle.yard_model.specs.Knows.{is_closing}
use Rattle.yard_model.specs.Views.{saw_power, ticked, turned_off}
use Rattle.worker_model.specs.Counts.{epochs_run}
use Rattle.worker_model.specs.Workers.{WorkerState, IsWorker}

-- a look at the power, a tick, and turning the power off leave a worker as it was
abbrev pub StaysBehindPowerLaw : Type 0
StaysBehindPowerLaw = (c : WorkerState) (v : View) (found : ℕ) → IsWorker c v → IsWorker c (saw_power v found)

abbrev pub StaysBehindTickLaw : Type 0
StaysBehindTickLaw = (c : WorkerState) (v : View) → IsWorker c v → IsWorker c (ticked v)

abbrev pub StaysBehindOffLaw : Type 0
StaysBehindOffLaw = (c : WorkerState) (v : View) → IsWorker c v → IsWorker c (turned_off v)

-- what a worker has done, by its view
abbrev pub worked_by : WorkerState → View → Worked
worked_by c v = record { entries = length v.own; marks = v.checkpoints; closing = is_closing v.phase; epochs = epochs_run v; done = c.done }

-- it lies between the least and the most
abbrev pub WorkedLaw : Type 0
WorkedLaw = (c : WorkerState) (v : View) → IsWorker c v → HasWorked (sizes_of c.settings) (worked_by c v)
