-- What a row of the table asks of the worker whose hand was taken out.
use Rattle.std.specs.Prelude.{◌≡◌, ◌≤◌, false, Option}
use Rattle.yard_model.specs.declared.view.View.{View}
use Rattle.room_yard.specs.Told.{Told, IsTold}
use Rattle.worker_model.specs.declared.hand.Hand.{Hand}
use Rattle.worker_model.specs.declared.hand.Hand.TheVariants.{Empty}
use Rattle.worker_model.specs.Workers.{WorkerState, IsWorker}
use Rattle.worker_model.specs.Turns.{with_hand}

-- with this in hand it is a worker of the view, the power was not seen off, and it has not done too much; the hand itself was taken out
pub record MayTakeRow (c : WorkerState) (hand : Hand) (v : View) (t : Option Told) : Type 0 where
  pub worker : IsWorker (with_hand c hand) v
  pub taken : c.hand ≡ Empty
  pub on : v.saw_off ≡ false
  pub few : c.done ≤ 10000016
  pub told : IsTold t v
