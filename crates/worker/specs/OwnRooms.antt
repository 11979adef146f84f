-- A thread's own room in its hands, before its restart point is written to it.
use Rattle.std.specs.Prelude.{◌≡◌, ℕ, ◌≤◌, false}
use Rattle.seq_object.specs.Sizes.{thread_room}
use Rattle.rooms.specs.declared.room.Room.{Room}
use Rattle.yard_model.specs.declared.view.Phase.TheVariants.{Running}
use Rattle.yard_model.specs.declared.view.View.{View}
use Rattle.yard_model.specs.Knows.{sizes_known}
use Rattle.yard_model.specs.Views.{gripped}
use Rattle.yard_model.specs.Conditions.{IsGiven}
use Rattle.room_in_hand.specs.Laws.{IsOfItsType}
use Rattle.room_in_hand.specs.Working.{point_planned}
use Rattle.worker_model.specs.declared.hand.Hand.TheVariants.{Empty, Own}
use Rattle.worker_model.specs.Workers.{WorkerState, IsWorker}
use Rattle.worker_model.specs.Turns.{with_hand, did, may_command, end_at}

-- its lock was taken, by a thread that may carry out no more commands in this epoch and has not written the room
pub record MayWriteOwn (c : WorkerState) (x : Room) (w : View) : Type 0 where
  pub before : View
  pub covered : ℕ
  pub view : w ≡ gripped before (thread_room (sizes_known before) before.thread) x covered
  pub given : IsGiven before (thread_room (sizes_known before) before.thread) x covered
  pub of_type : IsOfItsType x
  pub worker : IsWorker (with_hand c Empty) before
  pub taken : c.hand ≡ Empty
  pub on : before.saw_off ≡ false
  pub few : c.done ≤ 10000016
  pub phase : before.phase ≡ Running
  pub none : may_command c ≡ false
  pub unwritten : c.wrote ≡ false

-- the write of its position has begun, with the end that belongs to it
abbrev pub own_begun : WorkerState → Room → WorkerState
own_begun c x = did (record c { end = end_at c }) (Own (point_planned c.epoch c.position (end_at c) x))
