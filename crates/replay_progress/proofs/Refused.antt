-- A turn that meets want of memory draws nothing and releases nothing.
use Rattle.std.proofs.Common.{◌≡◌, inl, inr, Bool, true, false, Option, Some, Ok, Err, arith}
use Rattle.std.specs.Prelude.{nat_lt}
use Rattle.std.specs.declared.alloc.AllocError.{AllocError}
use Rattle.seq_object.specs.declared.command.Command.{Command}
use Rattle.seq_object.specs.declared.command.Reply.{Reply}
use Rattle.seq_object.specs.Object.{room_of}
use Rattle.seq_object.specs.Sizes.{sizes_of}
use Rattle.restart_point.specs.declared.thread_end.ThreadEnd.{ThreadEnd}
use Rattle.restart_point.specs.declared.thread_end.ThreadEnd.TheVariants.{Ready, Waits, Ended}
use Rattle.rooms.specs.declared.room.Room.{Room}
use Rattle.yard_model.specs.declared.view.Phase.{Phase}
use Rattle.yard_model.specs.declared.view.Phase.TheVariants.{Standing, Running, Closing}
use Rattle.yard_model.specs.declared.view.View.{View}
use Rattle.room_yard.specs.Told.{Told}
use Rattle.room_in_hand.specs.Working.{stores_left}
use Rattle.worker_model.specs.declared.hand.Hand.{Hand}
use Rattle.worker_model.specs.declared.hand.Hand.TheVariants.{Empty, Commands, Drawn, NoItem, Own, Closes, Refused}
use Rattle.worker_model.specs.declared.hand.Turn.{Turn}
use Rattle.worker_model.specs.declared.hand.Turn.TheVariants.{Did, Over}
use Rattle.worker_model.specs.Workers.{WorkerState}
use Rattle.worker_model.specs.Turns.{GoesOnCommand, GoesOnOwn, Starves, GoesOnEmpty, LacksRoom, RestsAndClaims, GoesOnStanding, may_command, WithNothing, WithHand, TakesTurn}
use Rattle.plain_yard.specs.Shown.{view_at}
use Rattle.replay_laws.proofs.Answered.{IsQuiet, leave_rests, locked, turned_off, locked_thread, rested_thread, quiet_twice}
use Rattle.replay_progress.specs.Laws.{RefusedTurnLaw}

module _ (c d : WorkerState) (v w : View) (t u : Option Told) (error : AllocError) where
  -- it did not do anything
  did_none : (turn : Turn) → Err error ≡ Ok turn → IsQuiet v t w u
  did_none turn is = absurd (grind arith)

  -- no memory was had for a command, or for the mark
  starves : (command : Command) → Starves command c v t d w u → IsQuiet v t w u
  starves command is = quiet_twice v is.between w t is.told u
      (locked_thread v is.between t is.told (room_of (sizes_of c.settings) command) is.taken is.locked)
      (locked v is.between t is.told (room_of (sizes_of c.settings) command) is.taken is.locked)
      (turned_off is.between w is.told u is.off)

  lacks : LacksRoom c v t d w u → IsQuiet v t w u
  lacks is = turned_off v w t u is.off

  rests_and_lacks : RestsAndClaims c v t (Err error) d w u → IsQuiet v t w u
  rests_and_lacks is = quiet_twice v is.between w t is.told u
      (rested_thread v is.between t is.told c.end is.rest is.rests)
      (leave_rests v is.between t is.told c.end is.rest is.rests)
      (turned_off is.between w is.told u is.claims.off)

  standing : (end : ThreadEnd) → GoesOnStanding end c v t (Err error) d w u → IsQuiet v t w u
  standing Ended is = lacks is
  standing Ready (inl leaves) = did_none Did leaves.did_one
  standing Ready (inr (inl finds)) = did_none Over finds.is_over
  standing Ready (inr (inr rests)) = rests_and_lacks rests
  standing Waits (inl leaves) = did_none Did leaves.did_one
  standing Waits (inr (inl finds)) = did_none Over finds.is_over
  standing Waits (inr (inr rests)) = rests_and_lacks rests

  running : (may wrote : Bool) → GoesOnEmpty may wrote c v t (Err error) d w u → IsQuiet v t w u
  running true wrote is = starves is.command is.begins
  running false false is = absurd is
  running false true is = did_none Did is.did_one

  with_nothing : (phase : Phase) → WithNothing phase c v t (Err error) d w u → IsQuiet v t w u
  with_nothing Standing is = standing c.end is
  with_nothing Running is = running (may_command c) c.wrote is
  with_nothing Closing is = absurd is

  on_command : (some_left : Bool) (reply : Reply) (x : Room) → GoesOnCommand some_left reply x c v t (Err error) d w u → IsQuiet v t w u
  on_command true reply x is = did_none Did is.did_one
  on_command false reply x is = did_none Did is.did_one

  on_own : (some_left : Bool) (x : Room) → GoesOnOwn some_left x c v t (Err error) d w u → IsQuiet v t w u
  on_own true x is = did_none Did is.did_one
  on_own false x is = did_none Did is.did_one

  with_hand : (hand : Hand) → WithHand hand c v t (Err error) d w u → IsQuiet v t w u
  with_hand Empty is = with_nothing v.phase is
  with_hand (Commands reply x) is = on_command (nat_lt 0 (stores_left x)) reply x is
  with_hand (Drawn x) is = did_none Did is.did_one
  with_hand (NoItem x) is = did_none Did is.did_one
  with_hand (Own x) is = on_own (nat_lt 0 (stores_left x)) x is
  with_hand (Closes closer) is = did_none Did is.did_one
  with_hand (Refused x) is = absurd is

  takes_turn : (off : Bool) → TakesTurn off c v t (Err error) d w u → IsQuiet v t w u
  takes_turn true is = did_none Over is.over
  takes_turn false is = with_hand c.hand is

pub refused_turn : RefusedTurnLaw
refused_turn i s t error turn =
    let quiet = takes_turn turn.worker turn.behind (view_at s.yard i) (view_at t.yard i) (Some s.yard.told) (Some t.yard.told) error (view_at s.yard i).saw_off turn.does in
    (quiet.history, quiet.checkpoints)
