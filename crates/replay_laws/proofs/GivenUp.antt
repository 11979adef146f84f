-- What the giving up of rooms behind a run leaves.
use Rattle.std.proofs.Common.{◌≡◌, ℕ, ◌<◌, Bool, inl, inr, length, List, Option, Some, None, Ok, set, sym, ap, ◌∙◌, subst, arith, length-set}
use Rattle.std.specs.Prelude.{slice_get}
use Rattle.rooms.specs.declared.room.Room.{Room}
use Rattle.rooms.specs.declared.room.Room.TheVariants.{Super}
use Rattle.yard_model.specs.declared.view.View.{View}
use Rattle.yard_model.specs.declared.view.Grip.{Grip}
use Rattle.yard_model.specs.Opens.{opening_view}
use Rattle.yard_laws.proofs.Lists.{at_inside}
use Rattle.room_yard.specs.Told.{Told}
use Rattle.room_yard.specs.Answers.{Retreated}
use Rattle.plain_yard.specs.Shown.{view_at}
use Rattle.plain_yard.proofs.Views.{read_at}
use Rattle.coordinator.specs.declared.hand.Hand.{Hand as ClosersHand}
use Rattle.coordinator.specs.declared.hand.Hand.TheVariants.{Empty as HasNone, Flushing, Flushed, Shut, Epoch, AllDone, Over as ClosedAll}
use Rattle.coordinator.specs.Closers.{CloserState, HandIs}
use Rattle.coordinator.specs.Steps.{GivesBack}
use Rattle.worker_model.specs.declared.hand.Hand.{Hand}
use Rattle.worker_model.specs.declared.hand.Hand.TheVariants.{Empty, Commands, Drawn, NoItem, Own, Closes, Refused}
use Rattle.worker_model.specs.Workers.{WorkerState, HandFits}
use Rattle.worker_model.specs.Turns.{GivesRoomUp, GivesHandUp, GivesUp, TakesTurn}
use Rattle.replay_model.specs.Replays.{ReplayState, TurnsOff}
use Rattle.replay_model.specs.Kept.{IsReplay}
use Rattle.replay_model.specs.Laws.{HasTurnedOff, TurnsOffLaw, NoneHoldsLaw}
use Rattle.replay_laws.proofs.Answered.{Stays, IsQuiet, turned_off, quiet_twice}
use Rattle.replay_laws.proofs.Turned.{IsCalm, gives_hand_up}
use Rattle.replay_laws.proofs.Keeps.{number_at, others_at}

-- NO ROOM IS HELD behind the giving up: of the view v before the power was turned off, m behind that, and w behind the giving up.
module _ (v m w : View) (t u : Option Told) (same : m.grip ≡ v.grip) where
  retreated_none : (r : ℕ) (x : Room) (g : Grip) → m.grip ≡ Some g → Retreated m t r x w u → w.grip ≡ None
  retreated_none r x g held is = ap (λ (o : View). o.grip) (is.view g held)

  still_none : v.grip ≡ None → w ≡ m → w.grip ≡ None
  still_none none is = ap (λ (o : View). o.grip) is ∙ (same ∙ none)

  closer_none : (c : CloserState) (hand : ClosersHand) (r : ℕ) → HandIs c.settings c.learnt hand v → GivesBack hand r m t w u → w.grip ≡ None
  closer_none c HasNone r fits is = still_none fits.none is.0
  closer_none c (Flushing x) r fits is = retreated_none r x fits.grip (same ∙ fits.held) is
  closer_none c (Flushed x) r fits is = retreated_none r x fits.grip (same ∙ fits.held) is
  closer_none c (Shut x) r fits is = retreated_none r x fits.grip (same ∙ fits.held) is
  closer_none c (Epoch stage x) r fits is = retreated_none r (Super x) fits.grip (same ∙ fits.held) is
  closer_none c AllDone r fits is = still_none fits.none is.0
  closer_none c ClosedAll r fits is = absurd is

  room_none : (x : Room) → GivesRoomUp x m t w u → w.grip ≡ None
  room_none x is = retreated_none is.0.room x is.0 is.1 is.2

  hand_none : (c : WorkerState) (hand : Hand) → HandFits c hand v → GivesHandUp hand m t w u → w.grip ≡ None
  hand_none c Empty fits is = still_none fits.none is.0
  hand_none c (Commands reply x) fits is = room_none x is
  hand_none c (Drawn x) fits is = room_none x is
  hand_none c (NoItem x) fits is = room_none x is
  hand_none c (Own x) fits is = room_none x is
  hand_none c (Closes closer) fits is = closer_none closer closer.hand closer.learnt.rooms fits.closes.hand is
  hand_none c (Refused x) fits is = room_none x is

-- ONE THREAD.
module _ (i : ℕ) (s s' : ReplayState) (thread : i < length s.yard.told.world.views) (was : IsReplay s) (off : TurnsOff i s s') where
  abbrev v : View
  v = view_at s.yard i

  abbrev m : View
  m = view_at off.between.yard i

  abbrev w : View
  w = view_at s'.yard i

  abbrev worker : WorkerState
  worker = off.gives_up.worker

  gives : GivesUp worker m (Some off.between.yard.told) (Ok off.answer) off.gives_up.behind w (Some s'.yard.told)
  gives = subst (λ (b : Bool). TakesTurn b worker m (Some off.between.yard.told) (Ok off.answer) off.gives_up.behind w (Some s'.yard.told))
      (ap (λ (o : View). o.saw_off) off.off.view) off.gives_up.does

  fits : HandFits worker worker.hand v
  fits = (was.workers i worker (ap (λ (l : List WorkerState). slice_get l i) (sym off.same) ∙ off.gives_up.is_worker)).hand

  none : w.grip ≡ None
  none = hand_none v m w (Some off.between.yard.told) (Some s'.yard.told) (ap (λ (o : View). o.grip) off.off.view) worker worker.hand fits gives.gives

  abbrev off_quiet : IsQuiet v (Some s.yard.told) m (Some off.between.yard.told)
  off_quiet = turned_off v m (Some s.yard.told) (Some off.between.yard.told) off.off

  calm_quiet : IsCalm m (Some off.between.yard.told) w (Some s'.yard.told) → Stays v.thread w s.yard.told s'.yard.told
  calm_quiet (inl same) = subst (λ (x : View × Option Told). IsQuiet v (Some s.yard.told) x.0 x.1) (λ k. (sym same.0 k, sym same.1 k)) off_quiet
  calm_quiet (inr quiet) =
      quiet_twice v m w (Some s.yard.told) (Some off.between.yard.told) (Some s'.yard.told) (ap (λ (o : View). o.thread) off.off.view) off_quiet quiet

  stays : Stays v.thread w s.yard.told s'.yard.told
  stays = calm_quiet (gives_hand_up worker off.gives_up.behind m w (Some off.between.yard.told) (Some s'.yard.told) worker.hand gives.gives)

  views : s'.yard.told.world.views ≡ set s.yard.told.world.views i w
  views = stays.views ∙ ap (λ (k : ℕ). set s.yard.told.world.views k w) (number_at s.yard i was.lawful thread)

  has_turned_off : HasTurnedOff i s s'
  has_turned_off = record {
    none = none;
    others = others_at s.yard s'.yard i w (off.gives_up.beginning ∙ off.beginning) views;
    number = ap length views ∙ length-set s.yard.told.world.views i w;
    history = stays.history;
    checkpoints = stays.checkpoints;
  }

pub turns_off : TurnsOffLaw
turns_off i s s' thread was off = has_turned_off i s s' thread was off

-- ALL THREADS.
pub none_holds : NoneHoldsLaw
none_holds s t lawful number none i v at =
    let lt = at_inside t.yard.told.world.views i v at in
    sym (ap (λ (o : View). o.grip) (read_at t.yard.told.world.views i v (opening_view t.yard.beginning i) at)) ∙ none i (omega (arith, lt, number))
