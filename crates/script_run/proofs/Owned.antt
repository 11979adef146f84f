-- What a turn leaves of a worker's own: its thread and what its life began with; it does one event at most; and a mark comes only where it closes.
use Rattle.std.proofs.Common.{◌≡◌, ℕ, ◌+◌, ◌≤◌, ◌⊎◌, inl, inr, ⊎_elim, Bool, true, false, Option, Some, Result, Ok, Err, refl, sym, ap, ◌∙◌, subst, arith}
use Rattle.std.specs.Prelude.{nat_lt}
use Rattle.std.specs.declared.alloc.AllocError.{AllocError}
use Rattle.seq_object.specs.declared.command.Command.{Command}
use Rattle.seq_object.specs.declared.command.Reply.{Reply}
use Rattle.line_memory.specs.Line.{BankState}
use Rattle.restart_point.specs.declared.thread_end.ThreadEnd.{ThreadEnd}
use Rattle.restart_point.specs.declared.thread_end.ThreadEnd.TheVariants.{Ready, Waits, Ended}
use Rattle.epoch_word.specs.declared.stage.EpochStage.{EpochStage}
use Rattle.epoch_word.specs.declared.stage.EpochStage.TheVariants.{Before, Stored, AskedFor, InMemory}
use Rattle.rooms.specs.declared.room.Room.{Room}
use Rattle.rooms.specs.declared.room.Room.TheVariants.{Super}
use Rattle.yard_model.specs.declared.view.Grip.{Grip}
use Rattle.yard_model.specs.declared.view.Phase.{Phase}
use Rattle.yard_model.specs.declared.view.Phase.TheVariants.{Standing, Running, Closing}
use Rattle.yard_model.specs.declared.view.View.{View}
use Rattle.room_yard.specs.declared.answers.Rest.{Rest}
use Rattle.room_yard.specs.Told.{Told}
use Rattle.room_yard.specs.Answers.{LeaveRests, ClaimRests, Locked, Unlocked, Retreated}
use Rattle.room_in_hand.specs.Working.{stores_left}
use Rattle.coordinator.specs.declared.hand.Hand.{Hand as ClosersHand}
use Rattle.coordinator.specs.declared.hand.Hand.TheVariants.{Empty as HasNone, Flushing, Flushed, Shut, Epoch, AllDone, Over as ClosedAll}
use Rattle.coordinator.specs.declared.closer.CloseStep.{CloseStep}
use Rattle.coordinator.specs.declared.closer.CloseStep.TheVariants.{Did as ClosingWent, Released}
use Rattle.coordinator.specs.Closers.{CloserState, HandIs, Closes as ClosesFor}
use Rattle.coordinator.specs.Steps.{DoesRow, DoesEpoch, StepIs, GivesBack}
use Rattle.worker_model.specs.declared.hand.Hand.{Hand}
use Rattle.worker_model.specs.declared.hand.Hand.TheVariants.{Empty, Commands, Drawn, NoItem, Own, Closes, Refused}
use Rattle.worker_model.specs.declared.hand.Turn.{Turn}
use Rattle.worker_model.specs.declared.hand.Turn.TheVariants.{Did, Rested, Waited, Over}
use Rattle.worker_model.specs.Workers.{WorkerState, HandFits, IsWorker}
use Rattle.worker_model.specs.Turns.{GivesRoomUp, GivesHandUp, given_up, closed_by, DoesAlone, Unlocks, one_carried_out, with_none_found, with_own_written, GoesOnCommand, GoesOnOwn, may_command, BeginsBy, LocksOwn, GoesOnEmpty, ClaimsBy, Leaves, FindsOver, RestsAndClaims, GoesOnStanding, WithNothing, WithHand, TakesTurn, DoesTurn}

-- a worker c of view v became d of view w
pub record KeepsOwn (c d : WorkerState) (v w : View) : Type 0 where
  pub thread : d.thread ≡ c.thread
  pub beginning : w.beginning ≡ v.beginning
  pub done : d.done ≤ c.done + 1
  pub marks : (d.marks ≡ c.marks) ⊎ (v.phase ≡ Closing)

-- of a worker that is changed in other fields, and did an event or none
module _ (c d e : WorkerState) (v w : View) (is : d ≡ e) (thread : e.thread ≡ c.thread) (marks : (e.marks ≡ c.marks) ⊎ (v.phase ≡ Closing)) (beginning : w.beginning ≡ v.beginning) where
  keeps : e.done ≤ c.done + 1 → KeepsOwn c d v w
  keeps done = record {
    thread = ap (λ (o : WorkerState). o.thread) is ∙ thread;
    beginning = beginning;
    done = subst (λ (o : WorkerState). o.done ≤ c.done + 1) (sym is) done;
    marks = subst (λ (o : WorkerState). (o.marks ≡ c.marks) ⊎ (v.phase ≡ Closing)) (sym is) marks;
  }

  after_one : e.done ≡ c.done + 1 → KeepsOwn c d v w
  after_one done = keeps (omega (arith, done))

  after_none : e.done ≡ c.done → KeepsOwn c d v w
  after_none done = keeps (omega (arith, done))

-- WHAT THE LIFE BEGAN WITH is the same behind each answer.
abbrev IsSame : View → View → Type 0
IsSame v w = w.beginning ≡ v.beginning

same_of : (v w : View) → w ≡ v → IsSame v w
same_of v w is = ap (λ (o : View). o.beginning) is

module _ (v w : View) (t u : Option Told) where
  locked : (r : ℕ) (x : Room) → Locked v t r x w u → IsSame v w
  locked r x is = ap (λ (o : View). o.beginning) is.view

  unlocked : (r : ℕ) (x : Room) (g : Grip) → v.grip ≡ Some g → Unlocked v t r x w u → IsSame v w
  unlocked r x g held is = ap (λ (o : View). o.beginning) (is.view g held)

  retreated : (r : ℕ) (x : Room) (g : Grip) → v.grip ≡ Some g → Retreated v t r x w u → IsSame v w
  retreated r x g held is = ap (λ (o : View). o.beginning) (is.view g held)

  leave_rests : (end : ThreadEnd) (rest : Rest) → LeaveRests v t end rest w u → IsSame v w
  leave_rests end rest is = ⊎_elim (λ f. ap (λ (o : View). o.beginning) f.view) (λ m. ap (λ (o : View). o.beginning) m.view) is.cause

  claim_rests : (rest : Rest) → ClaimRests v t rest w u → IsSame v w
  claim_rests rest is = ⊎_elim (λ f. ap (λ (o : View). o.beginning) f.view) (λ m. ap (λ (o : View). o.beginning) m.view) is.cause

  -- of a closing
  closer_gives_back : (k : CloserState) (hand : ClosersHand) (r : ℕ) → HandIs k.settings k.learnt hand v → GivesBack hand r v t w u → IsSame v w
  closer_gives_back k HasNone r fits is = same_of v w is.0
  closer_gives_back k (Flushing x) r fits is = retreated r x fits.grip fits.held is
  closer_gives_back k (Flushed x) r fits is = retreated r x fits.grip fits.held is
  closer_gives_back k (Shut x) r fits is = retreated r x fits.grip fits.held is
  closer_gives_back k (Epoch stage x) r fits is = retreated r (Super x) fits.grip fits.held is
  closer_gives_back k AllDone r fits is = same_of v w is.0
  closer_gives_back k ClosedAll r fits is = absurd is

  does_epoch : (stage : EpochStage) (x : BankState) (k l : CloserState) (g : Grip) → v.grip ≡ Some g → DoesEpoch stage x k v t l w u → IsSame v w
  does_epoch Before x k l g held is = same_of v w is.1
  does_epoch Stored x k l g held is = same_of v w is.1
  does_epoch AskedFor x k l g held is = same_of v w is.1
  does_epoch InMemory x k l g held is = unlocked k.learnt.rooms (Super x) g held is.unlocked

  does_row : (hand : ClosersHand) (k l : CloserState) → HandIs k.settings k.learnt hand v → DoesRow hand k v t l w u → IsSame v w
  does_row HasNone k l fits is = locked k.learnt.rooms is.room is.locked
  does_row (Flushing x) k l fits is = same_of v w is.alone.1
  does_row (Flushed x) k l fits is = same_of v w is.1
  does_row (Shut x) k l fits is = unlocked k.learnt.rooms x fits.grip fits.held is.unlocked
  does_row (Epoch stage x) k l fits is = does_epoch stage x k l fits.grip fits.held is
  does_row AllDone k l fits is = absurd is
  does_row ClosedAll k l fits is = absurd is

  -- of a room that is given up
  room_given_up : (x : Room) → GivesRoomUp x v t w u → IsSame v w
  room_given_up x is = retreated is.0.room x is.0 is.1 is.2

  hand_given_up : (c : WorkerState) (hand : Hand) → HandFits c hand v → GivesHandUp hand v t w u → IsSame v w
  hand_given_up c Empty fits is = same_of v w is.0
  hand_given_up c (Commands reply x) fits is = room_given_up x is
  hand_given_up c (Drawn x) fits is = room_given_up x is
  hand_given_up c (NoItem x) fits is = room_given_up x is
  hand_given_up c (Own x) fits is = room_given_up x is
  hand_given_up c (Closes closer) fits is = closer_gives_back closer closer.hand closer.learnt.rooms fits.closes.hand is
  hand_given_up c (Refused x) fits is = room_given_up x is

-- EACH ROW.
module _ (c d : WorkerState) (v w : View) (t u : Option Told) where
  closes_on : (step : CloseStep) (closer behind : CloserState) → ClosesFor closer v → StepIs step closer v t behind w u → d ≡ closed_by step c behind → KeepsOwn c d v w
  closes_on ClosingWent closer behind fits is worker = after_one c d _ v w worker refl (inl refl) (does_row v w t u closer.hand closer behind fits.hand is.row) refl
  closes_on (Released mark verdict) closer behind fits is worker = after_one c d _ v w worker refl (inr fits.phase) (ap (λ (o : View). o.beginning) is.ended.view) refl

  does_alone : (r : Result Turn AllocError) (hand : Hand) → DoesAlone hand c v t r d w u → KeepsOwn c d v w
  does_alone r hand is = after_one c d _ v w is.worker refl (inl refl) (same_of v w is.same.0) refl

  unlocks : (r : Result Turn AllocError) (x : Room) (behind : WorkerState) → behind.thread ≡ c.thread → behind.marks ≡ c.marks → behind.done ≡ c.done + 1 → Unlocks x behind v t r d w u → KeepsOwn c d v w
  unlocks r x behind thread marks done is = after_one c d behind v w is.worker thread (inl marks) (unlocked v w t u is.grip.room x is.grip is.held is.unlocked) done

  goes_on_command : (some_left : Bool) (r : Result Turn AllocError) (reply : Reply) (x : Room) (g : Grip) → v.grip ≡ Some g → GoesOnCommand some_left reply x c v t r d w u → KeepsOwn c d v w
  goes_on_command true r reply x g held is = does_alone r _ is
  goes_on_command false r reply x g held is = after_one c d _ v w is.worker refl (inl refl) (ap (λ (o : View). o.beginning) (is.drew.view g held)) refl

  goes_on_own : (some_left : Bool) (r : Result Turn AllocError) (x : Room) → GoesOnOwn some_left x c v t r d w u → KeepsOwn c d v w
  goes_on_own true r x is = does_alone r _ is
  goes_on_own false r x is = unlocks r x (with_own_written c) refl refl refl is

  begins_by : (r : Result Turn AllocError) (command : Command) → BeginsBy r command c v t d w u → KeepsOwn c d v w
  begins_by (Ok Did) command is = after_one c d _ v w is.worker refl (inl refl) (locked v w t u _ is.taken is.locked) refl
  begins_by (Ok (Rested rest)) command is = absurd is
  begins_by (Ok (Waited met)) command is = after_none c d _ v w is.worker refl (inl refl) (ap (λ (o : View). o.beginning) is.waits.view) refl
  begins_by (Ok Over) command is = absurd is
  begins_by (Err error) command is =
      after_none c d _ v w is.worker refl (inl refl) (ap (λ (o : View). o.beginning) is.off.view ∙ locked v is.between t is.told _ is.taken is.locked) refl

  locks_own : (r : Result Turn AllocError) → LocksOwn c v t r d w u → KeepsOwn c d v w
  locks_own (Ok Did) is = after_one c d _ v w is.worker refl (inl refl) (locked v w t u _ is.taken is.locked) refl
  locks_own (Ok (Rested rest)) is = absurd is
  locks_own (Ok (Waited met)) is = after_none c d _ v w is.worker refl (inl refl) (ap (λ (o : View). o.beginning) is.waits.view) refl
  locks_own (Ok Over) is = absurd is
  locks_own (Err error) is = absurd is

  goes_on_empty : (may wrote : Bool) (r : Result Turn AllocError) → GoesOnEmpty may wrote c v t r d w u → KeepsOwn c d v w
  goes_on_empty true wrote r is = begins_by r is.command is.begins
  goes_on_empty false false r is = locks_own r is
  goes_on_empty false true r is = after_one c d _ v w is.worker refl (inl refl) (ap (λ (o : View). o.beginning) is.stood.view) refl

  claims_by : (r : Result Turn AllocError) → ClaimsBy r c v t d w u → KeepsOwn c d v w
  claims_by (Ok Did) is = after_one c d _ v w is.worker refl (inl refl) (ap (λ (o : View). o.beginning) is.claimed.view) refl
  claims_by (Ok (Rested rest)) is = after_none c d _ v w is.worker refl (inl refl) (claim_rests v w t u rest is.rests) refl
  claims_by (Ok (Waited met)) is = absurd is
  claims_by (Ok Over) is = after_none c d _ v w is.1.worker refl (inl refl) (claim_rests v w t u is.0 is.1.rests) refl
  claims_by (Err error) is = after_none c d _ v w is.worker refl (inl refl) (ap (λ (o : View). o.beginning) is.off.view) refl

-- THE TURN.
module _ (c d : WorkerState) (v w : View) (t u : Option Told) (r : Result Turn AllocError) where
  -- a claim behind a leave at rest
  rests_and_claims : RestsAndClaims c v t r d w u → KeepsOwn c d v w
  rests_and_claims is =
      let rested : IsSame v is.between = leave_rests v is.between t is.told c.end is.rest is.rests in
      let phase : is.between.phase ≡ v.phase = ⊎_elim (λ f. ap (λ (o : View). o.phase) f.view) (λ m. ap (λ (o : View). o.phase) m.view) is.rests.cause in
      let claims : KeepsOwn c d is.between w = claims_by c d is.between w is.told u r is.claims in
      record {
        thread = claims.thread;
        beginning = claims.beginning ∙ rested;
        done = claims.done;
        marks = ⊎_elim (λ e. inl e) (λ e. inr (sym phase ∙ e)) claims.marks;
      }

  may_leave : Leaves c v t r d w u ⊎ (FindsOver c v t r d w u ⊎ RestsAndClaims c v t r d w u) → KeepsOwn c d v w
  may_leave (inl is) = after_one c d _ v w is.worker refl (inl refl) (ap (λ (o : View). o.beginning) is.left.view) refl
  may_leave (inr (inl is)) = after_none c d c v w is.worker refl (inl refl) (leave_rests v w t u c.end is.rest is.rests) refl
  may_leave (inr (inr is)) = rests_and_claims is

  goes_on_standing : (end : ThreadEnd) → GoesOnStanding end c v t r d w u → KeepsOwn c d v w
  goes_on_standing Ended is = claims_by c d v w t u r is
  goes_on_standing Ready is = may_leave is
  goes_on_standing Waits is = may_leave is

  with_nothing : (phase : Phase) → WithNothing phase c v t r d w u → KeepsOwn c d v w
  with_nothing Standing is = goes_on_standing c.end is
  with_nothing Running is = goes_on_empty c d v w t u (may_command c) c.wrote r is
  with_nothing Closing is = absurd is

  with_hand_of : (hand : Hand) → HandFits c hand v → WithHand hand c v t r d w u → KeepsOwn c d v w
  with_hand_of Empty fits is = with_nothing v.phase is
  with_hand_of (Commands reply x) fits is = goes_on_command c d v w t u (nat_lt 0 (stores_left x)) r reply x fits.grip fits.holds.held is
  with_hand_of (Drawn x) fits is = unlocks c d v w t u r x (one_carried_out c) refl refl refl is
  with_hand_of (NoItem x) fits is = unlocks c d v w t u r x (with_none_found c) refl refl refl is
  with_hand_of (Own x) fits is = goes_on_own c d v w t u (nat_lt 0 (stores_left x)) r x is
  with_hand_of (Closes closer) fits is = closes_on c d v w t u is.step closer is.behind fits.closes is.is is.worker
  with_hand_of (Refused x) fits is = absurd is

  takes_turn : (off : Bool) → HandFits c c.hand v → TakesTurn off c v t r d w u → KeepsOwn c d v w
  takes_turn true fits is = after_none c d (given_up c) v w is.worker refl (inl refl) (hand_given_up v w t u c c.hand fits is.gives) refl
  takes_turn false fits is = with_hand_of c.hand fits is

  pub keeps_own : IsWorker c v → DoesTurn c v t r d w u → KeepsOwn c d v w
  keeps_own was is = takes_turn v.saw_off was.hand is
