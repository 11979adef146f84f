-- What a turn is of a worker: with its marks as they were nothing, quiet answers, or a drawn entry; or an ended epoch, with one mark more.
use Rattle.std.proofs.Common.{◌≡◌, ℕ, ◌⊎◌, inl, inr, Bool, true, false, [], ◌∷◌, ◌++◌, Option, Some, Result, Ok, Err, refl, ap, ◌∙◌}
use Rattle.std.specs.Prelude.{slice_get, nat_lt}
use Rattle.std.specs.declared.alloc.AllocError.{AllocError}
use Rattle.seq_object.specs.declared.command.Command.{Command}
use Rattle.seq_object.specs.declared.command.Reply.{Reply}
use Rattle.line_memory.specs.Line.{BankState}
use Rattle.life_model.specs.declared.life.Mark.{Mark}
use Rattle.restart_point.specs.declared.thread_end.ThreadEnd.{ThreadEnd}
use Rattle.restart_point.specs.declared.thread_end.ThreadEnd.TheVariants.{Ready, Waits, Ended}
use Rattle.epoch_word.specs.declared.stage.EpochStage.{EpochStage}
use Rattle.epoch_word.specs.declared.stage.EpochStage.TheVariants.{Before, Stored, AskedFor, InMemory}
use Rattle.rooms.specs.declared.room.Room.{Room}
use Rattle.rooms.specs.declared.room.Room.TheVariants.{Super}
use Rattle.yard_model.specs.declared.view.Phase.{Phase}
use Rattle.yard_model.specs.declared.view.Phase.TheVariants.{Standing, Running, Closing}
use Rattle.yard_model.specs.declared.view.View.{View}
use Rattle.room_yard.specs.Told.{Told}
use Rattle.room_yard.specs.Answers.{Drew, EndedEpoch}
use Rattle.room_in_hand.specs.Working.{stores_left}
use Rattle.coordinator.specs.declared.hand.Hand.{Hand as ClosersHand}
use Rattle.coordinator.specs.declared.hand.Hand.TheVariants.{Empty as HasNone, Flushing, Flushed, Shut, Epoch, AllDone, Over as ClosedAll}
use Rattle.coordinator.specs.declared.closer.CloseStep.{CloseStep}
use Rattle.coordinator.specs.declared.closer.CloseStep.TheVariants.{Did as ClosingWent, Released}
use Rattle.coordinator.specs.Closers.{CloserState}
use Rattle.coordinator.specs.Learnts.{ends_life}
use Rattle.coordinator.specs.Steps.{DoesRow, DoesEpoch, StepIs, GivesBack}
use Rattle.worker_model.specs.declared.hand.Hand.{Hand}
use Rattle.worker_model.specs.declared.hand.Hand.TheVariants.{Empty, Commands, Drawn, NoItem, Own, Closes, Refused}
use Rattle.worker_model.specs.declared.hand.Turn.{Turn}
use Rattle.worker_model.specs.declared.hand.Turn.TheVariants.{Did, Rested, Waited, Over}
use Rattle.worker_model.specs.Workers.{WorkerState}
use Rattle.worker_model.specs.Turns.{GivesHandUp, closed_by, DoesAlone, Unlocks, entry_of, one_carried_out, with_none_found, with_own_written, GoesOnCommand, GoesOnOwn, may_command, BeginsBy, LocksOwn, GoesOnEmpty, ClaimsBy, Leaves, FindsOver, RestsAndClaims, GoesOnStanding, WithNothing, WithHand, TakesTurn, DoesTurn}
use Rattle.replay_laws.proofs.Answered.{IsQuiet, left, leave_rests, locked, held, unlocked, retreated, stood, claimed, claim_rests, turned_off, locked_thread, rested_thread, quiet_twice}

-- nothing changed
abbrev pub IsStill : View → Option Told → View → Option Told → Type 0
IsStill v t w u = (w ≡ v) × (u ≡ t)

-- nothing changed, or quiet answers alone were met
abbrev pub IsCalm : View → Option Told → View → Option Told → Type 0
IsCalm v t w u = IsStill v t w u ⊎ IsQuiet v t w u

-- the entry of the worker's next command was drawn
pub record HasDrawn (c : WorkerState) (v : View) (t : Option Told) (w : View) (u : Option Told) : Type 0 where
  pub command : Command
  pub reply : Reply
  pub next : slice_get c.commands c.position ≡ Some command
  pub place : ℕ
  pub drew : Drew v t (entry_of c command reply) place w u

-- the epoch was ended, and the worker has its mark
pub record HasEnded (c d : WorkerState) (v : View) (t : Option Told) (w : View) (u : Option Told) : Type 0 where
  pub mark : Mark
  pub over : Bool
  pub fed : Bool
  pub ended : EndedEpoch v t over fed mark w u
  pub marks : d.marks ≡ c.marks ++ mark ∷ []

abbrev pub HasTurned : WorkerState → WorkerState → View → Option Told → View → Option Told → Type 0
HasTurned c d v t w u = ((d.marks ≡ c.marks) × (IsCalm v t w u ⊎ HasDrawn c v t w u)) ⊎ HasEnded c d v t w u

-- the marks of a worker that is this one
marks_of : (d e : WorkerState) → d ≡ e → d.marks ≡ e.marks
marks_of d e is = ap (λ (c : WorkerState). c.marks) is

-- THE CLOSER.
module _ (v w : View) (t u : Option Told) where
  closer_gives_back : (hand : ClosersHand) (r : ℕ) → GivesBack hand r v t w u → IsCalm v t w u
  closer_gives_back HasNone r is = inl is
  closer_gives_back (Flushing x) r is = inr (retreated v w t u r x is)
  closer_gives_back (Flushed x) r is = inr (retreated v w t u r x is)
  closer_gives_back (Shut x) r is = inr (retreated v w t u r x is)
  closer_gives_back (Epoch stage x) r is = inr (retreated v w t u r (Super x) is)
  closer_gives_back AllDone r is = inl is
  closer_gives_back ClosedAll r is = absurd is

  does_epoch : (stage : EpochStage) (x : BankState) (c d : CloserState) → DoesEpoch stage x c v t d w u → IsCalm v t w u
  does_epoch Before x c d is = inl (is.1, is.2)
  does_epoch Stored x c d is = inl (is.1, is.2)
  does_epoch AskedFor x c d is = inl (is.1, is.2)
  does_epoch InMemory x c d is = inr (unlocked v w t u c.learnt.rooms (Super x) is.unlocked)

  does_row : (hand : ClosersHand) (c d : CloserState) → DoesRow hand c v t d w u → IsCalm v t w u
  does_row HasNone c d is = inr (locked v w t u c.learnt.rooms is.room is.locked)
  does_row (Flushing x) c d is = inl (is.alone.1, is.alone.2)
  does_row (Flushed x) c d is = inl (is.1, is.2)
  does_row (Shut x) c d is = inr (unlocked v w t u c.learnt.rooms x is.unlocked)
  does_row (Epoch stage x) c d is = does_epoch stage x c d is
  does_row AllDone c d is = absurd is
  does_row ClosedAll c d is = absurd is

  closes_on : (step : CloseStep) (closer behind : CloserState) (c d : WorkerState) → StepIs step closer v t behind w u → d ≡ closed_by step c behind → HasTurned c d v t w u
  closes_on ClosingWent closer behind c d is worker = inl (marks_of d _ worker, inl (does_row closer.hand closer behind is.row))
  closes_on (Released mark verdict) closer behind c d is worker =
      inr (record { mark = mark; over = ends_life verdict; fed = is.fed; ended = is.ended; marks = marks_of d _ worker })

-- EACH ROW.
module _ (c d : WorkerState) (v w : View) (t u : Option Told) where
  pub gives_hand_up : (hand : Hand) → GivesHandUp hand v t w u → IsCalm v t w u
  gives_hand_up Empty is = inl is
  gives_hand_up (Commands reply x) is = inr (retreated v w t u is.0.room x is.2)
  gives_hand_up (Drawn x) is = inr (retreated v w t u is.0.room x is.2)
  gives_hand_up (NoItem x) is = inr (retreated v w t u is.0.room x is.2)
  gives_hand_up (Own x) is = inr (retreated v w t u is.0.room x is.2)
  gives_hand_up (Closes closer) is = closer_gives_back v w t u closer.hand closer.learnt.rooms is
  gives_hand_up (Refused x) is = inr (retreated v w t u is.0.room x is.2)

  does_alone : (r : Result Turn AllocError) (hand : Hand) → DoesAlone hand c v t r d w u → HasTurned c d v t w u
  does_alone r hand is = inl (marks_of d _ is.worker, inl (inl is.same))

  unlocks : (r : Result Turn AllocError) (x : Room) (behind : WorkerState) → behind.marks ≡ c.marks → Unlocks x behind v t r d w u → HasTurned c d v t w u
  unlocks r x behind same is = inl (marks_of d behind is.worker ∙ same, inl (inr (unlocked v w t u is.grip.room x is.unlocked)))

  goes_on_command : (some_left : Bool) (r : Result Turn AllocError) (reply : Reply) (x : Room) → GoesOnCommand some_left reply x c v t r d w u → HasTurned c d v t w u
  goes_on_command true r reply x is = does_alone r _ is
  goes_on_command false r reply x is = inl (marks_of d _ is.worker, inr (record { command = is.command; reply = reply; next = is.next; place = is.ticket; drew = is.drew }))

  goes_on_own : (some_left : Bool) (r : Result Turn AllocError) (x : Room) → GoesOnOwn some_left x c v t r d w u → HasTurned c d v t w u
  goes_on_own true r x is = does_alone r _ is
  goes_on_own false r x is = unlocks r x (with_own_written c) refl is

  begins_by : (r : Result Turn AllocError) (command : Command) → BeginsBy r command c v t d w u → HasTurned c d v t w u
  begins_by (Ok Did) command is = inl (marks_of d _ is.worker, inl (inr (locked v w t u _ is.taken is.locked)))
  begins_by (Ok (Rested rest)) command is = absurd is
  begins_by (Ok (Waited met)) command is = inl (marks_of d _ is.worker, inl (inr (held v w t u _ met is.waits)))
  begins_by (Ok Over) command is = absurd is
  begins_by (Err error) command is = inl (
    marks_of d _ is.worker,
    inl (inr (quiet_twice v is.between w t is.told u
        (locked_thread v is.between t is.told _ is.taken is.locked)
        (locked v is.between t is.told _ is.taken is.locked)
        (turned_off is.between w is.told u is.off))),
  )

  locks_own : (r : Result Turn AllocError) → LocksOwn c v t r d w u → HasTurned c d v t w u
  locks_own (Ok Did) is = inl (marks_of d _ is.worker, inl (inr (locked v w t u _ is.taken is.locked)))
  locks_own (Ok (Rested rest)) is = absurd is
  locks_own (Ok (Waited met)) is = inl (marks_of d _ is.worker, inl (inr (held v w t u _ met is.waits)))
  locks_own (Ok Over) is = absurd is
  locks_own (Err error) is = absurd is

  goes_on_empty : (may wrote : Bool) (r : Result Turn AllocError) → GoesOnEmpty may wrote c v t r d w u → HasTurned c d v t w u
  goes_on_empty true wrote r is = begins_by r is.command is.begins
  goes_on_empty false false r is = locks_own r is
  goes_on_empty false true r is = inl (marks_of d _ is.worker, inl (inr (stood v w t u is.stood)))

  claims_by : (r : Result Turn AllocError) → ClaimsBy r c v t d w u → (d.marks ≡ c.marks) × IsQuiet v t w u
  claims_by (Ok Did) is = (marks_of d _ is.worker, claimed v w t u is.claimed)
  claims_by (Ok (Rested rest)) is = (marks_of d _ is.worker, claim_rests v w t u rest is.rests)
  claims_by (Ok (Waited met)) is = absurd is
  claims_by (Ok Over) is = (marks_of d _ is.1.worker, claim_rests v w t u is.0 is.1.rests)
  claims_by (Err error) is = (marks_of d _ is.worker, turned_off v w t u is.off)

-- THE TURN.
module _ (c d : WorkerState) (v w : View) (t u : Option Told) (r : Result Turn AllocError) where
  may_leave : Leaves c v t r d w u ⊎ (FindsOver c v t r d w u ⊎ RestsAndClaims c v t r d w u) → HasTurned c d v t w u
  may_leave (inl is) = inl (marks_of d _ is.worker, inl (inr (left v w t u c.end is.epoch is.left)))
  may_leave (inr (inl is)) = inl (marks_of d c is.worker, inl (inr (leave_rests v w t u c.end is.rest is.rests)))
  may_leave (inr (inr is)) =
      let claims : (d.marks ≡ c.marks) × IsQuiet is.between is.told w u = claims_by c d is.between w is.told u r is.claims in
      inl (
        claims.0,
        inl (inr (quiet_twice v is.between w t is.told u
            (rested_thread v is.between t is.told c.end is.rest is.rests)
            (leave_rests v is.between t is.told c.end is.rest is.rests)
            claims.1)),
      )

  goes_on_standing : (end : ThreadEnd) → GoesOnStanding end c v t r d w u → HasTurned c d v t w u
  goes_on_standing Ended is = let claims : (d.marks ≡ c.marks) × IsQuiet v t w u = claims_by c d v w t u r is in inl (claims.0, inl (inr claims.1))
  goes_on_standing Ready is = may_leave is
  goes_on_standing Waits is = may_leave is

  with_nothing : (phase : Phase) → WithNothing phase c v t r d w u → HasTurned c d v t w u
  with_nothing Standing is = goes_on_standing c.end is
  with_nothing Running is = goes_on_empty c d v w t u (may_command c) c.wrote r is
  with_nothing Closing is = absurd is

  with_hand_of : (hand : Hand) → WithHand hand c v t r d w u → HasTurned c d v t w u
  with_hand_of Empty is = with_nothing v.phase is
  with_hand_of (Commands reply x) is = goes_on_command c d v w t u (nat_lt 0 (stores_left x)) r reply x is
  with_hand_of (Drawn x) is = unlocks c d v w t u r x (one_carried_out c) refl is
  with_hand_of (NoItem x) is = unlocks c d v w t u r x (with_none_found c) refl is
  with_hand_of (Own x) is = goes_on_own c d v w t u (nat_lt 0 (stores_left x)) r x is
  with_hand_of (Closes closer) is = closes_on v w t u is.step closer is.behind c d is.is is.worker
  with_hand_of (Refused x) is = absurd is

  takes_turn : (off : Bool) → TakesTurn off c v t r d w u → HasTurned c d v t w u
  takes_turn true is = inl (marks_of d _ is.worker, inl (gives_hand_up c d v w t u c.hand is.gives))
  takes_turn false is = with_hand_of c.hand is

  pub has_turned : DoesTurn c v t r d w u → HasTurned c d v t w u
  has_turned is = takes_turn v.saw_off is
