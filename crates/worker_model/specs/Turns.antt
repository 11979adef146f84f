-- THE TABLE OF A TURN. The first row whose condition holds is taken; which one that is the view's phase, what is in hand, and what the worker
-- keeps decide. A worker c of view v, where the state t is told, becomes d of view w, where u is told, and the turn answers r.
use Rattle.std.specs.Prelude.{◌≡◌, ℕ, ◌+◌, ◌-◌, ◌<◌, ◌&&◌, ◌⊎◌, nat_lt, nat_le, not, Bool, true, false, [], ◌∷◌, ◌++◌, length, Option, Some, None, Result, Ok, Err, slice_get, if◌then◌else◌}
use Rattle.std.specs.declared.alloc.AllocError.{AllocError}
use Rattle.seq_object.specs.declared.command.Command.{Command}
use Rattle.seq_object.specs.declared.command.Reply.{Reply}
use Rattle.seq_object.specs.declared.history.Entry.{Entry}
use Rattle.seq_object.specs.Sizes.{sizes_of, thread_room}
use Rattle.seq_object.specs.Object.{room_of}
use Rattle.restart_point.specs.declared.thread_end.ThreadEnd.{ThreadEnd}
use Rattle.restart_point.specs.declared.thread_end.ThreadEnd.TheVariants.{Ready, Waits, Ended}
use Rattle.restart_point.specs.ArrivalWord.{arrival_of}
use Rattle.rooms.specs.declared.room.Room.{Room}
use Rattle.yard_model.specs.declared.view.Phase.{Phase}
use Rattle.yard_model.specs.declared.view.Phase.TheVariants.{Standing, Running, Closing}
use Rattle.yard_model.specs.declared.view.View.{View}
use Rattle.yard_model.specs.declared.view.Grip.{Grip}
use Rattle.room_yard.specs.declared.answers.Rest.{Rest}
use Rattle.room_yard.specs.declared.answers.Held.{Held}
use Rattle.room_yard.specs.Told.{Told}
use Rattle.room_yard.specs.Answers.{HasLeft, LeaveRests, Locked, LockIsHeld, Unlocked, Retreated, Drew, Stood, Claimed, ClaimRests, TurnedOff}
use Rattle.room_in_hand.specs.Working.{stores_left, stored, HasBegun, entry_noted, point_planned}
use Rattle.coordinator.specs.declared.closer.CloseStep.{CloseStep}
use Rattle.coordinator.specs.declared.closer.CloseStep.TheVariants.{Did as ClosingWent, Released}
use Rattle.coordinator.specs.Closers.{CloserState, new_closer}
use Rattle.coordinator.specs.Steps.{StepIs, GivesBack}
use Rattle.worker_model.specs.declared.hand.Hand.{Hand}
use Rattle.worker_model.specs.declared.hand.Hand.TheVariants.{Empty, Commands, Drawn, NoItem, Own, Closes, Refused}
use Rattle.worker_model.specs.declared.hand.Turn.{Turn}
use Rattle.worker_model.specs.declared.hand.Turn.TheVariants.{Did, Rested, Waited, Over}
use Rattle.worker_model.specs.Workers.{WorkerState, ahead}

-- the worker with this in hand, and with one event more done
abbrev pub with_hand : WorkerState → Hand → WorkerState
with_hand c hand = record c { hand = hand }

abbrev pub did : WorkerState → Hand → WorkerState
did c hand = record c { hand = hand; done = c.done + 1 }

-- ROW 1. The thread saw the power off: a room in hand is given up, and the turn answers Over.

-- the room that the view holds is given up
abbrev pub GivesRoomUp : Room → View → Option Told → View → Option Told → Type 0
GivesRoomUp x v t w u = (g : Grip) × (v.grip ≡ Some g) × Retreated v t g.room x w u

abbrev pub GivesHandUp : Hand → View → Option Told → View → Option Told → Type 0
GivesHandUp Empty v t w u = (w ≡ v) × (u ≡ t)
GivesHandUp (Commands reply x) v t w u = GivesRoomUp x v t w u
GivesHandUp (Drawn x) v t w u = GivesRoomUp x v t w u
GivesHandUp (NoItem x) v t w u = GivesRoomUp x v t w u
GivesHandUp (Own x) v t w u = GivesRoomUp x v t w u
GivesHandUp (Closes closer) v t w u = GivesBack closer.hand closer.learnt.rooms v t w u
GivesHandUp (Refused x) v t w u = GivesRoomUp x v t w u

-- an entry that is drawn counts as carried out, though its room is not home
abbrev pub given_up : WorkerState → WorkerState
given_up c = record c { position = c.position + ahead c.hand; quota = c.quota - ahead c.hand; hand = Empty }

pub record GivesUp (c : WorkerState) (v : View) (t : Option Told) (r : Result Turn AllocError) (d : WorkerState) (w : View) (u : Option Told) : Type 0 where
  pub over : r ≡ Ok Over
  pub worker : d ≡ given_up c
  pub gives : GivesHandUp c.hand v t w u

-- ROW 2. It closes: one step of the closer. With the release the mark is kept, and the thread stands.

abbrev pub closed_by : CloseStep → WorkerState → CloserState → WorkerState
closed_by ClosingWent c closer = did c (Closes closer)
closed_by (Released mark verdict) c closer = record c { hand = Empty; marks = c.marks ++ mark ∷ []; spare = c.spare - 1; done = c.done + 1 }

pub record ClosesOn (closer : CloserState) (c : WorkerState) (v : View) (t : Option Told) (r : Result Turn AllocError) (d : WorkerState) (w : View) (u : Option Told) : Type 0 where
  pub did_one : r ≡ Ok Did
  pub step : CloseStep
  pub behind : CloserState
  pub is : StepIs step closer v t behind w u
  pub worker : d ≡ closed_by step c behind

-- ROWS 3 to 5. A room is held.

-- an event on the room in hand alone
pub record DoesAlone (hand : Hand) (c : WorkerState) (v : View) (t : Option Told) (r : Result Turn AllocError) (d : WorkerState) (w : View) (u : Option Told) : Type 0 where
  pub did_one : r ≡ Ok Did
  pub worker : d ≡ did c hand
  pub same : (w ≡ v) × (u ≡ t)

-- the entry of the command that is under way
abbrev pub entry_of : WorkerState → Command → Reply → Entry
entry_of c command reply = record { thread = c.thread; index = c.position; command = command; reply = reply }

-- its entry is drawn, and noted in the room
pub record Draws (reply : Reply) (x : Room) (c : WorkerState) (v : View) (t : Option Told) (r : Result Turn AllocError) (d : WorkerState) (w : View) (u : Option Told) : Type 0 where
  pub did_one : r ≡ Ok Did
  pub command : Command
  pub next : slice_get c.commands c.position ≡ Some command
  pub ticket : ℕ
  pub drew : Drew v t (entry_of c command reply) ticket w u
  pub worker : d ≡ did c (Drawn (entry_noted x ticket (entry_of c command reply)))

-- the room goes home, and the worker is then this one
pub record Unlocks (x : Room) (behind : WorkerState) (v : View) (t : Option Told) (r : Result Turn AllocError) (d : WorkerState) (w : View) (u : Option Told) : Type 0 where
  pub did_one : r ≡ Ok Did
  pub grip : Grip
  pub held : v.grip ≡ Some grip
  pub unlocked : Unlocked v t grip.room x w u
  pub worker : d ≡ behind

-- a command is carried out: the position rises and the quota falls
abbrev pub one_carried_out : WorkerState → WorkerState
one_carried_out c = record c { position = c.position + 1; quota = c.quota - 1; passed = false; hand = Empty; done = c.done + 1 }

-- the queue was found empty
abbrev pub with_none_found : WorkerState → WorkerState
with_none_found c = record c { found_empty = true; hand = Empty; done = c.done + 1 }

-- the restart point is written
abbrev pub with_own_written : WorkerState → WorkerState
with_own_written c = record c { wrote = true; hand = Empty; done = c.done + 1 }

abbrev pub GoesOnCommand : Bool → Reply → Room → WorkerState → View → Option Told → Result Turn AllocError → WorkerState → View → Option Told → Type 0
GoesOnCommand true reply x c v t r d w u = DoesAlone (Commands reply (stored x)) c v t r d w u
GoesOnCommand false reply x c v t r d w u = Draws reply x c v t r d w u

abbrev pub GoesOnOwn : Bool → Room → WorkerState → View → Option Told → Result Turn AllocError → WorkerState → View → Option Told → Type 0
GoesOnOwn true x c v t r d w u = DoesAlone (Own (stored x)) c v t r d w u
GoesOnOwn false x c v t r d w u = Unlocks x (with_own_written c) v t r d w u

-- ROW 6. No room is held, and quota and commands are left, and no take found the queue empty in this epoch: the room of the next command
-- is locked, and the command begins.

abbrev pub may_command : WorkerState → Bool
may_command c = nat_lt 0 c.quota && (nat_lt c.position (length c.commands) && not c.found_empty)

-- what a begin leaves in hand
abbrev pub begun_hand : Option Reply → Room → Hand
begun_hand (Some reply) x = Commands reply x
begun_hand None x = NoItem x

-- past the gate
abbrev pub at_gate : WorkerState → WorkerState
at_gate c = record c { passed = true }

pub record Begins (command : Command) (c : WorkerState) (v : View) (t : Option Told) (d : WorkerState) (w : View) (u : Option Told) : Type 0 where
  pub taken : Room
  pub room : Room
  pub reply : Option Reply
  pub locked : Locked v t (room_of (sizes_of c.settings) command) taken w u
  pub begun : HasBegun c.epoch command reply taken room
  pub worker : d ≡ did (at_gate c) (begun_hand reply room)

pub record WaitsFor (room : ℕ) (behind : WorkerState) (v : View) (t : Option Told) (held : Held) (d : WorkerState) (w : View) (u : Option Told) : Type 0 where
  pub waits : LockIsHeld v t room held w u
  pub worker : d ≡ behind

-- no memory was had for it: the power is turned off
pub record Starves (command : Command) (c : WorkerState) (v : View) (t : Option Told) (d : WorkerState) (w : View) (u : Option Told) : Type 0 where
  pub taken : Room
  pub room : Room
  pub between : View
  pub told : Option Told
  pub locked : Locked v t (room_of (sizes_of c.settings) command) taken between told
  pub off : TurnedOff between told w u
  pub worker : d ≡ with_hand (at_gate c) (Refused room)

abbrev pub BeginsBy : Result Turn AllocError → Command → WorkerState → View → Option Told → WorkerState → View → Option Told → Type 0
BeginsBy (Ok Did) command c v t d w u = Begins command c v t d w u
BeginsBy (Ok (Rested rest)) command c v t d w u = ⊥
BeginsBy (Ok (Waited held)) command c v t d w u = WaitsFor (room_of (sizes_of c.settings) command) (at_gate c) v t held d w u
BeginsBy (Ok Over) command c v t d w u = ⊥
BeginsBy (Err error) command c v t d w u = Starves command c v t d w u

pub record LocksForCommand (c : WorkerState) (v : View) (t : Option Told) (r : Result Turn AllocError) (d : WorkerState) (w : View) (u : Option Told) : Type 0 where
  pub command : Command
  pub next : slice_get c.commands c.position ≡ Some command
  pub begins : BeginsBy r command c v t d w u

-- ROW 7. Its own room is not yet written in this epoch: it is locked, and the write of the position begins.

-- the end that is told with a place: the script is used, a take found the queue empty, or there is more to do
abbrev pub end_at : WorkerState → ThreadEnd
end_at c = if nat_le (length c.commands) c.position then Ended else if c.found_empty then Waits else Ready

pub record BeginsOwn (c : WorkerState) (v : View) (t : Option Told) (d : WorkerState) (w : View) (u : Option Told) : Type 0 where
  pub taken : Room
  pub locked : Locked v t (thread_room (sizes_of c.settings) c.thread) taken w u
  pub worker : d ≡ did (record c { end = end_at c }) (Own (point_planned c.epoch c.position (end_at c) taken))

abbrev pub LocksOwn : WorkerState → View → Option Told → Result Turn AllocError → WorkerState → View → Option Told → Type 0
LocksOwn c v t (Ok Did) d w u = BeginsOwn c v t d w u
LocksOwn c v t (Ok (Rested rest)) d w u = ⊥
LocksOwn c v t (Ok (Waited held)) d w u = WaitsFor (thread_room (sizes_of c.settings) c.thread) c v t held d w u
LocksOwn c v t (Ok Over) d w u = ⊥
LocksOwn c v t (Err error) d w u = ⊥

-- ROW 8. It stands.
pub record Stands (c : WorkerState) (v : View) (t : Option Told) (r : Result Turn AllocError) (d : WorkerState) (w : View) (u : Option Told) : Type 0 where
  pub did_one : r ≡ Ok Did
  pub stood : Stood v t w u
  pub worker : d ≡ did c Empty

-- the first of rows 6 to 8: by whether a command may begin, and whether the own room was written
abbrev pub GoesOnEmpty : Bool → Bool → WorkerState → View → Option Told → Result Turn AllocError → WorkerState → View → Option Told → Type 0
GoesOnEmpty true wrote c v t r d w u = LocksForCommand c v t r d w u
GoesOnEmpty false false c v t r d w u = LocksOwn c v t r d w u
GoesOnEmpty false true c v t r d w u = Stands c v t r d w u

-- ROW 9. It stands at its restart point. Where its end is not Ended it leaves; where that rests, or the end is Ended, it claims the closing;
-- where that rests the turn rests, or it is over where a word that was met shows so.

-- whether an arrival word shows that the life is over
abbrev pub shows_over : ℕ → Bool
shows_over word = (arrival_of word).over

abbrev pub left_behind : WorkerState → ℕ → WorkerState
left_behind c epoch = record c { epoch = epoch; quota = c.settings.every; wrote = false; found_empty = false; hand = Empty; done = c.done + 1 }

-- the closing is claimed; room for the mark was made before
pub record Claims (c : WorkerState) (v : View) (t : Option Told) (d : WorkerState) (w : View) (u : Option Told) : Type 0 where
  pub claimed : Claimed v t w u
  pub spare : 0 < d.spare
  pub worker : d ≡ record c { hand = Closes (new_closer c.settings); spare = d.spare; done = c.done + 1 }

-- the claim rests too
pub record Rests (rest : Rest) (over : Bool) (c : WorkerState) (v : View) (t : Option Told) (d : WorkerState) (w : View) (u : Option Told) : Type 0 where
  pub rests : ClaimRests v t rest w u
  pub shown : shows_over rest.met ≡ over
  pub worker : d ≡ record c { spare = d.spare }

-- no memory was had for the mark: the power is turned off
pub record LacksRoom (c : WorkerState) (v : View) (t : Option Told) (d : WorkerState) (w : View) (u : Option Told) : Type 0 where
  pub off : TurnedOff v t w u
  pub worker : d ≡ record c { spare = d.spare }

abbrev pub ClaimsBy : Result Turn AllocError → WorkerState → View → Option Told → WorkerState → View → Option Told → Type 0
ClaimsBy (Ok Did) c v t d w u = Claims c v t d w u
ClaimsBy (Ok (Rested rest)) c v t d w u = Rests rest false c v t d w u
ClaimsBy (Ok (Waited held)) c v t d w u = ⊥
ClaimsBy (Ok Over) c v t d w u = (rest : Rest) × Rests rest true c v t d w u
ClaimsBy (Err error) c v t d w u = LacksRoom c v t d w u

-- it left
pub record Leaves (c : WorkerState) (v : View) (t : Option Told) (r : Result Turn AllocError) (d : WorkerState) (w : View) (u : Option Told) : Type 0 where
  pub did_one : r ≡ Ok Did
  pub epoch : ℕ
  pub left : HasLeft v t c.end epoch w u
  pub worker : d ≡ left_behind c epoch

-- it may not leave, and the word that was met shows that the life is over
pub record FindsOver (c : WorkerState) (v : View) (t : Option Told) (r : Result Turn AllocError) (d : WorkerState) (w : View) (u : Option Told) : Type 0 where
  pub is_over : r ≡ Ok Over
  pub rest : Rest
  pub rests : LeaveRests v t c.end rest w u
  pub shown : shows_over rest.met ≡ true
  pub worker : d ≡ c

-- it may not leave, and claims
pub record RestsAndClaims (c : WorkerState) (v : View) (t : Option Told) (r : Result Turn AllocError) (d : WorkerState) (w : View) (u : Option Told) : Type 0 where
  pub rest : Rest
  pub between : View
  pub told : Option Told
  pub rests : LeaveRests v t c.end rest between told
  pub shown : shows_over rest.met ≡ false
  pub claims : ClaimsBy r c between told d w u

abbrev pub GoesOnStanding : ThreadEnd → WorkerState → View → Option Told → Result Turn AllocError → WorkerState → View → Option Told → Type 0
GoesOnStanding Ended c v t r d w u = ClaimsBy r c v t d w u
GoesOnStanding Ready c v t r d w u = Leaves c v t r d w u ⊎ (FindsOver c v t r d w u ⊎ RestsAndClaims c v t r d w u)
GoesOnStanding Waits c v t r d w u = Leaves c v t r d w u ⊎ (FindsOver c v t r d w u ⊎ RestsAndClaims c v t r d w u)

-- THE FIRST ROW THAT APPLIES.

-- with nothing in hand, by the phase; a thread that closes has its closer in hand
abbrev pub WithNothing : Phase → WorkerState → View → Option Told → Result Turn AllocError → WorkerState → View → Option Told → Type 0
WithNothing Standing c v t r d w u = GoesOnStanding c.end c v t r d w u
WithNothing Running c v t r d w u = GoesOnEmpty (may_command c) c.wrote c v t r d w u
WithNothing Closing c v t r d w u = ⊥

abbrev pub WithHand : Hand → WorkerState → View → Option Told → Result Turn AllocError → WorkerState → View → Option Told → Type 0
WithHand Empty c v t r d w u = WithNothing v.phase c v t r d w u
WithHand (Commands reply x) c v t r d w u = GoesOnCommand (nat_lt 0 (stores_left x)) reply x c v t r d w u
WithHand (Drawn x) c v t r d w u = Unlocks x (one_carried_out c) v t r d w u
WithHand (NoItem x) c v t r d w u = Unlocks x (with_none_found c) v t r d w u
WithHand (Own x) c v t r d w u = GoesOnOwn (nat_lt 0 (stores_left x)) x c v t r d w u
WithHand (Closes closer) c v t r d w u = ClosesOn closer c v t r d w u
WithHand (Refused x) c v t r d w u = ⊥

-- by whether the power was seen off
abbrev pub TakesTurn : Bool → WorkerState → View → Option Told → Result Turn AllocError → WorkerState → View → Option Told → Type 0
TakesTurn true c v t r d w u = GivesUp c v t r d w u
TakesTurn false c v t r d w u = WithHand c.hand c v t r d w u

abbrev pub DoesTurn : WorkerState → View → Option Told → Result Turn AllocError → WorkerState → View → Option Told → Type 0
DoesTurn c v t r d w u = TakesTurn v.saw_off c v t r d w u
