-- What comes of a command that was to begin: in its room, under its room's lock, and in the worker's hand.
use Rattle.std.specs.Prelude.{◌≡◌, ℕ, ◌≤◌, Option, Result, Ok, Err}
use Rattle.std.specs.declared.alloc.AllocError.{AllocError}
use Rattle.seq_object.specs.declared.command.Command.{Command}
use Rattle.seq_object.specs.declared.command.Reply.{Reply}
use Rattle.seq_object.specs.Sizes.{sizes_of}
use Rattle.seq_object.specs.Object.{room_of, reply_to}
use Rattle.rooms.specs.declared.room.Room.{Room}
use Rattle.yard_model.specs.declared.view.View.{View}
use Rattle.yard_model.specs.Knows.{sizes_known}
use Rattle.yard_model.specs.Views.{grip_on, gripped}
use Rattle.yard_model.specs.Conditions.{MayLock}
use Rattle.room_yard.specs.Told.{Told}
use Rattle.room_yard.specs.Answers.{Locked, LockIsHeld, TurnedOff}
use Rattle.room_in_hand.specs.Known.{Knowledge, knows}
use Rattle.room_in_hand.specs.InHand.{resting, IsInHand}
use Rattle.room_in_hand.specs.Working.{HasBegun, begun_command_use}
use Rattle.worker_model.specs.declared.hand.Hand.TheVariants.{Refused}
use Rattle.worker_model.specs.declared.hand.Turn.{Turn}
use Rattle.worker_model.specs.declared.hand.Turn.TheVariants.{Did, Waited}
use Rattle.worker_model.specs.Workers.{WorkerState}
use Rattle.worker_model.specs.Turns.{with_hand, did, begun_hand}
use Rattle.worker.specs.declared.commands.Begun.{Begun}
use Rattle.worker.specs.declared.commands.Begun.TheVariants.{Goes, Waits, Starves}

-- IN ITS ROOM. The room answered: whatever is known of it, it has the object's reply, and is in hand for that.
pub record Answers (epoch : ℕ) (command : Command) (reply : Option Reply) (x y : Room) : Type 0 where
  pub begun : HasBegun epoch command reply x y
  pub reply_is : (k : Knowledge) → room_of (sizes_of k.settings) command ≡ k.room → IsInHand resting k x → reply ≡ reply_to (sizes_of k.settings) k.now command
  pub kept : (k : Knowledge) → k.epoch ≡ epoch → room_of (sizes_of k.settings) command ≡ k.room → IsInHand resting k x → IsInHand (begun_command_use command reply) k y

-- it rests as it did, whatever is known of it
abbrev pub StillRests : ℕ → Room → Room → Type 0
StillRests epoch x y = (k : Knowledge) → k.epoch ≡ epoch → IsInHand resting k x → IsInHand resting k y

-- without memory the power is turned off, and the room rests
pub record Lacks (epoch : ℕ) (x y : Room) (v : View) (t : Option Told) (w : View) (u : Option Told) : Type 0 where
  pub rests : StillRests epoch x y
  pub off : TurnedOff v t w u

abbrev pub BeginsIn : Begun → ℕ → Command → Room → View → Option Told → View → Option Told → Type 0
BeginsIn (Goes reply y) epoch command x v t w u = Answers epoch command reply x y × (w ≡ v) × (u ≡ t)
BeginsIn (Waits held) epoch command x v t w u = ⊥
BeginsIn (Starves y error) epoch command x v t w u = Lacks epoch x y v t w u

-- UNDER ITS LOCK.

-- a thread that runs in this epoch may lock the room of this command
pub record MayBeginAt (number epoch : ℕ) (command : Command) (v : View) : Type 0 where
  pub may : MayLock v number
  pub epoch_is : v.ran ≡ epoch
  pub here : room_of (sizes_known v) command ≡ number
  pub commands : number ≤ (sizes_known v).shards

-- the room was locked, and rested in hand
pub record Taken (number : ℕ) (x : Room) (v : View) (t : Option Told) (w : View) (u : Option Told) : Type 0 where
  pub locked : Locked v t number x w u
  pub rests : IsInHand resting (knows (gripped v number x locked.covered) (grip_on v number x locked.covered)) x

-- and then it answered
pub record TakenAnswers (number epoch : ℕ) (command : Command) (reply : Option Reply) (y : Room) (v : View) (t : Option Told) (w : View) (u : Option Told) : Type 0 where
  pub room : Room
  pub taken : Taken number room v t w u
  pub answers : Answers epoch command reply room y

-- or there was no memory
pub record TakenLacks (number epoch : ℕ) (y : Room) (v : View) (t : Option Told) (w : View) (u : Option Told) : Type 0 where
  pub room : Room
  pub between : View
  pub told : Option Told
  pub taken : Taken number room v t between told
  pub lacks : Lacks epoch room y between told w u

abbrev pub BeginsAt : Begun → ℕ → ℕ → Command → View → Option Told → View → Option Told → Type 0
BeginsAt (Goes reply y) number epoch command v t w u = TakenAnswers number epoch command reply y v t w u
BeginsAt (Waits held) number epoch command v t w u = LockIsHeld v t number held w u
BeginsAt (Starves y error) number epoch command v t w u = TakenLacks number epoch y v t w u

-- IN HAND. What the worker is then, and what its turn answers.
abbrev pub Takes : Begun → WorkerState → Result Turn AllocError → WorkerState → Type 0
Takes (Goes reply y) c r d = (r ≡ Ok Did) × (d ≡ did c (begun_hand reply y))
Takes (Waits held) c r d = (r ≡ Ok (Waited held)) × (d ≡ c)
Takes (Starves y error) c r d = (r ≡ Err error) × (d ≡ with_hand c (Refused y))
