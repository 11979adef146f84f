-- What each answer of each call tells: of the thread's view v before the call and w behind it, and of the yard's state t before it and u
-- behind it, where the handle tells that. What is said of the state holds nothing where it is not told.
-- Word 2 is the arrival word, and word 3 + r the lock of room r.
use Rattle.std.specs.Prelude.{◌≡◌, ◌≢◌, ℕ, ◌+◌, ◌-◌, ◌^◌, ◌<◌, ◌≤◌, ◌⊎◌, nat_le, not, Bool, true, false, Option, Some}
use Rattle.seq_object.specs.declared.history.Entry.{Entry}
use Rattle.life_model.specs.declared.life.Mark.{Mark}
use Rattle.restart_point.specs.declared.thread_end.ThreadEnd.{ThreadEnd}
use Rattle.restart_point.specs.ArrivalWord.{arrival_of, word_of}
use Rattle.rooms.specs.declared.room.Room.{Room}
use Rattle.yard_model.specs.declared.view.Phase.TheVariants.{Closing}
use Rattle.yard_model.specs.declared.view.View.{View}
use Rattle.yard_model.specs.declared.view.Grip.{Grip}
use Rattle.yard_model.specs.Beginnings.{first_epoch}
use Rattle.yard_model.specs.World.{Home, tick_word, clock, arrival, lock_of}
use Rattle.yard_model.specs.Views.{gripped, freed, retreated, left_in, stood, drew, claimed, released, looked, saw_power, ticked, turned_off}
use Rattle.yard_model.specs.Conditions.{IsGiven, MayLeave, MayStand, MayClaim}
use Rattle.yard_model.specs.Steps.{with_view, covered_in, at_lock, at_unlock, at_retreat, at_leave, at_stand, at_claim, at_release, at_draw, at_tick, at_off, checkpoint_at}
use Rattle.room_yard.specs.declared.answers.Rest.{Rest}
use Rattle.room_yard.specs.declared.answers.Held.{Held}
use Rattle.room_yard.specs.declared.answers.HoldsLock.{HoldsLock}
use Rattle.room_yard.specs.Told.{Told, BothTell, in_world, with_entry, with_checkpoint}
use Rattle.room_yard.specs.Calls.{ForbidsLeave, ForbidsClaim}
use Rattle.line_memory.specs.Line.{counted}

-- LOOKS. The count of looks rose, or stands at its type's end, and the last look found this in this word.
pub record HasLooked (v w : View) (word found : ℕ) : Type 0 where
  pub rose : counted v.looks ≤ w.looks
  pub last : (w.look.word ≡ word) × (w.look.found ≡ found)

-- a rest: a load found an arrival word that forbids the step
pub record FoundForbidden (v : View) (rest : Rest) (forbids : Type 0) (w : View) : Type 0 where
  pub forbidden : forbids
  pub same : rest.met ≡ rest.found
  pub view : w ≡ looked v 2 rest.found

-- or the word found allows it, and the exchange then met another one
pub record MetAnother (v : View) (rest : Rest) (allows : Type 0) (w : View) : Type 0 where
  pub allowed : allows
  pub other : rest.met ≢ rest.found
  pub view : w ≡ looked (looked v 2 rest.found) 2 rest.met

-- the word was the arrival word at both looks, and the view alone is changed
abbrev pub FindsArrival : ℕ → Rest → View → Told → Told → Type 0
FindsArrival thread rest w a b = (rest.found ≡ arrival a.world) × (rest.met ≡ arrival a.world) × (b ≡ in_world a (with_view a.world thread w))

-- LEAVE, done: a load found a word that allows it, and the thread runs in the epoch which that shows.
pub record HasLeft (v : View) (t : Option Told) (end : ThreadEnd) (epoch : ℕ) (w : View) (u : Option Told) : Type 0 where
  pub found : ℕ
  pub allowed : MayLeave v end found
  pub shown : epoch ≡ (arrival_of found).epoch
  -- it is an epoch of this life
  pub within : first_epoch v.beginning ≤ epoch
  pub view : w ≡ left_in (looked v 2 found) epoch
  pub world : BothTell t u (λ (a b : Told). (found ≡ arrival a.world) × (b ≡ in_world a (at_leave a.world v.thread w)))

-- LEAVE, at rest.
pub record LeaveRests (v : View) (t : Option Told) (end : ThreadEnd) (rest : Rest) (w : View) (u : Option Told) : Type 0 where
  pub cause : FoundForbidden v rest (ForbidsLeave v end rest.found) w ⊎ MetAnother v rest (MayLeave v end rest.found) w
  pub world : BothTell t u (λ (a b : Told). FindsArrival v.thread rest w a b)

-- LOCK, done: the lock was 0, the room was at home, and the thread holds it.
pub record Locked (v : View) (t : Option Told) (r : ℕ) (x : Room) (w : View) (u : Option Told) : Type 0 where
  -- how many entries of the room the last mark covers
  pub covered : ℕ
  pub given : IsGiven v r x covered
  -- the next epoch has 32 bits too
  pub early : v.ran + 1 < 2 ^ 32
  pub view : w ≡ gripped v r x covered
  pub world : BothTell t u (λ (a b : Told). (lock_of a.world r ≡ 0) × Home a.world r x
      × (covered ≡ covered_in v.beginning a.history a.checkpoints r) × (b ≡ in_world a (at_lock a.world v.thread r w)))

-- LOCK, held: the lock was found at another number than 0. A thread that closes never finds it so.
pub record LockIsHeld (v : View) (t : Option Told) (r : ℕ) (held : Held) (w : View) (u : Option Told) : Type 0 where
  pub taken : held.by ≢ 0
  pub not_closing : v.phase ≢ Closing
  pub view : w ≡ looked v (3 + r) held.by
  pub world : BothTell t u (λ (a b : Told). (held.by ≡ lock_of a.world r) × (b ≡ in_world a (with_view a.world v.thread w)))

-- UNLOCK. The room is at home, and free.
pub record Unlocked (v : View) (t : Option Told) (r : ℕ) (x : Room) (w : View) (u : Option Told) : Type 0 where
  pub view : (g : Grip) → v.grip ≡ Some g → w ≡ freed v g x
  pub world : BothTell t u (λ (a b : Told). b ≡ in_world a (at_unlock a.world v.thread r x w))

-- RETREAT. The room is at home as it is, and dead.
pub record Retreated (v : View) (t : Option Told) (r : ℕ) (x : Room) (w : View) (u : Option Told) : Type 0 where
  pub view : (g : Grip) → v.grip ≡ Some g → w ≡ retreated v g
  pub world : BothTell t u (λ (a b : Told). b ≡ in_world a (at_retreat a.world v.thread r x w))

-- DRAW. The entry joins the history at this place, which is the number of entries before it.
pub record Drew (v : View) (t : Option Told) (e : Entry) (place : ℕ) (w : View) (u : Option Told) : Type 0 where
  pub view : (g : Grip) → v.grip ≡ Some g → w ≡ drew v g place e
  pub world : BothTell t u (λ (a b : Told). (place ≡ clock a.world) × (b ≡ with_entry a (at_draw a.world v.thread w) e))

-- STAND, done.
pub record Stood (v : View) (t : Option Told) (w : View) (u : Option Told) : Type 0 where
  pub allowed : MayStand v
  pub view : w ≡ stood v
  pub world : BothTell t u (λ (a b : Told). b ≡ in_world a (at_stand a.world v.thread w))

-- STAND, refused: this room is held, and nothing changed.
pub record StandIsRefused (v : View) (t : Option Told) (held : HoldsLock) (w : View) (u : Option Told) : Type 0 where
  pub holds : (g : Grip) × (v.grip ≡ Some g) × (held.room ≡ g.room)
  pub view : w ≡ v
  pub world : BothTell t u (λ (a b : Told). b ≡ a)

-- CLAIM, done: a load found a word that allows it, and the thread closes.
pub record Claimed (v : View) (t : Option Told) (w : View) (u : Option Told) : Type 0 where
  pub found : ℕ
  pub allowed : MayClaim v found
  -- the thread ran in the epoch, which is one of this life, and released no checkpoint since
  pub ran : 0 < v.ran
  pub within : first_epoch v.beginning ≤ v.ran
  pub once : v.last_checkpoint ≤ v.ran
  pub view : w ≡ claimed (looked v 2 found)
  pub world : BothTell t u (λ (a b : Told). (found ≡ arrival a.world) × (b ≡ in_world a (at_claim a.world v.thread w)))

-- CLAIM, at rest.
pub record ClaimRests (v : View) (t : Option Told) (rest : Rest) (w : View) (u : Option Told) : Type 0 where
  pub cause : FoundForbidden v rest (ForbidsClaim v rest.found) w ⊎ MetAnother v rest (MayClaim v rest.found) w
  pub world : BothTell t u (λ (a b : Told). FindsArrival v.thread rest w a b)

-- the arrival word with which an epoch begins: each thread stands, and none closes
abbrev pub next_word : ℕ → Bool → Bool → ℕ → ℕ
next_word threads over fed epoch = word_of (record { mask = 2 ^ threads - 1; closing = false; over = over; fed = fed; epoch = epoch })

-- RELEASE. The mark has the next epoch and the number of entries drawn, and the arrival word is that of this epoch with the two bits.
pub record EndedEpoch (v : View) (t : Option Told) (over fed : Bool) (m : Mark) (w : View) (u : Option Told) : Type 0 where
  pub epoch : m.epoch ≡ v.ran + 1
  pub view : w ≡ released v
  pub world : BothTell t u (λ (a b : Told). (m.length ≡ clock a.world)
      × (b ≡ with_checkpoint a (at_release a.world (next_word v.beginning.settings.threads over fed m.epoch) v.thread w) (checkpoint_at m.length over)))

-- POWER. The tick word was found at this number: the power is on where that is below the limit. Once it was seen off it stays off, and
-- where it is on this thread's ticks are below the limit.
pub record SawPower (v : View) (t : Option Told) (on : Bool) (w : View) (u : Option Told) : Type 0 where
  pub found : ℕ
  pub is : on ≡ not (nat_le v.beginning.limit found)
  pub view : w ≡ saw_power v found
  pub stays_off : v.saw_off ≡ true → on ≡ false
  pub few_ticks : on ≡ true → v.ticks < v.beginning.limit
  pub world : BothTell t u (λ (a b : Told). (found ≡ tick_word a.world) × (b ≡ in_world a (with_view a.world v.thread w)))

-- TICK. The tick word and the thread's ticks are one more.
pub record Ticked (v : View) (t : Option Told) (w : View) (u : Option Told) : Type 0 where
  pub view : w ≡ ticked v
  pub world : BothTell t u (λ (a b : Told). b ≡ in_world a (at_tick a.world v.thread w))

-- OFF. The power is off from now on.
pub record TurnedOff (v : View) (t : Option Told) (w : View) (u : Option Told) : Type 0 where
  pub view : w ≡ turned_off v
  pub world : BothTell t u (λ (a b : Told). b ≡ in_world a (at_off a.world v.thread w))
