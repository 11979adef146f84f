-- The laws of answers: that in a state that is told each call has an answer, behind which what is told is lawful; the words found are those
-- of that state, in which no other thread acts meanwhile. And what answers say of words and looks.
use Rattle.std.specs.Prelude.{◌≡◌, ◌≢◌, ℕ, ◌+◌, ◌^◌, ◌<◌, ◌≤◌, ◌⊎◌, nat_lt, nat_le, not, slice_set, Bool, false, Option, Some, None}
use Rattle.seq_object.specs.declared.history.Entry.{Entry}
use Rattle.restart_point.specs.declared.thread_end.ThreadEnd.{ThreadEnd}
use Rattle.restart_point.specs.ArrivalWord.{arrival_of}
use Rattle.rooms.specs.declared.room.Room.{Room}
use Rattle.yard_model.specs.declared.view.View.{View}
use Rattle.yard_model.specs.declared.view.Grip.{Grip}
use Rattle.yard_model.specs.World.{tick_word, clock, arrival, lock_of, Shows}
use Rattle.yard_model.specs.Conditions.{MayLock, MayLeave, MayClaim, MayTick}
use Rattle.room_yard.specs.declared.answers.Rest.{Rest}
use Rattle.room_yard.specs.declared.answers.Held.{Held}
use Rattle.room_yard.specs.declared.answers.HoldsLock.{HoldsLock}
use Rattle.life_model.specs.declared.life.Mark.{Mark}
use Rattle.room_yard.specs.Told.{Told, IsTold, BothTell}
use Rattle.room_yard.specs.Calls.{MayTryLeave, ForbidsLeave, MayTryClaim, ForbidsClaim, MayTryStand, MayReturn, MayGiveUp, MayDrawEntry, MayEndEpoch}
use Rattle.room_yard.specs.Answers.{HasLooked, next_word, HasLeft, LeaveRests, Locked, LockIsHeld, Unlocked, Retreated, Drew, Stood, StandIsRefused, Claimed, ClaimRests, EndedEpoch, SawPower, Ticked, TurnedOff}

-- where the state is told, its views behind a call are those before it, with the thread's own as it is now
abbrev pub SetsOwnView : View → Option Told → View → Option Told → Type 0
SetsOwnView v t w u = BothTell t u (λ (a b : Told). b.world.views ≡ slice_set a.world.views v.thread w)

-- so it is behind each answer
pub record AnswersSetOwnViewLaw : Type 0 where
  pub left : (v w : View) (t u : Option Told) (end : ThreadEnd) (epoch : ℕ) → HasLeft v t end epoch w u → SetsOwnView v t w u
  pub leave_rests : (v w : View) (t u : Option Told) (end : ThreadEnd) (rest : Rest) → LeaveRests v t end rest w u → SetsOwnView v t w u
  pub locked : (v w : View) (t u : Option Told) (r : ℕ) (x : Room) → Locked v t r x w u → SetsOwnView v t w u
  pub held : (v w : View) (t u : Option Told) (r : ℕ) (held : Held) → LockIsHeld v t r held w u → SetsOwnView v t w u
  pub unlocked : (v w : View) (t u : Option Told) (r : ℕ) (x : Room) → Unlocked v t r x w u → SetsOwnView v t w u
  pub retreated : (v w : View) (t u : Option Told) (r : ℕ) (x : Room) → Retreated v t r x w u → SetsOwnView v t w u
  pub drew : (v w : View) (t u : Option Told) (e : Entry) (place : ℕ) → Drew v t e place w u → SetsOwnView v t w u
  pub stood : (v w : View) (t u : Option Told) → Stood v t w u → SetsOwnView v t w u
  pub refused : (v w : View) (t u : Option Told) (held : HoldsLock) → IsTold t v → StandIsRefused v t held w u → SetsOwnView v t w u
  pub claimed : (v w : View) (t u : Option Told) → Claimed v t w u → SetsOwnView v t w u
  pub claim_rests : (v w : View) (t u : Option Told) (rest : Rest) → ClaimRests v t rest w u → SetsOwnView v t w u
  pub ended : (v w : View) (t u : Option Told) (over fed : Bool) (m : Mark) → EndedEpoch v t over fed m w u → SetsOwnView v t w u
  pub saw_power : (v w : View) (t u : Option Told) (on : Bool) → SawPower v t on w u → SetsOwnView v t w u
  pub ticked : (v w : View) (t u : Option Told) → Ticked v t w u → SetsOwnView v t w u
  pub turned_off : (v w : View) (t u : Option Told) → TurnedOff v t w u → SetsOwnView v t w u

-- there is such a view and such a state, which may be told
abbrev pub CanTell : (View → Told → Type 0) → Type 0
CanTell answer = (w : View) × (b : Told) × IsTold (Some b) w × answer w b

-- a word that is found allows to leave, or to claim, or forbids it
abbrev pub LeaveIsDecidedLaw : Type 0
LeaveIsDecidedLaw = (v : View) (end : ThreadEnd) (word : ℕ) → MayTryLeave v end → MayLeave v end word ⊎ ForbidsLeave v end word

abbrev pub ClaimIsDecidedLaw : Type 0
ClaimIsDecidedLaw = (v : View) (word : ℕ) → MayTryClaim v → MayClaim v word ⊎ ForbidsClaim v word

-- the word with which an epoch begins shows that each thread stands, that none closes, the two bits, and the epoch
abbrev pub NextWordShowsLaw : Type 0
NextWordShowsLaw = (threads : ℕ) (over fed : Bool) (epoch : ℕ) → threads ≤ 16 → epoch < 2 ^ 32
    → Shows (next_word threads over fed epoch) (λ (i : ℕ). nat_lt i threads) false over fed epoch

-- who rests, or finds a lock taken, looked: the last look is the arrival word with what was met, or the lock with what was found
abbrev pub LeaveRestLooksLaw : Type 0
LeaveRestLooksLaw = (v w : View) (t u : Option Told) (end : ThreadEnd) (rest : Rest) → LeaveRests v t end rest w u → HasLooked v w 2 rest.met

abbrev pub ClaimRestLooksLaw : Type 0
ClaimRestLooksLaw = (v w : View) (t u : Option Told) (rest : Rest) → ClaimRests v t rest w u → HasLooked v w 2 rest.met

abbrev pub HeldLooksLaw : Type 0
HeldLooksLaw = (v w : View) (t u : Option Told) (r : ℕ) (held : Held) → LockIsHeld v t r held w u → HasLooked v w (3 + r) held.by

abbrev pub LeaveAnswersLaw : Type 0
LeaveAnswersLaw = (a : Told) (v : View) (end : ThreadEnd) → IsTold (Some a) v → MayLeave v end (arrival a.world)
    → CanTell (λ (w : View) (b : Told). HasLeft v (Some a) end (arrival_of (arrival a.world)).epoch w (Some b))

abbrev pub LeaveRestAnswersLaw : Type 0
LeaveRestAnswersLaw = (a : Told) (v : View) (end : ThreadEnd) → IsTold (Some a) v → ForbidsLeave v end (arrival a.world)
    → CanTell (λ (w : View) (b : Told). LeaveRests v (Some a) end (record { found = arrival a.world; met = arrival a.world }) w (Some b))

abbrev pub ClaimAnswersLaw : Type 0
ClaimAnswersLaw = (a : Told) (v : View) → IsTold (Some a) v → MayClaim v (arrival a.world)
    → CanTell (λ (w : View) (b : Told). Claimed v (Some a) w (Some b))

abbrev pub ClaimRestAnswersLaw : Type 0
ClaimRestAnswersLaw = (a : Told) (v : View) → IsTold (Some a) v → ForbidsClaim v (arrival a.world)
    → CanTell (λ (w : View) (b : Told). ClaimRests v (Some a) (record { found = arrival a.world; met = arrival a.world }) w (Some b))

abbrev pub LockAnswersLaw : Type 0
LockAnswersLaw = (a : Told) (v : View) (r : ℕ) → IsTold (Some a) v → MayLock v r → lock_of a.world r ≡ 0
    → (x : Room) × CanTell (λ (w : View) (b : Told). Locked v (Some a) r x w (Some b))

abbrev pub HeldAnswersLaw : Type 0
HeldAnswersLaw = (a : Told) (v : View) (r : ℕ) → IsTold (Some a) v → MayLock v r → lock_of a.world r ≢ 0
    → CanTell (λ (w : View) (b : Told). LockIsHeld v (Some a) r (record { by = lock_of a.world r }) w (Some b))

abbrev pub UnlockAnswersLaw : Type 0
UnlockAnswersLaw = (a : Told) (v : View) (r : ℕ) (x : Room) → IsTold (Some a) v → MayReturn v r x
    → CanTell (λ (w : View) (b : Told). Unlocked v (Some a) r x w (Some b))

abbrev pub RetreatAnswersLaw : Type 0
RetreatAnswersLaw = (a : Told) (v : View) (r : ℕ) (x : Room) → IsTold (Some a) v → MayGiveUp v r x
    → CanTell (λ (w : View) (b : Told). Retreated v (Some a) r x w (Some b))

abbrev pub DrawAnswersLaw : Type 0
DrawAnswersLaw = (a : Told) (v : View) (e : Entry) → IsTold (Some a) v → MayDrawEntry v e
    → CanTell (λ (w : View) (b : Told). Drew v (Some a) e (clock a.world) w (Some b))

abbrev pub StandAnswersLaw : Type 0
StandAnswersLaw = (a : Told) (v : View) → IsTold (Some a) v → MayTryStand v → v.grip ≡ None
    → CanTell (λ (w : View) (b : Told). Stood v (Some a) w (Some b))

abbrev pub RefusalAnswersLaw : Type 0
RefusalAnswersLaw = (a : Told) (v : View) (g : Grip) → IsTold (Some a) v → v.grip ≡ Some g
    → CanTell (λ (w : View) (b : Told). StandIsRefused v (Some a) (record { room = g.room }) w (Some b))

abbrev pub ReleaseAnswersLaw : Type 0
ReleaseAnswersLaw = (a : Told) (v : View) (over fed : Bool) → IsTold (Some a) v → MayEndEpoch v over fed
    → CanTell (λ (w : View) (b : Told). EndedEpoch v (Some a) over fed (record { epoch = v.ran + 1; length = clock a.world }) w (Some b))

abbrev pub PowerAnswersLaw : Type 0
PowerAnswersLaw = (a : Told) (v : View) → IsTold (Some a) v
    → CanTell (λ (w : View) (b : Told). SawPower v (Some a) (not (nat_le v.beginning.limit (tick_word a.world))) w (Some b))

abbrev pub TickAnswersLaw : Type 0
TickAnswersLaw = (a : Told) (v : View) → IsTold (Some a) v → MayTick v → CanTell (λ (w : View) (b : Told). Ticked v (Some a) w (Some b))

abbrev pub OffAnswersLaw : Type 0
OffAnswersLaw = (a : Told) (v : View) → IsTold (Some a) v → CanTell (λ (w : View) (b : Told). TurnedOff v (Some a) w (Some b))
