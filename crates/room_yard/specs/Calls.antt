-- What a call asks of its caller, where that is not the whole condition of its step: what can be known before the words are found, and
-- before the number of entries is noted.
use Rattle.std.specs.Prelude.{◌≡◌, ◌≢◌, ℕ, ◌^◌, ◌<◌, ◌≤◌, ◌⊎◌, not, Bool, true, false, Option, Some, None}
use Rattle.std.specs.List.{list_any}
use Rattle.seq_object.specs.declared.history.Entry.{Entry}
use Rattle.restart_point.specs.declared.thread_end.ThreadEnd.{ThreadEnd}
use Rattle.restart_point.specs.declared.thread_end.ThreadEnd.TheVariants.{Ended}
use Rattle.restart_point.specs.ArrivalWord.{arrival_of, AllStand}
use Rattle.block_allow.specs.Verdicts.{leaves}
use Rattle.rooms.specs.declared.room.Room.{Room}
use Rattle.yard_model.specs.declared.view.Phase.TheVariants.{Standing}
use Rattle.yard_model.specs.declared.view.View.{View}
use Rattle.yard_model.specs.declared.view.Grip.{Grip}
use Rattle.yard_model.specs.Knows.{next_of}
use Rattle.yard_model.specs.Conditions.{MayUnlock, MayRetreat, MayDraw, MayStand, MayNote}

-- the number of the room that is held
abbrev pub room_held : Option Grip → Option ℕ
room_held None = None
room_held (Some g) = Some g.room

-- LEAVE. The thread stands, is not at its script's end, and has a next command.
pub record MayTryLeave (v : View) (end : ThreadEnd) : Type 0 where
  pub on : v.saw_off ≡ false
  pub phase : v.phase ≡ Standing
  pub not_ended : end ≢ Ended
  pub next : next_of v ≢ None

-- a word allows it to a thread of this end that last ran in this epoch
pub record AllowsLeave (end : ThreadEnd) (ran word : ℕ) : Type 0 where
  pub not_closing : (arrival_of word).closing ≡ false
  pub not_over : (arrival_of word).over ≡ false
  pub later : ran < (arrival_of word).epoch
  pub allowed : leaves end (arrival_of word).fed ≡ true

-- the word found forbids it: it shows closing or over, or no later epoch than the thread ran in, or a thread of this end may not leave
abbrev pub ForbidsLeave : View → ThreadEnd → ℕ → Type 0
ForbidsLeave v end word = ((arrival_of word).closing ≡ true)
    ⊎ (((arrival_of word).over ≡ true) ⊎ (((arrival_of word).epoch ≤ v.ran) ⊎ (leaves end (arrival_of word).fed ≡ false)))

-- CLAIM. The thread stands, and may release one more checkpoint.
pub record MayTryClaim (v : View) : Type 0 where
  pub on : v.saw_off ≡ false
  pub phase : v.phase ≡ Standing
  pub few_checkpoints : v.checkpoints < 2 ^ 19

-- a word allows it to one of so many threads that last ran in this epoch
pub record AllowsClaim (threads ran word : ℕ) : Type 0 where
  pub all_stand : AllStand (arrival_of word).mask threads
  pub not_closing : (arrival_of word).closing ≡ false
  pub not_over : (arrival_of word).over ≡ false
  pub epoch : (arrival_of word).epoch ≡ ran

-- the word found forbids it: some thread does not stand, or it shows closing or over, or another epoch than the thread last ran in
abbrev pub ForbidsClaim : View → ℕ → Type 0
ForbidsClaim v word = (AllStand (arrival_of word).mask v.beginning.settings.threads → ⊥)
    ⊎ (((arrival_of word).closing ≡ true) ⊎ (((arrival_of word).over ≡ true) ⊎ ((arrival_of word).epoch ≢ v.ran)))

-- STAND. Where no room is held, the step may be made. Where one is held nothing else is asked.
pub record MayTryStand (v : View) : Type 0 where
  pub on : v.saw_off ≡ false
  pub free : v.grip ≡ None → MayStand v

-- UNLOCK and RETREAT. The room of this number is held, and this one may go home as it.
abbrev pub MayReturn : View → ℕ → Room → Type 0
MayReturn v r x = (g : Grip) × (g.room ≡ r) × MayUnlock v g x

abbrev pub MayGiveUp : View → ℕ → Room → Type 0
MayGiveUp v r x = (g : Grip) × (g.room ≡ r) × MayRetreat v g x

-- DRAW. A room is held under which the entry may be drawn.
abbrev pub MayDrawEntry : View → Entry → Type 0
MayDrawEntry v e = (g : Grip) × MayDraw v g e

-- RELEASE. All rooms are done, and the two bits are those of what was learnt.
pub record MayEndEpoch (v : View) (over fed : Bool) : Type 0 where
  pub note : MayNote v
  pub learnt_fed : v.closed.fed ≡ Some fed
  pub is_over : over ≡ not (list_any (λ end. leaves end fed) v.closed.ends)
