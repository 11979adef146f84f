-- What each step on the table tells: of the step, the seat before it, the word that it found, and the seat behind it.
-- Word 0 is the tick word, word 1 the clock, word 2 the arrival word, and word 3 + r the lock of room r, which lies in slot r.
use Rattle.std.specs.Prelude.{◌≡◌, ◌≢◌, ℕ, ◌+◌, ◌^◌, ◌<◌, ◌≤◌, nat_le, not, List, [], ◌∷◌, ◌++◌, Option, Some, None}
use Rattle.atomic_table.specs.Table.{Step, Me}
use Rattle.seq_object.specs.declared.history.Entry.{Entry}
use Rattle.seq_object.specs.declared.command.Command.TheVariants.{Deq}
use Rattle.seq_object.specs.declared.command.Reply.TheVariants.{Empty}
use Rattle.restart_point.specs.ArrivalWord.{arrival_of, is_set}
use Rattle.rooms.specs.declared.room.Room.{Room}
use Rattle.yard_model.specs.declared.view.View.{View}
use Rattle.yard_model.specs.Beginnings.{first_epoch}
use Rattle.yard_model.specs.Steps.{checkpoint_at}
use Rattle.yard_model.specs.Shares.{own_mark}
use Rattle.yard_model.specs.Views.{left_in, claimed, entries_noted, released, looked, ticked, turned_off}
use Rattle.room_yard.specs.Answers.{Locked, LockIsHeld, Unlocked, Retreated, Drew, Stood, SawPower}
use Rattle.shared_yard.specs.declared.known.Known.{Known}
use Rattle.shared_yard.specs.Rule.{one_known, one_view, with_view_of}

-- what is known at a seat, and the slots that it has
abbrev pub SeatState : Type 0
SeatState = Me (Option Room) (List Known)

abbrev pub StepMade : Type 0
StepMade = Step (Option Room)

-- behind a step the seat's one view is w, and it has these slots
pub record IsNow (m : SeatState) (w : View) (slots : List (ℕ × Option Room)) (n : SeatState) : Type 0 where
  pub view : n.0 ≡ with_view_of (one_known m.0) w ∷ []
  pub slots_are : n.1 ≡ slots

-- LOCK: where the word was 0 the room is taken out of its slot, else the word was looked at
pub record TakesRoom (r : ℕ) (m n : SeatState) : Type 0 where
  pub room : Room
  pub view : View
  pub answer : Locked (one_view m.0) None r room view None
  pub now : IsNow m view ((r, Some room) ∷ m.1) n

pub record FindsHeld (r found : ℕ) (m n : SeatState) : Type 0 where
  pub view : View
  pub answer : LockIsHeld (one_view m.0) None r (record { by = found }) view None
  pub now : IsNow m view m.1 n

abbrev pub Locks : StepMade → SeatState → ℕ → SeatState → Type 0
Locks step m found n = (r : ℕ) → step.word ≡ 3 + r → (found ≡ 0 → TakesRoom r m n) × (found ≢ 0 → FindsHeld r found m n)

-- UNLOCK, RETREAT: the room in the slot goes home
abbrev pub Unlocks : StepMade → SeatState → ℕ → SeatState → Type 0
Unlocks step m found n = (r : ℕ) (x : Room) → m.1 ≡ (r, Some x) ∷ [] → (w : View) × Unlocked (one_view m.0) None r x w None × IsNow m w [] n

abbrev pub Retreats : StepMade → SeatState → ℕ → SeatState → Type 0
Retreats step m found n = (r : ℕ) (x : Room) → m.1 ≡ (r, Some x) ∷ [] → (w : View) × Retreated (one_view m.0) None r x w None × IsNow m w [] n

-- DRAW: the entry is the play's own, since an added word cannot tell it

-- what stands for an entry where a play names none
abbrev pub no_entry : Entry
no_entry = record { thread = 0; index = 0; command = Deq; reply = Empty }

abbrev pub Draws : Entry → StepMade → SeatState → ℕ → SeatState → Type 0
Draws e step m found n = (w : View) × Drew (one_view m.0) None e found w None × IsNow m w m.1 n

-- STAND
abbrev pub Stands : StepMade → SeatState → ℕ → SeatState → Type 0
Stands step m found n = (w : View) × Stood (one_view m.0) None w None × IsNow m w m.1 n

-- LOOK: the view has the word with what was found
abbrev pub Looks : StepMade → SeatState → ℕ → SeatState → Type 0
Looks step m found n = IsNow m (looked (one_view m.0) step.word found) m.1 n

-- LEAVE, CLAIM: done where the word was the expected one, else it was looked at
pub record DoesLeave (m : SeatState) (epoch : ℕ) (n : SeatState) : Type 0 where
  pub within : first_epoch (one_view m.0).beginning ≤ epoch  -- it is an epoch of this life
  pub now : IsNow m (left_in (one_view m.0) epoch) m.1 n

abbrev pub Leaves : StepMade → SeatState → ℕ → SeatState → Type 0
Leaves step m found n = (found ≡ step.first → DoesLeave m (arrival_of found).epoch n) × (found ≢ step.first → Looks step m found n)

pub record DoesClaim (m n : SeatState) : Type 0 where
  -- the thread ran in the epoch, which is one of this life, and released no checkpoint since
  pub ran : 0 < (one_view m.0).ran
  pub within : first_epoch (one_view m.0).beginning ≤ (one_view m.0).ran
  pub once : (one_view m.0).last_checkpoint ≤ (one_view m.0).ran
  pub now : IsNow m (claimed (one_view m.0)) m.1 n

abbrev pub Claims : StepMade → SeatState → ℕ → SeatState → Type 0
Claims step m found n = (found ≡ step.first → DoesClaim m n) × (found ≢ step.first → Looks step m found n)

-- NOTE: the next epoch has 32 bits too
pub record DoesNote (m : SeatState) (found : ℕ) (n : SeatState) : Type 0 where
  pub early : (one_view m.0).ran + 1 < 2 ^ 32
  pub now : IsNow m (entries_noted (one_view m.0) found) m.1 n

abbrev pub Notes : StepMade → SeatState → ℕ → SeatState → Type 0
Notes step m found n = DoesNote m found n

-- RELEASE: the thread has one checkpoint more, of so many entries; the word that is written shows whether the life is over

-- what it knows then
abbrev pub with_release : Known → ℕ → ℕ → List Known
with_release k entries word = record { view = released k.view; own = k.own ++ own_mark (k.view.ran + 1) (checkpoint_at entries (is_set word 17)) ∷ [] } ∷ []

abbrev pub Releases : StepMade → SeatState → ℕ → SeatState → Type 0
Releases step m found n = (entries : ℕ) → (one_view m.0).closed.entries ≡ Some entries → (n.0 ≡ with_release (one_known m.0) entries step.first) × (n.1 ≡ m.1)

-- POWER, TICK, OFF
abbrev pub Powers : StepMade → SeatState → ℕ → SeatState → Type 0
Powers step m found n = (w : View) × SawPower (one_view m.0) None (not (nat_le (one_view m.0).beginning.limit found)) w None × IsNow m w m.1 n

abbrev pub Ticks : StepMade → SeatState → ℕ → SeatState → Type 0
Ticks step m found n = IsNow m (ticked (one_view m.0)) m.1 n

abbrev pub Offs : StepMade → SeatState → ℕ → SeatState → Type 0
Offs step m found n = IsNow m (turned_off (one_view m.0)) m.1 n
