-- What a step of a closer does: the event of the first row that applies, by what it has in hand.
use Rattle.std.specs.Prelude.{◌≡◌, ℕ, ◌+◌, Bool, true, false, List, Option, Some}
use Rattle.life_model.specs.declared.life.Mark.{Mark}
use Rattle.line_memory.specs.Line.{BankState}
use Rattle.epoch_word.specs.declared.stage.EpochStage.{EpochStage}
use Rattle.epoch_word.specs.declared.stage.EpochStage.TheVariants.{Before, Stored, AskedFor, InMemory}
use Rattle.block_allow.specs.declared.judgement.Verdict.{Verdict}
use Rattle.block_allow.specs.Verdicts.{verdict_of}
use Rattle.rooms.specs.declared.room.Room.{Room}
use Rattle.rooms.specs.declared.room.Room.TheVariants.{Map, Queue, Thread, Super}
use Rattle.rooms.specs.Rooms.{lines_unasked}
use Rattle.yard_model.specs.declared.view.OwnMark.{OwnMark}
use Rattle.yard_model.specs.declared.view.View.{View}
use Rattle.room_yard.specs.Told.{Told, with_own}
use Rattle.room_yard.specs.Answers.{Locked, Unlocked, Retreated, EndedEpoch}
use Rattle.room_in_hand.specs.Events.{begun, written, fenced, has_lines, epoch_stored, epoch_written, epoch_fenced}
use Rattle.coordinator.specs.declared.hand.Hand.{Hand}
use Rattle.coordinator.specs.declared.hand.Hand.TheVariants.{Empty, Flushing, Flushed, Shut, Epoch, AllDone, Over}
use Rattle.coordinator.specs.declared.closer.CloseStep.{CloseStep}
use Rattle.coordinator.specs.declared.closer.CloseStep.TheVariants.{Did, Released}
use Rattle.coordinator.specs.Learnts.{learnt_with, ends_life}
use Rattle.coordinator.specs.Closers.{CloserState, with_hand, IsCloser}

-- What each event on a room alone leaves in hand.

-- a room of cells whose stores were ended: lines are left, or it is in memory
abbrev pub begun_hand : Bool → Room → Hand
begun_hand true x = Flushing x
begun_hand false x = Shut x

-- the room that was locked; the begin of the closing of its cells is part of the event
abbrev pub taken_hand : Room → Hand
taken_hand (Map x) = begun_hand (has_lines (Map x)) (begun (Map x))
taken_hand (Queue x) = begun_hand (has_lines (Queue x)) (begun (Queue x))
taken_hand (Thread x) = begun_hand (has_lines (Thread x)) (begun (Thread x))
taken_hand (Super x) = Epoch Before x

-- a line was written back: lines are left, or a fence is due
abbrev pub written_hand : Bool → Room → Hand
written_hand true x = Flushing x
written_hand false x = Flushed x

-- the super room with its write one stage further, where it is not in memory
abbrev pub epoch_hand : EpochStage → BankState → Hand
epoch_hand Before x = Epoch Stored (epoch_stored x)
epoch_hand Stored x = Epoch AskedFor (epoch_written x)
epoch_hand AskedFor x = Epoch InMemory (epoch_fenced x)
epoch_hand InMemory x = Epoch InMemory x

-- the closer with one more room done
abbrev pub one_done : CloserState → Room → Hand → CloserState
one_done c x hand = record { settings = c.settings; learnt = learnt_with c.learnt x; hand = hand }

-- THE ROWS. A closer c of view v, where the state t is told, becomes d of view w, where u is told.

-- an event on the room in hand alone
abbrev pub DoesAlone : CloserState → Hand → View → Option Told → CloserState → View → Option Told → Type 0
DoesAlone c hand v t d w u = (d ≡ with_hand c hand) × (w ≡ v) × (u ≡ t)

-- a line of the room in hand is written back, and one fewer is left
pub record WritesLine (c : CloserState) (x : Room) (v : View) (t : Option Told) (d : CloserState) (w : View) (u : Option Told) : Type 0 where
  pub fewer : lines_unasked x ≡ lines_unasked (written x) + 1
  pub alone : DoesAlone c (written_hand (has_lines (written x)) (written x)) v t d w u

-- the next room is locked
pub record TakesRoom (c : CloserState) (v : View) (t : Option Told) (d : CloserState) (w : View) (u : Option Told) : Type 0 where
  pub room : Room
  pub locked : Locked v t c.learnt.rooms room w u
  pub taken : d ≡ with_hand c (taken_hand room)

-- the room goes home, and is done
pub record EndsRoom (c : CloserState) (x : Room) (hand : Hand) (v : View) (t : Option Told) (d : CloserState) (w : View) (u : Option Told) : Type 0 where
  pub unlocked : Unlocked v t c.learnt.rooms x w u
  pub done : d ≡ one_done c x hand

-- the super room: the next epoch is stored, written back, and brought into memory
abbrev pub DoesEpoch : EpochStage → BankState → CloserState → View → Option Told → CloserState → View → Option Told → Type 0
DoesEpoch Before x c v t d w u = DoesAlone c (epoch_hand Before x) v t d w u
DoesEpoch Stored x c v t d w u = DoesAlone c (epoch_hand Stored x) v t d w u
DoesEpoch AskedFor x c v t d w u = DoesAlone c (epoch_hand AskedFor x) v t d w u
DoesEpoch InMemory x c v t d w u = EndsRoom c (Super x) AllDone v t d w u

-- by what is in hand; the release is a step of its own
abbrev pub DoesRow : Hand → CloserState → View → Option Told → CloserState → View → Option Told → Type 0
DoesRow Empty c v t d w u = TakesRoom c v t d w u
DoesRow (Flushing x) c v t d w u = WritesLine c x v t d w u
DoesRow (Flushed x) c v t d w u = DoesAlone c (Shut (fenced x)) v t d w u
DoesRow (Shut x) c v t d w u = EndsRoom c x Empty v t d w u
DoesRow (Epoch stage x) c v t d w u = DoesEpoch stage x c v t d w u
DoesRow AllDone c v t d w u = ⊥
DoesRow Over c v t d w u = ⊥

-- STEPS.

-- an event was done, and the closer may go on
pub record DoesNext (c : CloserState) (v : View) (t : Option Told) (d : CloserState) (w : View) (u : Option Told) : Type 0 where
  pub row : DoesRow c.hand c v t d w u
  pub closer : IsCloser d w

-- the epoch was released: the verdict is that of the ends that were learnt, and the life is over where no thread may leave
pub record Releases (c : CloserState) (v : View) (t : Option Told) (mark : Mark) (verdict : Verdict) (d : CloserState) (w : View) (u : Option Told) : Type 0 where
  pub all_done : c.hand ≡ AllDone
  pub fed : Bool
  pub fed_is : v.closed.fed ≡ Some fed
  pub verdict_is : verdict ≡ verdict_of v.closed.ends fed
  pub ended : EndedEpoch v t (ends_life verdict) fed mark w u
  pub over : d ≡ with_hand c Over

-- the answer of a step
abbrev pub StepIs : CloseStep → CloserState → View → Option Told → CloserState → View → Option Told → Type 0
StepIs Did c v t d w u = DoesNext c v t d w u
StepIs (Released mark verdict) c v t d w u = Releases c v t mark verdict d w u

-- by the answer: a fact where an event was done, and one where the epoch was released
abbrev pub IfDid : CloseStep → Type 0 → Type 0
IfDid Did fact = fact
IfDid (Released mark verdict) fact = Unit {0}

abbrev pub IfReleased : CloseStep → (Mark → Verdict → Type 0) → Type 0
IfReleased Did fact = Unit {0}
IfReleased (Released mark verdict) fact = fact mark verdict

-- the thread's own checkpoints, where they are told: one more where the epoch was released
abbrev pub own_behind : CloseStep → Option (List OwnMark) → Option (List OwnMark)
own_behind Did marks = marks
own_behind (Released mark verdict) marks = with_own marks (record { mark = mark; over = ends_life verdict })

-- GIVING BACK: a room in hand, the one of this number, is given up; where none is in hand nothing changes.
abbrev pub GivesBack : Hand → ℕ → View → Option Told → View → Option Told → Type 0
GivesBack Empty r v t w u = (w ≡ v) × (u ≡ t)
GivesBack (Flushing x) r v t w u = Retreated v t r x w u
GivesBack (Flushed x) r v t w u = Retreated v t r x w u
GivesBack (Shut x) r v t w u = Retreated v t r x w u
GivesBack (Epoch stage x) r v t w u = Retreated v t r (Super x) w u
GivesBack AllDone r v t w u = (w ≡ v) × (u ≡ t)
GivesBack Over r v t w u = ⊥
