-- The words of a yard, its rooms at home, and one view per thread.
-- Word 0 is the tick word, word 1 the clock, word 2 the arrival word, and word 3 + r is the lock of room r.
use Rattle.std.specs.Prelude.{◌≡◌, ℕ, zero, suc, ◌+◌, ◌-◌, ◌/◌, ◌^◌, ◌<◌, ◌||◌, Bool, false, List, [], ◌∷◌, slice_index, Option, Some, if◌then◌else◌}
use mathlib.Core.Option.{some}
use lib.ListN.{get_elem?}
use Rattle.restart_point.specs.ArrivalWord.{is_set, HasNoOtherBits}
use Rattle.rooms.specs.declared.room.Room.{Room}
use Rattle.yard_model.specs.declared.view.View.{View}
use Rattle.yard_model.specs.Knows.{stands, is_closing}

pub record YardState : Type 0 where
  pub words : List ℕ
  pub rooms : List (Option Room)  -- none where the room is out
  pub views : List View  -- in the order of threads

abbrev pub tick_word : YardState → ℕ
tick_word w = slice_index w.words 0

abbrev pub clock : YardState → ℕ
clock w = slice_index w.words 1

abbrev pub arrival : YardState → ℕ
arrival w = slice_index w.words 2

abbrev pub lock_of : YardState → ℕ → ℕ
lock_of w r = slice_index w.words (3 + r)

-- the lock word of a room that was given back in mid-work
abbrev pub dead : ℕ
dead = 2 ^ 64 - 1

-- the view of a thread is this one
abbrev pub ViewIs : YardState → ℕ → View → Type 0
ViewIs w i v = get_elem? w.views i ≡ some v

-- the room of a number is at home, and is this one
abbrev pub Home : YardState → ℕ → Room → Type 0
Home w r x = get_elem? w.rooms r ≡ some (Some x)

-- What the views say together.

-- whether a thread stands
abbrev pub stands_at : List View → ℕ → Bool
stands_at [] i = false
stands_at (v ∷ vs) zero = stands v.phase
stands_at (v ∷ vs) (suc i) = stands_at vs i

-- whether some view passes a test, and a sum over the views
abbrev pub is_any : (View → Bool) → List View → Bool
is_any test [] = false
is_any test (v ∷ vs) = test v || is_any test vs

abbrev pub total_of : (View → ℕ) → List View → ℕ
total_of f [] = 0
total_of f (v ∷ vs) = f v + total_of f vs

-- whether a thread closes
abbrev pub closes : List View → Bool
closes vs = is_any (λ (v : View). is_closing v.phase) vs

-- how many rooms are done; none is where no thread closes
abbrev pub done_by : View → ℕ
done_by v = if is_closing v.phase then v.closed.rooms else 0

abbrev pub done_in : List View → ℕ
done_in vs = total_of done_by vs

-- the ticks of all threads
abbrev pub all_ticks : List View → ℕ
all_ticks vs = total_of (λ (v : View). v.ticks) vs

-- the checkpoints that the threads released
abbrev pub all_checkpoints : List View → ℕ
all_checkpoints vs = total_of (λ (v : View). v.checkpoints) vs

-- how many threads saw the power on since their last tick
abbrev pub seen_on : View → ℕ
seen_on v = if v.saw_on then 1 else 0

abbrev pub number_on : List View → ℕ
number_on vs = total_of seen_on vs

-- whether a thread turned the power off
abbrev pub is_called_off : List View → Bool
is_called_off vs = is_any (λ (v : View). v.called_off) vs

-- what an arrival word shows: who stands, whether a thread closes, whether the life is over, whether the epoch began with an item in the
-- queue, and the epoch
pub record Shows (word : ℕ) (who : ℕ → Bool) (closes_now over_now fed_now : Bool) (number : ℕ) : Type 0 where
  pub standing : (i : ℕ) → i < 16 → is_set word i ≡ who i
  pub closing : is_set word 16 ≡ closes_now
  pub over : is_set word 17 ≡ over_now
  pub fed : is_set word 18 ≡ fed_now
  pub zeros : HasNoOtherBits word
  pub epoch : word / 2 ^ 32 ≡ number
