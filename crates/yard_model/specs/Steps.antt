-- The world after each kind of step of thread i, whose view it leaves as v.
use Rattle.std.specs.Prelude.{ℕ, ◌+◌, ◌-◌, ◌^◌, max, Bool, List, length, slice_set, Some, None, bit_and, bit_or}
use Rattle.seq_object.specs.declared.history.Entry.{Entry}
use Rattle.rooms.specs.declared.room.Room.{Room}
use Rattle.yard_model.specs.declared.view.Beginning.{Beginning}
use Rattle.yard_model.specs.declared.view.View.{View}
use Rattle.yard_model.specs.declared.view.Checkpoint.{Checkpoint}
use Rattle.yard_model.specs.Entries.{room_entries}
use Rattle.yard_model.specs.Beginnings.{sizes_at, covered_part}
use Rattle.yard_model.specs.World.{YardState, tick_word, clock, arrival, dead}

-- the view of thread i
abbrev pub with_view : YardState → ℕ → View → YardState
with_view w i v = record w { views = slice_set w.views i v }

-- the view of thread i, and one word
abbrev pub with_word_and_view : YardState → ℕ → ℕ → ℕ → View → YardState
with_word_and_view w place value i v = record { words = slice_set w.words place value; rooms = w.rooms; views = slice_set w.views i v }

-- how many entries of room r the last mark covers
abbrev pub covered_in : Beginning → List Entry → List Checkpoint → ℕ → ℕ
covered_in b h cs r = length (room_entries (sizes_at b) r (covered_part h cs))

-- lock: the room is out, and its lock names the thread
abbrev pub at_lock : YardState → ℕ → ℕ → View → YardState
at_lock w i r v = record { words = slice_set w.words (3 + r) (i + 1); rooms = slice_set w.rooms r None; views = slice_set w.views i v }

-- unlock: the room is at home, and free
abbrev pub at_unlock : YardState → ℕ → ℕ → Room → View → YardState
at_unlock w i r x v = record { words = slice_set w.words (3 + r) 0; rooms = slice_set w.rooms r (Some x); views = slice_set w.views i v }

-- retreat: the room is at home, and dead
abbrev pub at_retreat : YardState → ℕ → ℕ → Room → View → YardState
at_retreat w i r x v = record { words = slice_set w.words (3 + r) dead; rooms = slice_set w.rooms r (Some x); views = slice_set w.views i v }

-- a word with one bit cleared, and with one bit set
abbrev pub without_bit : ℕ → ℕ → ℕ
without_bit word i = bit_and word (2 ^ 64 - 1 - 2 ^ i)

abbrev pub with_bit : ℕ → ℕ → ℕ
with_bit word i = bit_or word (2 ^ i)

-- leave clears the thread's bit of the arrival word, stand sets it, and claim sets the closing bit
abbrev pub at_leave : YardState → ℕ → View → YardState
at_leave w i v = with_word_and_view w 2 (without_bit (arrival w) i) i v

abbrev pub at_stand : YardState → ℕ → View → YardState
at_stand w i v = with_word_and_view w 2 (with_bit (arrival w) i) i v

abbrev pub at_claim : YardState → ℕ → View → YardState
at_claim w i v = with_word_and_view w 2 (with_bit (arrival w) 16) i v

-- release: the arrival word is this one
abbrev pub at_release : YardState → ℕ → ℕ → View → YardState
at_release w word i v = with_word_and_view w 2 word i v

-- draw: the clock is one more
abbrev pub at_draw : YardState → ℕ → View → YardState
at_draw w i v = with_word_and_view w 1 (clock w + 1) i v

-- tick: the tick word is one more
abbrev pub at_tick : YardState → ℕ → View → YardState
at_tick w i v = with_word_and_view w 0 (tick_word w + 1) i v

-- off: the tick word is 2^63 at least
abbrev pub at_off : YardState → ℕ → View → YardState
at_off w i v = with_word_and_view w 0 (max (tick_word w) (2 ^ 63)) i v

-- the checkpoint that a release acknowledges
abbrev pub checkpoint_at : ℕ → Bool → Checkpoint
checkpoint_at n over = record { length = n; over = over }
