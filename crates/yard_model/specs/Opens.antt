-- The world that a life opens with.
use Rattle.std.specs.Prelude.{◌≡◌, ◌≢◌, ℕ, zero, suc, List, ◌∷◌, ◌+◌, ◌<◌, ◌≤◌, ◌↔◌, nat_lt, false, [], length, None}
use mathlib.Core.Option.{some}
use lib.ListN.{get_elem?}
use Rattle.seq_object.specs.History.{point_at}
use Rattle.life_model.specs.Life.{next_command, contents_now}
use Rattle.room_model.specs.MapRoom.{live_layout}
use Rattle.room_model.specs.Rooms.{StandsFor, point_in}
use Rattle.incll_var.specs.Cells.{IsCellBank, IsSavedIn}
use Rattle.restart_point.specs.declared.thread_end.ThreadEnd.TheVariants.{Waits, Ended}
use Rattle.rooms.specs.declared.room.Room.{Room}
use Rattle.yard_model.specs.declared.view.Phase.TheVariants.{Standing}
use Rattle.yard_model.specs.declared.view.Beginning.{Beginning}
use Rattle.yard_model.specs.declared.view.View.{View}
use Rattle.yard_model.specs.declared.view.Look.{Look}
use Rattle.rooms.specs.Rooms.{bank_of, cells_of, state_of, history_of, end_of, IsIdle, IsRoomOf, loads}
use Rattle.yard_model.specs.Beginnings.{opening_of, sizes_at, first_epoch, are_used_below, has_items, write_backs_at, IsBeginning}
use Rattle.yard_model.specs.World.{YardState, tick_word, clock, arrival, lock_of, ViewIs, Home, Shows}
use Rattle.yard_model.specs.Lawful.{Lawful}
use Rattle.yard_model.specs.Views.{nothing_closed}
use Rattle.room_model.specs.EpochLine.{epoch_line}
use Rattle.seq_object.specs.Sizes.{thread_room, super_room, room_count}

-- no word was looked at
abbrev pub no_look : Look
no_look = record { word = 0; found = 0 }

-- thread i stands, and has done nothing
abbrev pub opening_view : Beginning → ℕ → View
opening_view b i = record {
  beginning = b;
  thread = i;
  phase = Standing;
  quota = 0;
  ran = 0;
  wrote = false;
  found_empty = false;
  grip = None;
  given_back = None;
  own = [];
  checkpoints = 0;
  last_checkpoint = 0;
  ticks = 0;
  looks = 0;
  look = no_look;
  saw_on = false;
  saw_off = false;
  called_off = false;
  closed = nothing_closed;
}

-- the views of so many threads, the first of them thread i's
abbrev pub opening_views_from : Beginning → ℕ → ℕ → List View
opening_views_from b i zero = []
opening_views_from b i (suc n) = opening_view b i ∷ opening_views_from b (suc i) n

-- the views of all threads
abbrev pub opening_views : Beginning → List View
opening_views b = opening_views_from b 0 b.settings.threads

-- a room as a life opens with it
pub record IsOpeningRoom (b : Beginning) (r : ℕ) (x : Room) : Type 0 where
  pub kind : IsRoomOf b.settings r x
  pub idle : IsIdle x
  pub history : history_of x ≡ []
  pub write_backs : (bank_of x).write_backs ≡ write_backs_at b r
  -- cells are saved, in the epoch before
  pub cells : r < super_room (sizes_at b) → IsCellBank (cells_of x)
  pub saved : r < super_room (sizes_at b) → IsSavedIn (λ c. c + 1 ≡ first_epoch b) (state_of x)
  -- rooms of commands stand by their loads for what the object holds
  pub stands : r ≤ b.settings.shards → StandsFor live_layout (sizes_at b) r (loads x) (contents_now (opening_of b) [])
  -- the super room has the epoch, and nothing pending
  pub eight : r ≡ super_room (sizes_at b) → length (epoch_line (bank_of x)).base ≡ 8
  pub nothing_pending : r ≡ super_room (sizes_at b) → (epoch_line (bank_of x)).pending ≡ []
  pub epoch : r ≡ super_room (sizes_at b) → loads x 0 0 ≡ first_epoch b

-- a thread's room as a life opens with it: at the thread's place, with the end that belongs to it
pub record IsOpeningPosition (b : Beginning) (i : ℕ) (x : Room) : Type 0 where
  pub point : point_in live_layout (loads x) ≡ point_at b.points i
  pub ended : (end_of x ≡ Ended) ↔ (next_command (opening_of b) [] i ≡ None)
  pub no_wait : end_of x ≢ Waits

-- each word, view and room is as a life opens with it
pub record IsOpeningWorld (b : Beginning) (w : YardState) : Type 0 where
  pub beginning : IsBeginning b
  pub tick : tick_word w ≡ 0
  pub clock : clock w ≡ 0
  pub arrival : Shows (arrival w) (λ i. nat_lt i b.settings.threads) false (are_used_below b b.settings.threads) (has_items b.items) (first_epoch b)
  pub locks : (r : ℕ) → lock_of w r ≡ 0
  pub number_of_words : length w.words ≡ 3 + room_count (sizes_at b)
  pub number_of_views : length w.views ≡ b.settings.threads
  pub number_of_rooms : length w.rooms ≡ room_count (sizes_at b)
  pub views : (i : ℕ) (v : View) → ViewIs w i v → v ≡ opening_view b i
  pub home : (r : ℕ) → r < room_count (sizes_at b) → (x : Room) × Home w r x
  pub rooms : (r : ℕ) (x : Room) → Home w r x → IsOpeningRoom b r x
  pub positions : (i : ℕ) (x : Room) → i < b.settings.threads → Home w (thread_room (sizes_at b) i) x → IsOpeningPosition b i x

-- a life opens with a lawful world
abbrev pub OpensLawfulLaw : Type 0
OpensLawfulLaw = (b : Beginning) (w : YardState) → IsOpeningWorld b w → Lawful b w [] []

-- views are those that a life opens with exactly where there is one for each thread, and each is its thread's
abbrev pub ViewsOpenLaw : Type 0
ViewsOpenLaw = (b : Beginning) (views : List View)
    → (views ≡ opening_views b) ↔ ((length views ≡ b.settings.threads) × ((i : ℕ) (v : View) → get_elem? views i ≡ some v → v ≡ opening_view b i))
