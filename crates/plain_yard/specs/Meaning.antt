-- What a plain yard means: the views by the seats and the entries, and the checkpoints by the epochs in which entries were drawn.
use Rattle.std.specs.Prelude.{ℕ, zero, suc, ◌+◌, nat_lt, Bool, false, List, [], ◌∷◌, ◌++◌, length, take, map, count_by, Option, Some, None}
use Rattle.seq_object.specs.declared.history.Entry.{Entry}
use Rattle.yard_model.specs.declared.view.Beginning.{Beginning}
use Rattle.yard_model.specs.declared.view.View.{View}
use Rattle.yard_model.specs.declared.view.Grip.{Grip}
use Rattle.yard_model.specs.declared.view.TakenPosition.{TakenPosition}
use Rattle.yard_model.specs.declared.view.Closed.{Closed}
use Rattle.yard_model.specs.declared.view.Checkpoint.{Checkpoint}
use Rattle.yard_model.specs.Entries.{thread_entries, room_entries}
use Rattle.yard_model.specs.Beginnings.{sizes_at}
use Rattle.plain_yard.specs.declared.seat.Drawn.{Drawn}
use Rattle.plain_yard.specs.declared.seat.Position.{Position}
use Rattle.plain_yard.specs.declared.seat.Holding.{Holding}
use Rattle.plain_yard.specs.declared.seat.Learnt.{Learnt}
use Rattle.plain_yard.specs.declared.seat.Seat.{Seat}

-- the entries of a log
abbrev pub entries_in : List Drawn → List Entry
entries_in log = map (λ (d : Drawn). d.entry) log

-- how many entries were drawn before an epoch
abbrev pub drawn_before : List Drawn → ℕ → ℕ
drawn_before log epoch = count_by (λ (d : Drawn). nat_lt d.epoch epoch) log

-- the checkpoints that began the epochs behind the first, so many of them; none but the last ended the life
abbrev pub checkpoints_up_to : List Drawn → ℕ → Bool → ℕ → List Checkpoint
checkpoints_up_to log first over zero = []
checkpoints_up_to log first over (suc n) = checkpoints_up_to log first false n ++ record { length = drawn_before log (first + suc n); over = over } ∷ []

abbrev pub position_in : Option Position → Option TakenPosition
position_in None = None
position_in (Some p) = Some record { point = p.point; in_memory = p.in_memory; end = p.end }

-- a room that is held: its entries are those that were drawn before it was taken
abbrev pub grip_in : Beginning → List Entry → Option Holding → Option Grip
grip_in b h None = None
grip_in b h (Some k) = Some record {
  room = k.room;
  history = room_entries (sizes_at b) k.room (take k.before h);
  covered = length (room_entries (sizes_at b) k.room (take k.covered h));
  position = position_in k.position;
  drawn = k.drawn;
}

abbrev pub closed_in : Learnt → Closed
closed_in c = record { rooms = c.rooms; fed = c.fed; ends = take c.known c.ends; entries = None }

-- the view of the thread of this number, by its seat; its own entries are among those of all
abbrev pub view_in : Beginning → List Entry → ℕ → Seat → View
view_in b h i s = record {
  beginning = b;
  thread = i;
  phase = s.phase;
  quota = s.quota;
  ran = s.ran;
  wrote = s.wrote;
  found_empty = s.found_empty;
  grip = grip_in b h s.holding;
  given_back = s.given_back;
  own = thread_entries i h;
  checkpoints = s.checkpoints;
  last_checkpoint = s.last_checkpoint;
  ticks = s.ticks;
  looks = s.looks;
  look = s.look;
  saw_on = s.saw_on;
  saw_off = s.saw_off;
  called_off = s.called_off;
  closed = closed_in s.learnt;
}

-- the views of the threads from this number on
abbrev pub views_in : Beginning → List Entry → ℕ → List Seat → List View
views_in b h i [] = []
views_in b h i (s ∷ ss) = view_in b h i s ∷ views_in b h (suc i) ss
