-- How much work a life does, and how many rounds a schedule offers.
use Rattle.std.specs.Prelude.{◌≢◌, ℕ, zero, suc, ◌+◌, ◌*◌, ◌%◌, ◌<◌, ◌≤◌, ◌==◌, Bool, true, false, List, [], ◌∷◌, length, take, drop, count_by, if◌then◌else◌, All, ◌≡◌}
use Rattle.std.specs.List.{Contains}
use Rattle.seq_object.specs.declared.history.Entry.{Entry}
use Rattle.seq_object.specs.Sizes.{super_room, room_count, line_total}
use Rattle.life_model.specs.declared.life.Life.{Life}
use Rattle.life_model.specs.declared.life.Life.TheVariants.{Start, Resume}
use Rattle.seq_object.specs.History.{total}
use Rattle.room_model.specs.Cell.{tag_of}
use Rattle.room_model.specs.Image.{ImageRooms, lines_at, epoch_at}
use Rattle.life_model.specs.Life.{Opening, script_of, closings, sizes}
use Rattle.life_model.specs.declared.life.Outcome.{Outcome}
use Rattle.life_model.specs.declared.life.Outcome.TheVariants.{Cut}
use Rattle.seq_object.specs.Object.{IsTakeless}
use Rattle.seq_object.specs.declared.sizes.Sizes.{Sizes}

-- how many cells of a room of an image are tagged with its epoch
abbrev pub torn_cells_in : Sizes → ImageRooms → ℕ → ℕ
torn_cells_in z image room = count_by (λ words. tag_of words == epoch_at z image) (lines_at image room)

-- the cells that recovery of an image restores: those of the rooms below the super room that are tagged with its epoch
abbrev pub torn_cells : Sizes → ImageRooms → ℕ
torn_cells z image = total (torn_cells_in z image) (super_room z)

-- how many rooms have a cell that recovery of an image restores
abbrev pub torn_rooms : Sizes → ImageRooms → ℕ
torn_rooms z image = total (λ room. if torn_cells_in z image room == 0 then 0 else 1) (super_room z)

-- by the kind of life
abbrev recovery_write_backs_as : Life → Sizes → ImageRooms → ℕ
recovery_write_backs_as Start z image = 0
recovery_write_backs_as Resume z image = 1 + torn_cells z image

-- the write-backs that a life may make before its first entry: none at a start, else one for each cell of the loaded image that is
-- restored and one for the epoch
abbrev pub recovery_write_backs : Opening → ImageRooms → ℕ
recovery_write_backs o = recovery_write_backs_as o.life (sizes o)

-- the write-backs of a life are few: those before its first entry, four for each entry, and for each closing and one more as many as
-- there are threads and one for the epoch
abbrev pub WritesFewBack : Opening → ImageRooms → List Entry → List ℕ → ℕ → Type 0
WritesFewBack o image h marks flushed =
    flushed ≤ recovery_write_backs o image + 4 * length h + (o.settings.threads + 1) * (closings o marks + 1)

-- every thread is named in a stretch of a schedule
abbrev pub NamesAll : ℕ → List ℕ → Type 0
NamesAll threads turns = (thread : ℕ) → thread < threads → Contains turns thread

-- a schedule can be cut in order into so many stretches, each of which names every thread, and a rest
abbrev pub OffersRounds : ℕ → ℕ → List ℕ → Type 0
OffersRounds threads zero turns = Unit {0}
OffersRounds threads (suc rounds) turns = (n : ℕ) × NamesAll threads (take n turns) × OffersRounds threads rounds (drop n turns)

-- a schedule that names so many threads in turn, from this turn's on
abbrev pub in_turn : ℕ → ℕ → ℕ → List ℕ
in_turn threads turn zero = []
in_turn threads turn (suc n) = (turn % threads) ∷ in_turn threads (suc turn) n

-- by the kind of life
abbrev turns_for_rounds_as : Life → Sizes → List ℕ → List ℕ
turns_for_rounds_as Start z turns = turns
turns_for_rounds_as Resume z turns = drop (5 * line_total z) turns

-- the turns of a schedule in which rounds are counted: all at a start, and in a resume those after the most that recovery takes
abbrev pub turns_for_rounds : Opening → List ℕ → List ℕ
turns_for_rounds o = turns_for_rounds_as o.life (sizes o)

-- the events of a closing that lists every line
abbrev pub closing_events : Sizes → ℕ
closing_events z = line_total z + 3 * room_count z + 3

-- of one worker: its entries, its marks, whether it is closing, how many epochs there are from the workers' first one in this life to the
-- last in which it ran, both counted, and 0 where it has not run, and its events
pub record Worked : Type 0 where
  pub entries : ℕ
  pub marks : ℕ
  pub closing : Bool
  pub epochs : ℕ
  pub done : ℕ

-- one more where a worker is closing
abbrev pub one_if : Bool → ℕ
one_if true = 1
one_if false = 0

-- a lock and a draw per entry, and per mark the closer's own restart point and the events of a closing that lists no line
abbrev pub least_done : Sizes → Worked → ℕ
least_done z w = 2 * w.entries + (2 * room_count z + 16) * w.marks

-- 25 events per command, 12 per epoch, and per closing one that lists every line
abbrev pub most_done : Sizes → Worked → ℕ
most_done z w = 25 * (w.entries + 1) + 12 * w.epochs + closing_events z * (w.marks + one_if w.closing)

-- what a worker has done lies between the two
abbrev pub HasWorked : Sizes → Worked → Type 0
HasWorked z w = (least_done z w ≤ w.done) × (w.done ≤ most_done z w)

-- the events that a life has at least and at most done, by its entries and closings
abbrev pub least_work : Sizes → ℕ → ℕ → ℕ
least_work z entries closed = 2 * entries + (2 * room_count z + 16) * closed

-- and the most, with a closing more than was released
abbrev pub most_work : Sizes → ℕ → ℕ → ℕ
most_work z entries closed = 25 * (entries + z.threads) + 12 * z.threads * (closed + 1) + closing_events z * (closed + 1)

-- the events of threads that run by themselves until so many are done fit that limit: each thread may do one more than it sees, and where
-- the power was cut no more was left to do than there could be, and recovery, whose events are not counted, was done
pub record FitsLimit (o : Opening) (h : List Entry) (marks : List ℕ) (outcome : Outcome) (limit : ℕ) : Type 0 where
  pub least : least_work (sizes o) (length h) (closings o marks) ≤ limit + o.settings.threads
  pub most : outcome ≡ Cut → limit ≤ most_work (sizes o) (length h) (closings o marks)
  pub recovered : outcome ≡ Cut → o.life ≡ Resume → marks ≢ []

-- no thread's script has a take
abbrev pub HasNoTake : Opening → Type 0
HasNoTake o = (thread : ℕ) → All IsTakeless (script_of o.scripts thread)

-- the closings of a replay are at most two for each entry and one for each thread
abbrev pub ClosesSeldom : Opening → List Entry → List ℕ → Type 0
ClosesSeldom o h marks = closings o marks ≤ 2 * length h + o.settings.threads

-- without a take the closings are at most one for each entry
abbrev pub ClosesOncePerEntry : Opening → List Entry → List ℕ → Type 0
ClosesOncePerEntry o h marks = HasNoTake o → closings o marks ≤ length h
