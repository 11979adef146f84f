-- The seats of a yard: what is known at each, and that they are all.
use Rattle.std.specs.Prelude.{◌≡◌, ℕ, ◌<◌, ◌⊎◌, List, [], ◌∷◌, length, None}
use mathlib.Core.Option.{some}
use lib.ListN.{get_elem?}
use Rattle.atomic_table.specs.Seated.{TableId}
use Rattle.yard_model.specs.declared.view.Beginning.{Beginning}
use Rattle.yard_model.specs.Opens.{opening_view}
use Rattle.shared_yard.specs.declared.known.Known.{Known}
use Rattle.shared_yard.specs.declared.seat.YardSeat.{YardSeat}
use Rattle.shared_yard.specs.declared.yard.SharedYard.{SharedYard}
use Rattle.shared_yard.specs.Rule.{Each, one_known}

-- what is split off a seat of many threads, and what stays
abbrev pub first_known : List Known → List Known
first_known [] = []
first_known (k ∷ ks) = k ∷ []

abbrev pub rest_knowns : List Known → List Known
rest_knowns [] = []
rest_knowns (k ∷ ks) = ks

-- what is known at a thread's seat: its view, and its own checkpoints
abbrev pub known_at : YardSeat → Known
known_at s = one_known s.seat.me.0

-- a seat is one of this yard
pub record IsSeatOf (y : SharedYard) (s : YardSeat) : Type 0 where
  pub table : s.seat.table_id ≡ y.table.shared.table_id
  pub begins : (known_at s).view.beginning ≡ y.beginning

-- what a thread knows as a life opens
abbrev pub opening_known : Beginning → ℕ → Known
opening_known b i = record { view = opening_view b i; own = [] }

-- a seat for each thread, in their order, at which is known what the thread knows as a life opens
pub record AreOpeningSeats (y : SharedYard) (seats : List YardSeat) : Type 0 where
  pub number : length seats ≡ y.beginning.settings.threads
  pub each : (i : ℕ) (s : YardSeat) → get_elem? seats i ≡ some s → IsSeatOf y s × (known_at s ≡ opening_known y.beginning i)

-- one of these seats is the thread's
abbrev pub HasSeat : ℕ → List YardSeat → Type 0
HasSeat i [] = ⊥
HasSeat i (s ∷ ss) = ((known_at s).view.thread ≡ i) ⊎ HasSeat i ss

-- these are the seats of all threads of a yard, none of which holds a room
pub record AreAllSeats (y : SharedYard) (seats : List YardSeat) : Type 0 where
  pub seats_of : Each (IsSeatOf y) seats
  pub all : (i : ℕ) → i < y.beginning.settings.threads → HasSeat i seats
  pub bare : Each (λ (s : YardSeat). (known_at s).view.grip ≡ None) seats

-- these seats at a table are those of the first so many threads
pub record AreDealt (t : TableId) (b : Beginning) (n : ℕ) (seats : List YardSeat) : Type 0 where
  pub number : length seats ≡ n
  pub each : (i : ℕ) (s : YardSeat) → get_elem? seats i ≡ some s → (s.seat.table_id ≡ t) × (known_at s ≡ opening_known b i)

-- a seat is at this table, and no room is out with it
abbrev pub IsBackAt : TableId → YardSeat → Type 0
IsBackAt t s = (s.seat.table_id ≡ t) × ((known_at s).view.grip ≡ None)
