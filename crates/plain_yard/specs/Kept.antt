-- What a plain yard shows, and what it keeps.
use Rattle.std.specs.Prelude.{◌≡◌, ℕ, ◌-◌, ◌^◌, ◌/◌, ◌≤◌, List, [], ◌∷◌, length, Option, Some, None, vec_capacity}
use Rattle.std.specs.List.{All}
use Rattle.restart_point.specs.ArrivalWord.{is_set}
use Rattle.yard_model.specs.declared.view.Checkpoint.{Checkpoint}
use Rattle.yard_model.specs.Beginnings.{first_epoch, covered_by}
use Rattle.yard_model.specs.World.{YardState}
use Rattle.yard_model.specs.Lawful.{Lawful}
use Rattle.room_yard.specs.Told.{Told}
use Rattle.plain_yard.specs.declared.seat.Drawn.{Drawn}
use Rattle.plain_yard.specs.declared.seat.Holding.{Holding}
use Rattle.plain_yard.specs.declared.seat.Seat.{Seat}
use Rattle.plain_yard.specs.declared.emptied.Emptied.{Emptied}
use Rattle.plain_yard.specs.Shown.{ShownYard}
use Rattle.plain_yard.specs.Opening.{commands_in}
use Rattle.plain_yard.specs.Meaning.{entries_in, checkpoints_up_to, views_in}
use Rattle.plain_yard.specs.declared.yard.PlainYard.TheInside.{Inside}

abbrev pub state_in : Inside → YardState
state_in p = record {
  words = p.tick ∷ length p.log.items ∷ p.arrival ∷ p.locks.items;
  rooms = p.rooms.items;
  views = views_in p.beginning (entries_in p.log.items) 0 p.seats.items;
}

-- the checkpoints began the epochs up to that of the arrival word, and bit 17 of that says whether the last ended the life
abbrev pub checkpoints_in : Inside → List Checkpoint
checkpoints_in p = checkpoints_up_to p.log.items (first_epoch p.beginning) (is_set p.arrival 17) (p.arrival / 2 ^ 32 - first_epoch p.beginning)

abbrev pub told_in : Inside → Told
told_in p = record { world = state_in p; history = entries_in p.log.items; checkpoints = checkpoints_in p }

abbrev pub shown_yard : Inside → ShownYard
shown_yard p = record { beginning = p.beginning; told = told_in p }

-- 16 places for ends, of which no more are known
abbrev pub HasPlaces : Seat → Type 0
HasPlaces s = (length s.learnt.ends ≡ 16) × (s.learnt.known ≤ 16)

-- what is held was taken behind some of so many entries
abbrev pub HeldBefore : ℕ → Option Holding → Type 0
HeldBefore n None = Unit {0}
HeldBefore n (Some k) = (k.before ≤ n) × (k.covered ≤ n)

abbrev pub WasHeld : ℕ → Seat → Type 0
WasHeld n s = HeldBefore n s.holding

-- these lists are empty, and have room for so many rooms
pub record HasRoomFor (n : ℕ) (lists : Emptied) : Type 0 where
  pub no_rooms : lists.rooms.items ≡ []
  pub rooms : n ≤ vec_capacity lists.rooms
  pub no_held : lists.held.items ≡ []
  pub held : n ≤ vec_capacity lists.held
  pub no_banks : lists.banks.items ≡ []
  pub banks : n ≤ vec_capacity lists.banks

pub record IsKeptYard (p : Inside) : Type 0 where
  pub lawful : Lawful p.beginning (state_in p) (entries_in p.log.items) (checkpoints_in p)
  -- so many entries the last checkpoint covers
  pub covered : p.covered ≡ covered_by (checkpoints_in p)
  -- no entry was drawn in a later epoch than that of the arrival word
  pub epochs : All (λ (d : Drawn). d.epoch ≤ p.arrival / 2 ^ 32) p.log.items
  pub places : All HasPlaces p.seats.items
  pub held : All (WasHeld (length p.log.items)) p.seats.items
  -- there is room for an entry of each command of the scripts
  pub room : commands_in p.beginning.scripts ≤ vec_capacity p.log
  -- and for what the end of the life makes of the rooms
  pub lists : HasRoomFor (length p.rooms.items) p.emptied
