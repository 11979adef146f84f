-- The world that a yard leaves when its life ends.
use Rattle.std.specs.Prelude.{◌≡◌, ℕ, ◌<◌, true, List, map, Some}
use Rattle.std.specs.List.{Contains}
use Rattle.life_model.specs.Present.{AreAscending}
use Rattle.yard_model.specs.declared.view.View.{View}
use Rattle.yard_model.specs.Beginnings.{is_over}
use Rattle.yard_model.specs.World.{ViewIs, arrival, clock, dead}
use Rattle.yard_model.specs.Lawful.{Lawful}
use Rattle.yard_model.specs.Lives.{IsMemoryOf, NamesDead}
use Rattle.yard_model.specs.Shares.{Release, checkpoints_of, AreOwnOf}
use Rattle.room_yard.specs.Told.{Told}
use Rattle.room_yard.specs.World.{WorldState, memory_of}
use Rattle.shared_yard.specs.declared.known.Known.{Known}
use Rattle.shared_yard.specs.declared.seat.YardSeat.{YardSeat}
use Rattle.shared_yard.specs.declared.yard.SharedYard.{SharedYard}
use Rattle.shared_yard.specs.Rule.{Each, SawOver}
use Rattle.shared_yard.specs.Seats.{known_at}

-- of the rooms below n these are the ones whose lock is dead, each above the one before
pub record AreDeadBelow (n : ℕ) (locks : ℕ → ℕ) (held : List ℕ) : Type 0 where
  pub ascending : AreAscending held
  pub are_dead : (r : ℕ) → Contains held r → (r < n) × (locks r ≡ dead)
  pub all : (r : ℕ) → r < n → locks r ≡ dead → Contains held r

-- what is known of a thread is its view in this state, and its own checkpoints among those released
pub record IsKnownIn (y : SharedYard) (told : Told) (releases : List Release) (k : Known) : Type 0 where
  pub view : ViewIs told.world k.view.thread k.view
  pub own : AreOwnOf y.beginning releases k.view.thread k.own

-- a yard whose last state is lawful, and has what was known at these seats, leaves this world
pub record LeavesYard (y : SharedYard) (seats : List YardSeat) (w : WorldState) : Type 0 where
  pub told : Told  -- the last state
  pub releases : List Release  -- its checkpoints, each with the thread that released it
  pub lawful : Lawful y.beginning told.world told.history told.checkpoints
  pub released : told.checkpoints ≡ checkpoints_of releases
  pub known : Each (λ (s : YardSeat). IsKnownIn y told releases (known_at s)) seats
  -- a thread that saw the life over saw it rightly
  pub seen : (i : ℕ) (v : View) → ViewIs told.world i v → SawOver v → is_over y.beginning told.checkpoints ≡ true
  -- all rooms are at home, and the world has them, and the two words
  pub rooms : map Some w.rooms ≡ told.world.rooms
  pub arrival_is : w.arrival ≡ arrival told.world
  pub clock_is : w.clock ≡ clock told.world
  -- and the numbers of those that were given back in mid-work
  pub held : NamesDead y.beginning told.world w.held
  pub memory : IsMemoryOf y.beginning told.world (memory_of w.rooms)
