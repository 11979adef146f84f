-- What the answers of two calls in a row say together.
use Rattle.std.specs.Prelude.{◌≡◌, ℕ, ◌<◌}
use Rattle.rooms.specs.declared.room.Room.{Room}
use Rattle.yard_model.specs.declared.view.Phase.TheVariants.{Running}
use Rattle.yard_model.specs.declared.view.View.{View}
use Rattle.yard_model.specs.Knows.{sizes_known}
use Rattle.yard_model.specs.Views.{grip_on, gripped, freed}
use Rattle.yard_model.specs.Conditions.{MayLock, IsGiven, MayUnlock}
use Rattle.room_yard.specs.Told.{Told}

-- a map room may go home as lock gave it, and the view is then what it was
abbrev pub ReturnsUntouchedLaw : Type 0
ReturnsUntouchedLaw = (v : View) (r : ℕ) (x : Room) (covered : ℕ) → MayLock v r → v.phase ≡ Running → r < (sizes_known v).shards → IsGiven v r x covered
    → MayUnlock (gripped v r x covered) (grip_on v r x covered) x × (freed (gripped v r x covered) (grip_on v r x covered) x ≡ v)

-- no entry and no checkpoint joined
abbrev pub AddsNothing : Told → Told → Type 0
AddsNothing a b = (b.history ≡ a.history) × (b.checkpoints ≡ a.checkpoints)
