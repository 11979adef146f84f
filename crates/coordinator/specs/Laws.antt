-- Laws on closers: how many events a closing has from its claim to its release, and what a look at the power and a tick leave.
use Rattle.std.specs.Prelude.{◌≡◌, ℕ, ◌+◌, ◌*◌, ◌<◌}
use Rattle.seq_object.specs.declared.sizes.Sizes.{Sizes}
use Rattle.seq_object.specs.Sizes.{thread_room, room_count}
use Rattle.seq_object.specs.History.{total}
use Rattle.life_model.specs.Work.{closing_events}
use Rattle.yard_model.specs.declared.view.View.{View}
use Rattle.yard_model.specs.Views.{saw_power, ticked}
use Rattle.coordinator.specs.Closers.{CloserState, Closes, most_on, least_on}

-- with claim and release the events on all rooms are at most those of a closing that lists every line
abbrev pub MostEventsLaw : Type 0
MostEventsLaw = (z : Sizes) → total (most_on z) (room_count z) + 2 ≡ closing_events z

-- with claim and release, and the nine by which the closer's own restart point was written before, they are at least two for each room and 16
abbrev pub LeastEventsLaw : Type 0
LeastEventsLaw = (z : Sizes) (thread : ℕ) → thread < z.threads → total (least_on z (thread_room z thread)) (room_count z) + 2 + 9 ≡ 2 * room_count z + 16

-- a look at the power, and a tick, leave a closer as it was
abbrev pub StaysBehindPowerLaw : Type 0
StaysBehindPowerLaw = (c : CloserState) (v : View) (found : ℕ) → Closes c v → Closes c (saw_power v found)

abbrev pub StaysBehindTickLaw : Type 0
StaysBehindTickLaw = (c : CloserState) (v : View) → Closes c v → Closes c (ticked v)
