-- The least and the most events that a worker has done, by its view and by what it has in hand. Between two commands, epochs and closings
-- these are those of a life's work; in between each event counts one.
use Rattle.std.specs.Prelude.{ℕ, ◌+◌, ◌-◌, ◌*◌, ◌&&◌, nat_lt, nat_le, Bool, true, false, length, Option, Some, None, if◌then◌else◌}
use Rattle.seq_object.specs.declared.settings.Settings.{Settings}
use Rattle.seq_object.specs.Sizes.{sizes_of, room_count}
use Rattle.life_model.specs.Work.{closing_events}
use Rattle.yard_model.specs.declared.view.Phase.{Phase}
use Rattle.yard_model.specs.declared.view.Phase.TheVariants.{Standing, Running, Closing}
use Rattle.yard_model.specs.declared.view.GivenBack.{GivenBack}
use Rattle.yard_model.specs.declared.view.View.{View}
use Rattle.yard_model.specs.Beginnings.{first_epoch}
use Rattle.room_in_hand.specs.Working.{stores_left}
use Rattle.coordinator.specs.Closers.{least_events, most_events}
use Rattle.worker_model.specs.declared.hand.Hand.{Hand}
use Rattle.worker_model.specs.declared.hand.Hand.TheVariants.{Empty, Commands, Drawn, NoItem, Own, Closes, Refused}

-- so many where this holds
abbrev pub when : ℕ → Bool → ℕ
when n true = n
when n false = 0

-- how many epochs there are from the first of the life to the one in which the thread last ran
abbrev pub epochs_run : View → ℕ
epochs_run v = if nat_lt 0 v.ran then v.ran + 1 - first_epoch v.beginning else 0

-- it ran, and released no checkpoint since
abbrev pub may_claim : View → Bool
may_claim v = nat_lt 0 v.ran && nat_le v.last_checkpoint v.ran

-- AT LEAST. With nothing in hand: nine for its restart point where it stands behind it; the leave, and seven on its own room, where it runs
abbrev pub least_empty : Phase → Option GivenBack → View → ℕ
least_empty Standing given v = when 9 (may_claim v)
least_empty Running (Some k) v = 0
least_empty Running None v = 1 + when 7 v.wrote
least_empty Closing given v = 0

abbrev pub least_of_hand : Hand → View → ℕ
least_of_hand Empty v = least_empty v.phase v.given_back v
least_of_hand (Commands reply x) v = 2
least_of_hand (Drawn x) v = 1
least_of_hand (NoItem x) v = 1
least_of_hand (Own x) v = 2 + (5 - stores_left x)
least_of_hand (Closes closer) v = 10 + least_events v.thread closer
least_of_hand (Refused x) v = 1

-- two for each entry, and for each checkpoint its thread's restart point and the events of a closing that lists no line but its own
abbrev pub least_done_by : Settings → Hand → View → ℕ
least_done_by s hand v = 2 * length v.own + (2 * room_count (sizes_of s) + 16) * v.checkpoints + least_of_hand hand v

-- AT MOST, and twelve more. With nothing in hand: the leave, two of a take that found nothing, and seven on its own room, where it runs
abbrev pub most_empty : Settings → Phase → Option GivenBack → View → ℕ
most_empty s Standing given v = 12
most_empty s Running (Some k) v = 37
most_empty s Running None v = 1 + when 2 v.found_empty + when 7 v.wrote
most_empty s Closing given v = 12 + closing_events (sizes_of s)

abbrev pub most_of_hand : Settings → Hand → View → ℕ
most_of_hand s Empty v = most_empty s v.phase v.given_back v
most_of_hand s (Commands reply x) v = 2 + (22 - stores_left x)
most_of_hand s (Drawn x) v = 0
most_of_hand s (NoItem x) v = 2
most_of_hand s (Own x) v = 2 + when 2 v.found_empty + (5 - stores_left x)
most_of_hand s (Closes closer) v = 13 + most_events closer
most_of_hand s (Refused x) v = 2

-- twenty-five for each entry, twelve for each epoch, and for each checkpoint a closing that lists every line
abbrev pub most_done_by : Settings → Hand → View → ℕ
most_done_by s hand v = 25 * length v.own + 12 * epochs_run v + closing_events (sizes_of s) * v.checkpoints + most_of_hand s hand v
