-- The lists of a plain yard, as a life opens with it.
use Rattle.std.specs.Prelude.{◌≡◌, ℕ, ◌+◌, ◌≤◌, List, [], ◌∷◌, length, replicate, vec_capacity}
use Rattle.seq_object.specs.declared.command.Command.{Command}
use Rattle.restart_point.specs.declared.thread_end.ThreadEnd.TheVariants.{Ready}
use Rattle.plain_yard.specs.declared.opening.Lists.{Lists}
use Rattle.plain_yard.specs.Seats.{opening_seat}

-- how many commands these scripts have together
abbrev pub commands_in : List (List Command) → ℕ
commands_in [] = 0
commands_in (script ∷ scripts) = length script + commands_in scripts

-- the lists of a yard of so many threads and rooms, whose scripts have so many commands
pub record AreOpeningLists (number_of_threads number_of_rooms number_of_commands : ℕ) (lists : Lists) : Type 0 where
  pub locks : lists.locks.items ≡ replicate number_of_rooms 0
  pub seats : lists.seats.items ≡ replicate number_of_threads (opening_seat (replicate 16 Ready))
  pub log : lists.log.items ≡ []
  pub entries : number_of_commands ≤ vec_capacity lists.log
  pub no_places : lists.places.items ≡ []
  pub places : number_of_rooms ≤ vec_capacity lists.places
  pub no_rooms : lists.rooms.items ≡ []
  pub rooms : number_of_rooms ≤ vec_capacity lists.rooms
