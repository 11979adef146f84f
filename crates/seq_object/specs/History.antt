-- Histories: lists of entries, what they leave, and when each reply is the right one.
use Rattle.std.specs.Prelude.{◌≡◌, ℕ, ◌+◌, ◌==◌, zero, suc, List, [], ◌∷◌, length, Some, slice_get, slice_index_or}
use Rattle.std.specs.List.{filter}
use Rattle.seq_object.specs.declared.command.Command.{Command}
use Rattle.seq_object.specs.declared.history.Entry.{Entry}
use Rattle.seq_object.specs.Object.{Contents, no_contents, reply_to, contents_after, room_of}
use Rattle.seq_object.specs.declared.history.RestartPoint.{RestartPoint}
use Rattle.seq_object.specs.declared.sizes.Sizes.{Sizes}

-- the entries of one thread, in order
abbrev pub of_thread : ℕ → List Entry → List Entry
of_thread thread = filter (λ e. e.thread == thread)

-- the entries for one room, in order
abbrev pub of_room : Sizes → ℕ → List Entry → List Entry
of_room z room = filter (λ e. room_of z e.command == room)

-- what the object holds after a history
abbrev pub contents_at : Sizes → Contents → List Entry → Contents
contents_at z c [] = c
contents_at z c (e ∷ es) = contents_at z (contents_after z c e.command) es

-- each reply is the object's reply to the command in the state before it
abbrev pub IsLegal : Sizes → Contents → List Entry → Type 0
IsLegal z c [] = Unit {0}
IsLegal z c (e ∷ es) = (reply_to z c e.command ≡ Some e.reply) × IsLegal z (contents_after z c e.command) es

-- what is to be kept of a run: what the object holds, and each thread's restart point
pub record State : Type 0 where
  pub contents : Contents
  pub points : List RestartPoint

-- the restart point of a thread that has done nothing
abbrev pub first_point : RestartPoint
first_point = record { position = 0 }

-- a thread's restart point among these, and the first one where there is none
abbrev pub point_at : List RestartPoint → ℕ → RestartPoint
point_at points thread = slice_index_or points thread first_point

-- a thread's restart point behind these entries of its own
abbrev pub point_behind : RestartPoint → List Entry → RestartPoint
point_behind p own = record { position = p.position + length own }

-- these restart points, the first of them thread i's, each behind its thread's entries of a history
abbrev pub points_from : ℕ → List RestartPoint → List Entry → List RestartPoint
points_from i [] h = []
points_from i (p ∷ ps) h = point_behind p (of_thread i h) ∷ points_from (suc i) ps h

-- the restart points after a history
abbrev pub points_after : List RestartPoint → List Entry → List RestartPoint
points_after = points_from 0

-- the state after a history
abbrev pub after : Sizes → State → List Entry → State
after z s h = record { contents = contents_at z s.contents h; points = points_after s.points h }

-- the restart points of so many threads that have done nothing
abbrev pub first_points : ℕ → List RestartPoint
first_points zero = []
first_points (suc n) = first_point ∷ first_points n

-- the state in which a start begins
abbrev pub first_state : Sizes → State
first_state z = record { contents = no_contents; points = first_points z.threads }

-- one list of commands for each thread
abbrev pub Scripts : Type 0
Scripts = List (List Command)

-- these entries are the commands of a script from a place on, in order, with these places as indexes
abbrev pub AreCommands : List Command → ℕ → List Entry → Type 0
AreCommands script place [] = Unit {0}
AreCommands script place (e ∷ es) = (e.index ≡ place) × (slice_get script place ≡ Some e.command) × AreCommands script (suc place) es

-- so many numbers, counted from one on
abbrev pub counted_from : ℕ → ℕ → List ℕ
counted_from first zero = []
counted_from first (suc n) = first ∷ counted_from (suc first) n

-- f 0 + .. + f (n - 1)
abbrev pub total : (ℕ → ℕ) → ℕ → ℕ
total f zero = 0
total f (suc n) = total f n + f n
