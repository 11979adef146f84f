-- A walk along a chain, line by line.
use Rattle.std.specs.Prelude.{ℕ, ◌-◌, ◌==◌, ◌||◌, Bool, Option, Some, None, if◌then◌else◌}
use Rattle.room_model.specs.Chains.{RoomWords}
use Rattle.room_walks.specs.declared.walk.Walk.{Walk}

-- whether a walk has ended: the chain has, or as many lines were met as may be
abbrev pub has_ended : Walk → Bool
has_ended walk = (walk.line == 0) || (walk.left == 0)

-- the line that a walk meets next
abbrev pub next_line : Walk → Option ℕ
next_line walk = if has_ended walk then None else Some walk.line

-- a walk behind the line that it meets next: at the line that this one names, with one line less to meet
abbrev pub behind_next : RoomWords → Walk → Walk
behind_next r walk = if has_ended walk then walk else record { line = r walk.line walk.word; word = walk.word; left = walk.left - 1 }
