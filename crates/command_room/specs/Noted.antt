-- Entries of commands that are done, and room for more.
use Rattle.std.specs.Prelude.{ℕ, ◌-◌, List, [], ◌∷◌, ◌++◌}
use Rattle.seq_object.specs.declared.history.Noted.{Noted}

-- the entries in order, and for how many more room was made
pub record NotedState : Type 0 where
  pub entries : List Noted
  pub spare : ℕ

-- no entry, and no room
abbrev pub none_noted : NotedState
none_noted = record { entries = []; spare = 0 }

-- one more entry, in the room that was made
abbrev pub with_entry : NotedState → Noted → NotedState
with_entry l noted = record { entries = l.entries ++ noted ∷ []; spare = l.spare - 1 }
