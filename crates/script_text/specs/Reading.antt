-- Reading a text from its front, with the first fault that is met.
use Rattle.std.specs.Prelude.{ℕ, ◌+◌, List, [], ◌∷◌, ◌&&◌, nat_le, Option, Some, None, Result, Ok, Err, if◌then◌else◌}
use Rattle.script_text.specs.declared.fault.ScriptFault.{ScriptFault}
use Rattle.script_text.specs.declared.place.Place.{Place}
use Rattle.script_text.specs.Pieces.{pieces}
use Rattle.script_text.specs.Numbers.{number_of}
use Rattle.script_text.specs.Faults.{no_number, out_of_range, no_end, ◌>>=◌, fault}

-- what is left of a text: its pieces round line feeds, of which the last is no whole line, and the number of the next line
pub record Left : Type 0 where
  pub pieces : List (List ℕ)
  pub line : ℕ

-- what is left from a place on
abbrev pub left_of : Place → Left
left_of place = record { pieces = pieces 10 place.rest.now; line = place.line }

-- the next line, and what is left behind it; a fault where no further line feed follows
abbrev pub line_among : List (List ℕ) → ℕ → Result (List ℕ × Left) ScriptFault
line_among [] n = Err (fault n no_end)
line_among (p ∷ []) n = Err (fault n no_end)
line_among (p ∷ q ∷ ps) n = Ok (p, record { pieces = q ∷ ps; line = n + 1 })

-- the next line of what is left
abbrev pub line_at : Left → Result (List ℕ × Left) ScriptFault
line_at left = line_among left.pieces left.line

-- a number that was found, or the fault that there is none
abbrev pub number_or_fault : ℕ → Option ℕ → Result ℕ ScriptFault
number_or_fault line None = Err (fault line no_number)
number_or_fault line (Some n) = Ok n

-- the number that a word of a line stands for
abbrev pub number_at : ℕ → List ℕ → Result ℕ ScriptFault
number_at line word = number_or_fault line (number_of word)

-- the number that a word of a line stands for, from low to high
abbrev pub limited_at : ℕ → ℕ → ℕ → List ℕ → Result ℕ ScriptFault
limited_at line low high word =
    number_at line word >>= λ n.
    if nat_le low n && nat_le n high then Ok n else Err (fault line out_of_range)
