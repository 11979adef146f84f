-- The command of a line: first its form, then its numbers from left to right.
use Rattle.std.specs.Prelude.{ℕ, List, [], ◌∷◌, codes, Result, Ok, Err, if◌then◌else◌}
use Rattle.std.specs.Str.{bytes_eq}
use Rattle.script_text.specs.declared.fault.ScriptFault.{ScriptFault}
use Rattle.seq_object.specs.declared.command.Command.{Command}
use Rattle.seq_object.specs.declared.command.Command.TheVariants.{Put, Get, Del, Enq, Deq, Take}
use Rattle.script_text.specs.Pieces.{words}
use Rattle.script_text.specs.Faults.{no_command, ◌>>=◌, fault}
use Rattle.script_text.specs.Reading.{number_at}

-- the command of one word
abbrev pub bare_command : ℕ → List ℕ → Result Command ScriptFault
bare_command line name =
    if bytes_eq name (codes "deq") then Ok Deq else
    if bytes_eq name (codes "take") then Ok Take else
    Err (fault line no_command)

-- the command of two words
abbrev pub value_command : ℕ → List ℕ → List ℕ → Result Command ScriptFault
value_command line name word =
    if bytes_eq name (codes "get") then (number_at line word >>= λ n. Ok (Get n)) else
    if bytes_eq name (codes "del") then (number_at line word >>= λ n. Ok (Del n)) else
    if bytes_eq name (codes "enq") then (number_at line word >>= λ n. Ok (Enq n)) else
    Err (fault line no_command)

-- the command of three words
abbrev pub pair_command : ℕ → List ℕ → List ℕ → List ℕ → Result Command ScriptFault
pair_command line name first second =
    if bytes_eq name (codes "put")
    then (number_at line first >>= λ k. number_at line second >>= λ v. Ok (Put k v))
    else Err (fault line no_command)

-- the command of a line, by its words
abbrev pub command_of_words : ℕ → List (List ℕ) → Result Command ScriptFault
command_of_words line [] = Err (fault line no_command)
command_of_words line (a ∷ []) = bare_command line a
command_of_words line (a ∷ b ∷ []) = value_command line a b
command_of_words line (a ∷ b ∷ c ∷ []) = pair_command line a b c
command_of_words line (a ∷ b ∷ c ∷ d ∷ ws) = Err (fault line no_command)

-- the command of a line
abbrev pub command_at : ℕ → List ℕ → Result Command ScriptFault
command_at line text = command_of_words line (words text)
