-- The sections of the threads.
use Rattle.std.specs.Prelude.{ℕ, zero, suc, ◌+◌, List, [], ◌∷◌, codes, Bool, false, ◌||◌, nat_lt, Result, Ok, Err, if◌then◌else◌}
use Rattle.std.specs.Str.{bytes_eq}
use Rattle.seq_object.specs.declared.command.Command.{Command}
use Rattle.script_text.specs.declared.fault.ScriptFault.{ScriptFault}
use Rattle.script_text.specs.Program.{most_commands}
use Rattle.script_text.specs.Pieces.{words}
use Rattle.script_text.specs.Text.{section_line}
use Rattle.script_text.specs.Faults.{bad_thread, too_many, no_end, ◌>>=◌, fault}
use Rattle.script_text.specs.Reading.{Left}
use Rattle.script_text.specs.CommandWords.{command_at}
use Rattle.script_text.specs.Head.{fixed_line_at}

-- the first word of a line is `thread`
abbrev pub begins_section : List (List ℕ) → Bool
begins_section [] = false
begins_section (w ∷ ws) = bytes_eq w (codes "thread")

-- a line at which a section ends: the end of the script, or another section's first line
abbrev pub ends_section : List ℕ → Bool
ends_section text = bytes_eq text (codes "end") || begins_section (words text)

-- the commands up to the line at which the section ends, where so many were seen before them, and what is left from that
-- line on
abbrev pub commands_among : ℕ → List (List ℕ) → ℕ → Result (List Command × Left) ScriptFault
commands_among seen [] n = Err (fault n no_end)
commands_among seen (p ∷ []) n = Err (fault n no_end)
commands_among seen (p ∷ q ∷ ps) n =
    if ends_section p then Ok ([], record { pieces = p ∷ q ∷ ps; line = n }) else
    (command_at n p >>= λ command.
    if nat_lt seen most_commands
    then (commands_among (seen + 1) (q ∷ ps) (n + 1) >>= λ others. Ok (command ∷ others.0, others.1))
    else Err (fault n too_many))

-- the commands of a section, of what is left
abbrev pub commands_at : ℕ → Left → Result (List Command × Left) ScriptFault
commands_at seen left = commands_among seen left.pieces left.line

-- what is left behind the first line of a thread's section
abbrev pub section_line_at : ℕ → Left → Result Left ScriptFault
section_line_at thread left = fixed_line_at bad_thread (section_line thread) left

-- the commands of a thread's section, and what is left behind it
abbrev pub section_at : ℕ → Left → Result (List Command × Left) ScriptFault
section_at thread left = section_line_at thread left >>= λ behind. commands_at 0 behind

-- so many sections, from this thread on, and what is left behind them
abbrev pub sections_at : ℕ → ℕ → Left → Result (List (List Command) × Left) ScriptFault
sections_at zero thread left = Ok ([], left)
sections_at (suc n) thread left =
    section_at thread left >>= λ first.
    sections_at n (thread + 1) first.1 >>= λ others.
    Ok (first.0 ∷ others.0, others.1)
