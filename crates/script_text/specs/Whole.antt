-- A whole text: its program, or its first fault.
use Rattle.std.specs.Prelude.{ℕ, List, [], ◌∷◌, codes, Result, Ok, Err}
use Rattle.seq_object.specs.Sizes.{sizes_of, line_total}
use Rattle.script_text.specs.declared.fault.ScriptFault.{ScriptFault}
use Rattle.script_text.specs.Program.{Program}
use Rattle.script_text.specs.Pieces.{pieces}
use Rattle.script_text.specs.Faults.{bad_head, bad_thread, text_after, ◌>>=◌, fault}
use Rattle.script_text.specs.Reading.{Left}
use Rattle.script_text.specs.Head.{fixed_line_at, settings_at}
use Rattle.script_text.specs.Turns.{turns_at}
use Rattle.script_text.specs.Keep.{keep_at}
use Rattle.script_text.specs.Sections.{sections_at}

-- nothing more: all that is left is the empty piece behind the last line feed
abbrev pub nothing_among : List (List ℕ) → ℕ → Result (Unit {0}) ScriptFault
nothing_among [] n = Err (fault n text_after)
nothing_among ([] ∷ []) n = Ok tt
nothing_among ((b ∷ bs) ∷ []) n = Err (fault n text_after)
nothing_among (p ∷ q ∷ ps) n = Err (fault n text_after)

-- the last line, and nothing behind it
abbrev pub end_at : Left → Result (Unit {0}) ScriptFault
end_at left = fixed_line_at bad_thread (codes "end") left >>= λ behind. nothing_among behind.pieces behind.line

-- the program of all that is left
abbrev pub program_at : Left → Result Program ScriptFault
program_at left =
    fixed_line_at bad_head (codes "respct 1") left >>= λ first.
    settings_at first >>= λ settings.
    turns_at settings.0.threads settings.1 >>= λ turns.
    keep_at (line_total (sizes_of settings.0)) turns.1 >>= λ keep.
    sections_at settings.0.threads 0 keep.1 >>= λ threads.
    end_at threads.1 >>= λ _.
    Ok (record { settings = settings.0; turns = turns.0; keep = keep.0; threads = threads.0 })

-- the program of a text, or the first fault
abbrev pub program_in : List ℕ → Result Program ScriptFault
program_in bytes = program_at (record { pieces = pieces 10 bytes; line = 1 })
