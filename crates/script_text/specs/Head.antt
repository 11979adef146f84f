-- Lines that are settled, and the settings.
use Rattle.std.specs.Prelude.{ℕ, List, [], ◌∷◌, codes, Result, Ok, Err, if◌then◌else◌}
use Rattle.std.specs.Str.{bytes_eq}
use Rattle.seq_object.specs.declared.settings.Settings.{Settings}
use Rattle.script_text.specs.declared.fault.ScriptFault.{ScriptFault}
use Rattle.script_text.specs.Pieces.{words}
use Rattle.script_text.specs.Faults.{bad_setting, ◌>>=◌, fault}
use Rattle.script_text.specs.Reading.{Left, line_at, limited_at}

-- what is left behind a line that has to be this text; another line is a fault of this kind
abbrev pub fixed_line_at : ℕ → List ℕ → Left → Result Left ScriptFault
fixed_line_at kind text left =
    line_at left >>= λ l.
    if bytes_eq l.0 text then Ok l.1 else Err (fault left.line kind)

-- a setting's number, from low to high, by the words of its line
abbrev pub setting_of_words : ℕ → List ℕ → ℕ → ℕ → List (List ℕ) → Result ℕ ScriptFault
setting_of_words line name low high [] = Err (fault line bad_setting)
setting_of_words line name low high (a ∷ []) = Err (fault line bad_setting)
setting_of_words line name low high (a ∷ b ∷ []) =
    if bytes_eq a name then limited_at line low high b else Err (fault line bad_setting)
setting_of_words line name low high (a ∷ b ∷ c ∷ ws) = Err (fault line bad_setting)

-- a setting's number, and what is left behind its line
abbrev pub setting_at : List ℕ → ℕ → ℕ → Left → Result (ℕ × Left) ScriptFault
setting_at name low high left =
    line_at left >>= λ l.
    setting_of_words left.line name low high (words l.0) >>= λ n.
    Ok (n, l.1)

-- the four settings in their order, and what is left behind them
abbrev pub settings_at : Left → Result (Settings × Left) ScriptFault
settings_at left =
    setting_at (codes "threads") 1 16 left >>= λ threads.
    setting_at (codes "shards") 1 8 threads.1 >>= λ shards.
    setting_at (codes "lines") 16 65536 shards.1 >>= λ lines.
    setting_at (codes "every") 1 1024 lines.1 >>= λ every.
    Ok (record { threads = threads.0; shards = shards.0; lines = lines.0; every = every.0 }, every.1)
