-- The line of the turns.
use Rattle.std.specs.Prelude.{ℕ, ◌+◌, List, [], ◌∷◌, codes, ◌&&◌, nat_lt, drop, Result, Ok, Err, if◌then◌else◌}
use Rattle.std.specs.Str.{bytes_eq}
use Rattle.script_text.specs.declared.fault.ScriptFault.{ScriptFault}
use Rattle.script_text.specs.Program.{Turns, round_robin, seeded, listed, live, most_turns}
use Rattle.script_text.specs.Pieces.{words, begins_list}
use Rattle.script_text.specs.Faults.{out_of_range, bad_turns, ◌>>=◌, fault}
use Rattle.script_text.specs.Reading.{Left, line_at, number_at, limited_at}

-- the thread of a turn of a list, where so many turns were seen before it
abbrev pub turn_at : ℕ → ℕ → ℕ → List ℕ → Result ℕ ScriptFault
turn_at line threads seen word =
    number_at line word >>= λ thread.
    if nat_lt thread threads && nat_lt seen most_turns then Ok thread else Err (fault line out_of_range)

-- the threads of a list of turns, where so many turns were seen before them
abbrev pub turn_list : ℕ → ℕ → ℕ → List (List ℕ) → Result (List ℕ) ScriptFault
turn_list line threads seen [] = Ok []
turn_list line threads seen (w ∷ ws) =
    turn_at line threads seen w >>= λ thread.
    turn_list line threads (seen + 1) ws >>= λ others.
    Ok (thread ∷ others)

-- the three forms with no list, by the words of the line
abbrev pub counted_turns : ℕ → List (List ℕ) → Result Turns ScriptFault
counted_turns line [] = Err (fault line bad_turns)
counted_turns line (a ∷ []) = Err (fault line bad_turns)
counted_turns line (a ∷ b ∷ []) =
    if bytes_eq a (codes "live")
    then (limited_at line 0 most_turns b >>= λ n. Ok (live n))
    else Err (fault line bad_turns)
counted_turns line (a ∷ b ∷ c ∷ []) =
    if bytes_eq a (codes "turns") && bytes_eq b (codes "rr")
    then (limited_at line 0 most_turns c >>= λ n. Ok (round_robin n))
    else Err (fault line bad_turns)
counted_turns line (a ∷ b ∷ c ∷ d ∷ []) =
    if bytes_eq a (codes "turns") && bytes_eq b (codes "seed")
    then (number_at line c >>= λ seed. limited_at line 0 most_turns d >>= λ n. Ok (seeded seed n))
    else Err (fault line bad_turns)
counted_turns line (a ∷ b ∷ c ∷ d ∷ e ∷ ws) = Err (fault line bad_turns)

-- the turns by the words of the line, for so many threads
abbrev pub turns_of_words : ℕ → ℕ → List (List ℕ) → Result Turns ScriptFault
turns_of_words line threads ws =
    if begins_list (codes "turns") ws
    then (turn_list line threads 0 (drop 2 ws) >>= λ ts. Ok (listed ts))
    else counted_turns line ws

-- the turns, and what is left behind their line
abbrev pub turns_at : ℕ → Left → Result (Turns × Left) ScriptFault
turns_at threads left =
    line_at left >>= λ l.
    turns_of_words left.line threads (words l.0) >>= λ turns.
    Ok (turns, l.1)
