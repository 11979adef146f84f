-- The line of what a cut keeps.
use Rattle.std.specs.Prelude.{ℕ, ◌+◌, List, [], ◌∷◌, codes, ◌&&◌, nat_lt, nat_le, drop, Result, Ok, Err, if◌then◌else◌}
use Rattle.std.specs.Str.{bytes_eq}
use Rattle.store_order.specs.declared.choice.Kept.{Kept}
use Rattle.script_text.specs.declared.fault.ScriptFault.{ScriptFault}
use Rattle.script_text.specs.Program.{Keeping, nothing, everything, by_seed, these}
use Rattle.script_text.specs.Pieces.{pieces, words, begins_list}
use Rattle.script_text.specs.Faults.{bad_keep, out_of_range, ◌>>=◌, fault}
use Rattle.script_text.specs.Reading.{Left, line_at, number_at}

-- an item of a list, by its pieces: a line from low on and below all, and how many stores it keeps; both are numbers before
-- the limits of either are judged
abbrev pub item_of_pieces : ℕ → ℕ → ℕ → List (List ℕ) → Result Kept ScriptFault
item_of_pieces line all low [] = Err (fault line bad_keep)
item_of_pieces line all low (a ∷ []) = Err (fault line bad_keep)
item_of_pieces line all low (a ∷ b ∷ []) =
    number_at line a >>= λ l.
    number_at line b >>= λ k.
    if nat_lt l all && nat_le low l && nat_le k 4294967295
    then Ok (record { line = l; count = k })
    else Err (fault line out_of_range)
item_of_pieces line all low (a ∷ b ∷ c ∷ ps) = Err (fault line bad_keep)

-- the items of a list, each judged whole before the next; their lines ascend strictly, from low on
abbrev pub item_list : ℕ → ℕ → ℕ → List (List ℕ) → Result (List Kept) ScriptFault
item_list line all low [] = Ok []
item_list line all low (w ∷ ws) =
    item_of_pieces line all low (pieces 58 w) >>= λ item.
    item_list line all (item.line + 1) ws >>= λ others.
    Ok (item ∷ others)

-- the three forms with no list, by the words of the line
abbrev pub plain_keep : ℕ → List (List ℕ) → Result Keeping ScriptFault
plain_keep line [] = Err (fault line bad_keep)
plain_keep line (a ∷ []) = Err (fault line bad_keep)
plain_keep line (a ∷ b ∷ []) =
    if bytes_eq a (codes "keep") && bytes_eq b (codes "none") then Ok nothing else
    if bytes_eq a (codes "keep") && bytes_eq b (codes "all") then Ok everything else
    Err (fault line bad_keep)
plain_keep line (a ∷ b ∷ c ∷ []) =
    if bytes_eq a (codes "keep") && bytes_eq b (codes "seed")
    then (number_at line c >>= λ seed. Ok (by_seed seed))
    else Err (fault line bad_keep)
plain_keep line (a ∷ b ∷ c ∷ d ∷ ws) = Err (fault line bad_keep)

-- what a cut keeps by the words of the line, where there are so many lines in all
abbrev pub keep_of_words : ℕ → ℕ → List (List ℕ) → Result Keeping ScriptFault
keep_of_words line all ws =
    if begins_list (codes "keep") ws
    then (item_list line all 0 (drop 2 ws) >>= λ items. Ok (these items))
    else plain_keep line ws

-- what a cut keeps, and what is left behind the line that says it
abbrev pub keep_at : ℕ → Left → Result (Keeping × Left) ScriptFault
keep_at all left =
    line_at left >>= λ l.
    keep_of_words left.line all (words l.0) >>= λ keep.
    Ok (keep, l.1)
