-- Numbers of a text.
use Rattle.std.specs.Prelude.{ℕ, ◌+◌, ◌-◌, ◌*◌, ◌^◌, nat_lt, ◌&&◌, ◌==◌, List, [], ◌∷◌, Option, Some, None, if◌then◌else◌}
use Rattle.std.specs.Char.{is_ascii_digit}

-- a number so far, gone on by the digits that follow it, as long as it stays below 2 to the 64
abbrev pub digits_read : ℕ → List ℕ → Option ℕ
digits_read n [] = Some n
digits_read n (c ∷ cs) =
    if is_ascii_digit c && nat_lt (n * 10 + (c - 48)) (2 ^ 64) then digits_read (n * 10 + (c - 48)) cs else None

-- the number that a word stands for: one or more digits, with no zero in front but where `0` is all
abbrev pub number_of : List ℕ → Option ℕ
number_of [] = None
number_of (c ∷ []) = digits_read 0 (c ∷ [])
number_of (c ∷ d ∷ ds) = if c == 48 then None else digits_read 0 (c ∷ d ∷ ds)
