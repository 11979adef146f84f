use Rattle.std.proofs.Common.{◌≡◌, ℕ, zero, suc, ◌+◌, ◌≤◌, ◌<◌, List, [], ◌∷◌, length, get_or, ap, ◌∙◌, arith, zero-add, ◌%◌}
use Rattle.std.proofs.Math.Nat.{min-le_right}
use Rattle.line_memory.specs.Line.{LineState, BankState, survivor, line_at}
use Rattle.room_model.specs.Image.{surviving_lines}
use Rattle.store_order.specs.declared.choice.Choice.{Choice}
use Rattle.store_order.specs.declared.choice.Choice.TheVariants.{Nothing, All, Seed, List as Listed}
use Rattle.store_order.specs.Choice.{kept_by, kept_of, count_listed, word_drawn}
use Rattle.store_order.specs.Survivors.{MayBeLeft}

-- a word modulo one more than a number is at most that number
mod-at_most : (word pending : ℕ) → word % (pending + 1) ≤ pending
mod-at_most word pending = omega arith

-- a line keeps at most what is pending on it
pub kept_by-le : (choice : Choice) (line pending : ℕ) → kept_by choice line pending ≤ pending
kept_by-le Nothing line pending = omega arith
kept_by-le All line pending = omega arith
kept_by-le (Seed seed) line pending = mod-at_most (word_drawn seed line) pending
kept_by-le (Listed entries) line pending = min-le_right (count_listed entries.items line) pending

-- as many lines are left as there are
pub length-lines_left : (f : ℕ → ℕ) (i : ℕ) (lines : List LineState) → length (surviving_lines f i lines) ≡ length lines
length-lines_left f i [] = cc
length-lines_left f i (l ∷ ls) = ap suc (length-lines_left f (suc i) ls)

-- a line that is left, by its place
pub get_or-lines_left : (f : ℕ → ℕ) (i : ℕ) (lines : List LineState) (k : ℕ) → k < length lines → get_or (surviving_lines f i lines) k [] ≡ survivor (line_at lines k) (f (i + k))
get_or-lines_left f i [] k within = absurd (omega arith)
get_or-lines_left f i (l ∷ ls) zero within = let same : i ≡ i + 0 = omega arith in ap (λ (n : ℕ). survivor l (f n)) same
get_or-lines_left f i (l ∷ ls) (suc k) within =
    let same : suc i + k ≡ i + suc k = omega arith in
    get_or-lines_left f (suc i) ls k (omega arith) ∙ ap (λ (n : ℕ). survivor (line_at ls k) (f n)) same

-- what a choice leaves may be left
pub leaves_survivors : (choice : Choice) (first : ℕ) (bank : BankState) → MayBeLeft bank (surviving_lines (kept_of choice first bank.lines) 0 bank.lines)
leaves_survivors choice first bank =
    let f = kept_of choice first bank.lines in
    record {
      count = length-lines_left f 0 bank.lines;
      each = λ i within. (f i, kept_by-le choice (first + i) (length (line_at bank.lines i).pending), get_or-lines_left f 0 bank.lines i within ∙ ap (λ (n : ℕ). survivor (line_at bank.lines i) (f n)) (zero-add i));
    }
