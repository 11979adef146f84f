-- The lines of formatted banks.
use Rattle.std.proofs.Common.{◌≡◌, ℕ, ◌<◌, ◌≤◌, ◌==◌, ◌&&◌, zero, suc, Bool, List, [], ◌∷◌, length, map, replicate, get_or, if◌then◌else◌, refl, sym, ap, ◌∙◌, arith}
use Rattle.std.specs.Prelude.{slice_index, slice_index_or, slice_set}
use Rattle.std.proofs.lemmas.Bool.{ne_eqb}
use Rattle.std.proofs.lemmas.Grind.{common_steps}
use Rattle.std.proofs.lemmas.List.{get_or-replicate}
use Rattle.line_memory.specs.Line.{LineState, line_at, loaded, bank_load, quiet_line}
use Rattle.room_model.specs.Formatted.{formatted, room_bank, line_bank, line_of_words}

-- a room has its lines
pub length-room : (lines first : ℕ) → length (room_bank lines first).lines ≡ lines
length-room lines first = grind (arith, common_steps)

-- a word of zeros
pub zero_word : (n word : ℕ) → ◌≡◌ {A = ℕ} (get_or (replicate n 0) word 0) 0
zero_word zero word = refl
zero_word (suc n) zero = refl
zero_word (suc n) (suc word) = zero_word n word

-- a load of a line of zeros, or past the last line
zero_load : (n line word : ℕ) → loaded (line_at (map quiet_line (replicate n (line_of_words 0 0))) line) word ≡ 0
zero_load zero line word = refl
zero_load (suc n) zero word = zero_word 8 word
zero_load (suc n) (suc line) word = zero_load n line word

-- a word of the header
header_word : (first word : ℕ) → get_or (line_of_words 0 first) word 0 ≡ (if word == 1 then first else 0)
header_word first zero = refl
header_word first (suc zero) = refl
header_word first (suc (suc word)) = zero_word 6 word ∙ sym (ap (λ (b : Bool). if b then first else 0) (ne_eqb (suc (suc word)) 1 (λ e. omega (arith, e))))

-- the loads are those of a formatted room
pub formatted_load : (lines first line word : ℕ) → 1 ≤ lines → bank_load (room_bank lines first) line word ≡ formatted first line word
formatted_load zero first line word some = absurd (omega (arith, some))
formatted_load (suc n) first zero word some = header_word first word
formatted_load (suc n) first (suc line) word some = zero_load n line word ∙ sym (ap (λ (b : Bool). if b && (word == 1) then first else 0) (ne_eqb (suc line) 0 (λ e. omega (arith, e))))

-- nothing is pending on any line
pub quiet_at : (bases : List (List ℕ)) (line : ℕ) → line_at (map quiet_line bases) line ≡ quiet_line (slice_index_or bases line [])
quiet_at [] line = refl
quiet_at (b ∷ bs) zero = refl
quiet_at (b ∷ bs) (suc line) = quiet_at bs line

-- the words of a formatted room
abbrev pub room_words : ℕ → ℕ → List (List ℕ)
room_words lines first = slice_set (replicate lines (line_of_words 0 0)) 0 (line_of_words 0 first)

-- what memory holds is what loads say
pub base_word : (lines first line word : ℕ) → 1 ≤ lines → slice_index (line_at (room_bank lines first).lines line).base word ≡ formatted first line word
base_word lines first line word some =
    ap (λ (l : LineState). slice_index l.base word) (quiet_at (room_words lines first) line)
    ∙ sym (ap (λ (l : LineState). loaded l word) (quiet_at (room_words lines first) line)) ∙ formatted_load lines first line word some

-- on a bank of one line too
pub line_word : (first word : ℕ) → slice_index (line_of_words first 0) word ≡ (if word == 0 then first else 0)
line_word first zero = refl
line_word first (suc word) = zero_word 7 word ∙ sym (ap (λ (b : Bool). if b then first else 0) (ne_eqb (suc word) 0 (λ e. omega (arith, e))))

-- each line has eight words
pub one_eight : (first line : ℕ) → line < 1 → length (line_at (line_bank (line_of_words first 0)).lines line).base ≡ 8
one_eight first zero within = refl
one_eight first (suc line) within = absurd (omega (arith, within))

pub room_eight : (lines first line : ℕ) → line < lines → length (line_at (room_bank lines first).lines line).base ≡ 8
room_eight zero first line within = absurd (omega (arith, within))
room_eight (suc n) first zero within = refl
room_eight (suc n) first (suc line) within =
    ap (λ (l : LineState). length l.base) (quiet_at (replicate n (line_of_words 0 0)) line) ∙ ap length (get_or-replicate n line (line_of_words 0 0) [] (omega (arith, within)))
