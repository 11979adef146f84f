-- The image that a power cut leaves of formatted memory.
use Rattle.std.proofs.Common.{◌≡◌, ℕ, ◌+◌, ◌<◌, zero, suc, List, [], ◌∷◌, length, take, map, refl, arith, ap, ◌∙◌}
use Rattle.std.specs.Prelude.{slice_index, slice_index_or}
use Rattle.line_memory.specs.declared.store.Store.{Store}
use Rattle.line_memory.specs.Line.{LineState, BankState, applied, line_at, bank_at}
use Rattle.seq_object.specs.declared.sizes.Sizes.{Sizes}
use Rattle.seq_object.specs.Sizes.{room_count}
use Rattle.room_model.specs.Formatted.{formatted_bank, formatted_memory}
use Rattle.room_model.specs.Image.{KeptCounts, surviving_lines, surviving_rooms, image_of, lines_at, words_at}
use Rattle.formatting.specs.Laws.{FormattedImageLaw}
use Rattle.formatting.proofs.ByRoom.{formatted_lines, formatted_words, formatted_quiet, eight_words}
use Rattle.formatting.proofs.Memory.{formatted_rooms, formatted_banks}

-- a room of what is left of banks
room_left : (choice : KeptCounts) (r : ℕ) (bs : List BankState) (k : ℕ)
    → slice_index_or (surviving_rooms choice r bs) k [] ≡ surviving_lines (choice (r + k)) 0 (bank_at bs k).lines
room_left choice r [] k = refl
room_left choice r (b ∷ bs) zero = ap (λ (n : ℕ). surviving_lines (choice n) 0 b.lines) (omega arith)
room_left choice r (b ∷ bs) (suc k) = room_left choice (suc r) bs k ∙ ap (λ (n : ℕ). surviving_lines (choice n) 0 (bank_at bs k).lines) (omega arith)

-- as many rooms are left as there are
length-left : (choice : KeptCounts) (r : ℕ) (bs : List BankState) → length (surviving_rooms choice r bs) ≡ length bs
length-left choice r [] = refl
length-left choice r (b ∷ bs) = ap suc (length-left choice (suc r) bs)

-- the words in memory of these lines
abbrev bases : List LineState → List (List ℕ)
bases ls = map (λ (l : LineState). l.base) ls

-- of lines without pending stores these words are left
quiet_left : (choice : ℕ → ℕ) (i : ℕ) (ls : List LineState) → ((k : ℕ) → (line_at ls k).pending ≡ []) → surviving_lines choice i ls ≡ bases ls
quiet_left choice i [] quiet = refl
quiet_left choice i (l ∷ ls) quiet =
    ap (λ (words : List ℕ). words ∷ surviving_lines choice (suc i) ls) (ap (λ (ss : List Store). applied l.base (take (choice i) ss)) (quiet 0) ∙ ap (applied l.base) (none_taken (choice i)))
    ∙ ap (λ (rest : List (List ℕ)). l.base ∷ rest) (quiet_left choice (suc i) ls (λ k. quiet (suc k)))
  where
    none_taken : (n : ℕ) → ◌≡◌ {A = List Store} (take n []) []
    none_taken zero = refl
    none_taken (suc n) = refl

-- a line of them
base_at : (ls : List LineState) (line : ℕ) → slice_index_or (bases ls) line [] ≡ (line_at ls line).base
base_at [] line = refl
base_at (l ∷ ls) zero = refl
base_at (l ∷ ls) (suc line) = base_at ls line

length-bases : (ls : List LineState) → length (bases ls) ≡ length ls
length-bases [] = refl
length-bases (l ∷ ls) = ap suc (length-bases ls)

-- the lines that are left of a room
left_at : (z : Sizes) (choice : KeptCounts) (room : ℕ) → room < room_count z → lines_at (image_of (formatted_memory z) choice) room ≡ bases (formatted_bank z room).lines
left_at z choice room within =
    room_left choice 0 (formatted_memory z) room
    ∙ ap (λ (b : BankState). surviving_lines (choice (0 + room)) 0 b.lines) (formatted_banks z room within)
    ∙ quiet_left (choice (0 + room)) 0 (formatted_bank z room).lines (formatted_quiet z room)

-- a line that is left
line_left : (z : Sizes) (choice : KeptCounts) (room line : ℕ) → room < room_count z → words_at (image_of (formatted_memory z) choice) room line ≡ (line_at (formatted_bank z room).lines line).base
line_left z choice room line within = ap (λ (ls : List (List ℕ)). slice_index_or ls line []) (left_at z choice room within) ∙ base_at (formatted_bank z room).lines line

-- the law on the image
pub formatted_image : FormattedImageLaw
formatted_image z choice valid = record {
  shape = record {
    rooms = length-left choice 0 (formatted_memory z) ∙ formatted_rooms z;
    lines = λ room within. ap length (left_at z choice room within) ∙ length-bases (formatted_bank z room).lines ∙ formatted_lines z room;
    words = λ room line within among. ap length (line_left z choice room line within) ∙ eight_words z room line among;
  };
  words = λ room line w within among few. ap (λ (words : List ℕ). slice_index words w) (line_left z choice room line within) ∙ formatted_words z room line w valid among;
}
