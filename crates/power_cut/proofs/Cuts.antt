-- The image that a choice leaves of a memory, room by room.
use Rattle.std.proofs.Common.{◌≡◌, ℕ, zero, suc, ◌+◌, ◌<◌, ◌≤◌, List, [], ◌∷◌, ◌++◌, length, drop, ap, sym, ◌∙◌, arith, append_assoc, add-one}
use Rattle.std.specs.List.{All}
use Rattle.std.proofs.lemmas.List.{drop_more}
use Rattle.std.proofs.lemmas.List.Elements.{All-get_or}
use Rattle.line_memory.specs.Line.{LineState, BankState, survivor, bank_at, no_bank, all_lines, AreLines}
use Rattle.line_memory.specs.Laws.{LeftWordsLaw}
use Rattle.seq_object.specs.Sizes.{room_count, line_count}
use Rattle.room_model.specs.Image.{ImageRooms as Rooms, KeptCounts as Choosing, HasShape, lines_at, words_at, surviving_lines, surviving_rooms, image_of, HasRooms}
use Rattle.power_cut.specs.Image.{IsLineOfWords, HaveWords}
use Rattle.power_cut.specs.Cut.{first_line}
use Rattle.power_cut.proofs.Each.{All-none, All-cons}
use Rattle.seq_object.specs.declared.sizes.Sizes.{Sizes}

-- the lines before one more room
pub first_line-more : (memory : List BankState) (room : ℕ) → room < length memory → first_line memory (room + 1) ≡ first_line memory room + length (bank_at memory room).lines
first_line-more [] room within = absurd (omega arith)
first_line-more (b ∷ bs) zero within = omega arith
first_line-more (b ∷ bs) (suc room) within =
    let later = first_line-more bs room (omega arith) in
    let next : suc room + 1 ≡ suc (room + 1) = omega arith in
    ap (first_line (b ∷ bs)) next ∙ omega (arith, later)

-- the lines before a room are among all
pub first_line-le : (memory : List BankState) (room : ℕ) → first_line memory room ≤ all_lines memory
first_line-le [] zero = omega arith
first_line-le [] (suc room) = omega arith
first_line-le (b ∷ bs) zero = omega arith
first_line-le (b ∷ bs) (suc room) = omega (arith, first_line-le bs room)

-- what is left of lines has eight words of 64 bits each
pub All-lines_left : LeftWordsLaw → (f : ℕ → ℕ) (i : ℕ) (lines : List LineState) → AreLines lines → All IsLineOfWords (surviving_lines f i lines)
All-lines_left law f i [] whole = All-none IsLineOfWords
All-lines_left law f i (l ∷ ls) whole =
    let words = law l (f i) (whole 0 (omega arith)) in
    let first : IsLineOfWords (survivor l (f i)) = record { eight = words.0; small = words.1 } in
    All-cons IsLineOfWords (survivor l (f i)) (surviving_lines f (suc i) ls) first (All-lines_left law f (suc i) ls (λ k within. whole (suc k) (omega arith)))

-- one more room is left
pub rooms_left-more : (choice : Choosing) (memory : List BankState) (room : ℕ) (made total : Rooms) (lines : List (List ℕ)) → room < length memory → lines ≡ surviving_lines (choice room) 0 (bank_at memory room).lines
    → made ++ surviving_rooms choice room (drop room memory) ≡ total → (made ++ lines ∷ []) ++ surviving_rooms choice (room + 1) (drop (room + 1) memory) ≡ total
rooms_left-more choice memory room made total lines within is so_far =
    let opened : surviving_rooms choice room (drop room memory) ≡ surviving_lines (choice room) 0 (bank_at memory room).lines ∷ surviving_rooms choice (suc room) (drop (room + 1) memory) = ap (surviving_rooms choice room) (drop_more memory room no_bank within) in
    let next : surviving_rooms choice (room + 1) (drop (room + 1) memory) ≡ surviving_rooms choice (suc room) (drop (room + 1) memory) = ap (λ (n : ℕ). surviving_rooms choice n (drop (room + 1) memory)) (add-one room) in
    append_assoc made (lines ∷ []) (surviving_rooms choice (room + 1) (drop (room + 1) memory))
    ∙ ap (λ (rest : Rooms). made ++ lines ∷ rest) next
    ∙ ap (λ (ls : List (List ℕ)). made ++ ls ∷ surviving_rooms choice (suc room) (drop (room + 1) memory)) is
    ∙ ap (λ (rest : Rooms). made ++ rest) (sym opened)
    ∙ so_far

-- as many rooms are left as there are
length-rooms_left : (choice : Choosing) (r : ℕ) (memory : List BankState) → length (surviving_rooms choice r memory) ≡ length memory
length-rooms_left choice r [] = cc
length-rooms_left choice r (b ∷ bs) = ap suc (length-rooms_left choice (suc r) bs)

-- as many lines are left as there are
length-lines_left : (f : ℕ → ℕ) (i : ℕ) (lines : List LineState) → length (surviving_lines f i lines) ≡ length lines
length-lines_left f i [] = cc
length-lines_left f i (l ∷ ls) = ap suc (length-lines_left f (suc i) ls)

-- a room that is left has its lines
length-lines_at : (choice : Choosing) (r : ℕ) (memory : List BankState) (room : ℕ) → room < length memory → length (lines_at (surviving_rooms choice r memory) room) ≡ length (bank_at memory room).lines
length-lines_at choice r [] room within = absurd (omega arith)
length-lines_at choice r (b ∷ bs) zero within = length-lines_left (choice r) 0 b.lines
length-lines_at choice r (b ∷ bs) (suc room) within = length-lines_at choice (suc r) bs room (omega arith)

-- a line of rooms that have words has eight
pub eight_words : (rooms : Rooms) (room line : ℕ) → HaveWords rooms → room < length rooms → line < length (lines_at rooms room) → length (words_at rooms room line) ≡ 8
eight_words rooms room line words within among =
    let own : All IsLineOfWords (lines_at rooms room) = All-get_or (λ (lines : List (List ℕ)). All IsLineOfWords lines) rooms room [] within words in
    (All-get_or IsLineOfWords (lines_at rooms room) line [] among own).eight

-- rooms have a shape where they have so many lines of words each
pub has_shape : (z : Sizes) (rooms : Rooms) → length rooms ≡ room_count z → ((room : ℕ) → room < room_count z → length (lines_at rooms room) ≡ line_count z room) → HaveWords rooms → HasShape z rooms
has_shape z rooms many lines words = record {
  rooms = many;
  lines = lines;
  words = λ room line within among. eight_words rooms room line words (omega (arith, many)) (omega (arith, lines room within));
}

-- what a choice leaves of a memory of these sizes has their shape
pub image_of-shape : (z : Sizes) (memory : List BankState) (choice : Choosing) (rooms : Rooms) → rooms ≡ image_of memory choice → HasRooms z memory → HaveWords rooms → HasShape z rooms
image_of-shape z memory choice rooms is has words =
    has_shape z rooms
    (ap (λ (rs : Rooms). length rs) is ∙ length-rooms_left choice 0 memory ∙ has.rooms)
    (λ room within. ap (λ (rs : Rooms). length (lines_at rs room)) is ∙ length-lines_at choice 0 memory room (omega (arith, has.rooms)) ∙ has.lines room within)
    words
