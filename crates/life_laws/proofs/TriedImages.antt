-- The definitions of cells and images tried on lines and memories that were worked out by hand.
use Rattle.std.proofs.Common.{◌≡◌, ℕ, ◌+◌, ◌<◌, zero, suc, List, [], ◌∷◌, length, take, refl, sym, ap, ◌∙◌, subst, arith}
use Rattle.std.specs.Prelude.{slice_index}
use Rattle.seq_object.specs.Object.{shard_pairs}
use Rattle.seq_object.specs.History.{first_state}
use Rattle.line_memory.specs.declared.store.Store.{Store}
use Rattle.line_memory.specs.Line.{LineState, BankState, applied, survivor, line_at, line_of, quiet_line, store_to, IsQuiet}
use Rattle.room_model.specs.Cell.{IsSafe}
use Rattle.room_model.specs.MapRoom.{live_layout}
use Rattle.room_model.specs.Formatted.{formatted, formatted_word}
use Rattle.room_model.specs.Image.{image_of, nothing_kept, lines_at, recovered_room, IsFormatted}
use Rattle.life_laws.specs.CutExamples.{small, blank, blanks, formatted_from, header_line, line_of_epoch, put_stores, memory_with, CellExamples, ImageExamples, all_stored}
use Rattle.life_laws.proofs.Survivors.{none_taken, words_left}
use Rattle.life_laws.proofs.Formats.{past_header, formatted_recovers, layout_in_use}
use Rattle.life_laws.proofs.Memories.{below_eight, broken, small_valid}
use Rattle.seq_object.specs.Sizes.{line_count}

-- cells

-- five stores of the first write of an epoch, and what each number of them leaves
write_kept : (k : ℕ) → IsSafe 1 (0 ∷ 9 ∷ 0 ∷ []) (survivor (line_at (all_stored (formatted_from 9) (take 5 put_stores)).lines 0) k)
write_kept zero = record { eight = refl; tag = omega arith; recovers = refl }
write_kept (suc zero) = record { eight = refl; tag = omega arith; recovers = refl }
write_kept (suc (suc zero)) = record { eight = refl; tag = omega arith; recovers = refl }
write_kept (suc (suc (suc zero))) = record { eight = refl; tag = omega arith; recovers = refl }
write_kept (suc (suc (suc (suc zero)))) = record { eight = refl; tag = omega arith; recovers = refl }
write_kept (suc (suc (suc (suc (suc k))))) = subst (λ (ss : List Store). IsSafe 1 (0 ∷ 9 ∷ 0 ∷ [])
    (applied header_line.base (store_to 3 0 ∷ store_to 4 9 ∷ store_to 5 0 ∷ store_to 6 1 ∷ store_to 1 10 ∷ ss)))
    (sym (none_taken k)) (record { eight = refl; tag = omega arith; recovers = refl })

-- one survivor that holds another triple, or another tag
pub cells_tried : CellExamples
cells_tried = record {
  whole_write = write_kept;
  record_first = λ kept. absurd (omega (arith, ap (λ (t : List ℕ). slice_index t 1) (kept 1).recovers));
  tag_first = λ kept. absurd (omega (arith, ap (λ (t : List ℕ). slice_index t 1) (kept 1).recovers));
  later_tag = λ kept. absurd (omega (arith, (kept 1).tag));
  seven_words = λ kept. absurd (omega (arith, (kept 0).eight));
}

-- images

-- formatted memory
abbrev formatted_memory : List BankState
formatted_memory = memory_with header_line blank (line_of_epoch 1)

-- formatted memory whose fresh line was moved
abbrev lost_memory : List BankState
lost_memory = memory_with (quiet_line (0 ∷ 10 ∷ 0 ∷ 0 ∷ 0 ∷ 0 ∷ 0 ∷ 0 ∷ [])) blank (line_of_epoch 1)

-- each word of a line of zeros is 0
pub zero_word : (w : ℕ) → slice_index blank.base w ≡ 0
zero_word zero = refl
zero_word (suc zero) = refl
zero_word (suc (suc zero)) = refl
zero_word (suc (suc (suc zero))) = refl
zero_word (suc (suc (suc (suc zero)))) = refl
zero_word (suc (suc (suc (suc (suc zero))))) = refl
zero_word (suc (suc (suc (suc (suc (suc zero)))))) = refl
zero_word (suc (suc (suc (suc (suc (suc (suc zero))))))) = refl
zero_word (suc (suc (suc (suc (suc (suc (suc (suc w)))))))) = refl

-- each of the lines of zeros is one
blank_at : (n k : ℕ) → k < n → line_at (blanks n) k ≡ blank
blank_at zero k lt = absurd (omega arith)
blank_at (suc n) zero lt = refl
blank_at (suc n) (suc k) lt = blank_at n k (omega arith)

-- nothing is pending on it, or past the last of them
quiet_blank : (n k : ℕ) → (line_at (blanks n) k).pending ≡ []
quiet_blank zero k = refl
quiet_blank (suc n) zero = refl
quiet_blank (suc n) (suc k) = quiet_blank n k

-- a word of a formatted room
room_word : (first line w : ℕ) → line < 16 → w < 8 → slice_index (line_at (formatted_from first).lines line).base w ≡ formatted first line w
room_word first zero w lt few = below_eight (λ w. slice_index (line_at (formatted_from first).lines 0).base w ≡ formatted first 0 w)
    refl refl refl refl refl refl refl refl w few
room_word first (suc k) w lt few =
    ap (λ (l : LineState). slice_index l.base w) (blank_at 15 k (omega arith)) ∙ zero_word w ∙ sym (past_header first (suc k) w (omega arith))

-- a word of formatted memory
memory_word : (room line w : ℕ) → room < 4 → line < line_count small room → w < 8
    → slice_index (line_of formatted_memory room line).base w ≡ formatted_word live_layout small room line w
memory_word zero line w lt inside few = room_word 9 line w inside few
memory_word (suc zero) line w lt inside few = room_word 2 line w inside few
memory_word (suc (suc zero)) zero w lt inside few = zero_word w
memory_word (suc (suc zero)) (suc line) w lt inside few = absurd (omega (arith, inside))
memory_word (suc (suc (suc zero))) zero w lt inside few =
    below_eight (λ w. slice_index (line_of_epoch 1).base w ≡ formatted_word live_layout small 3 0 w) refl refl refl refl refl refl refl refl w few
memory_word (suc (suc (suc zero))) (suc line) w lt inside few = absurd (omega (arith, inside))
memory_word (suc (suc (suc (suc room)))) line w lt inside few = absurd (omega arith)

-- a line of formatted memory has eight words
memory_line : (room line : ℕ) → room < 4 → line < line_count small room → length (line_of formatted_memory room line).base ≡ 8
memory_line zero zero lt inside = refl
memory_line zero (suc k) lt inside = ap (λ (l : LineState). length l.base) (blank_at 15 k (omega (arith, inside)))
memory_line (suc zero) zero lt inside = refl
memory_line (suc zero) (suc k) lt inside = ap (λ (l : LineState). length l.base) (blank_at 15 k (omega (arith, inside)))
memory_line (suc (suc zero)) zero lt inside = refl
memory_line (suc (suc zero)) (suc line) lt inside = absurd (omega (arith, inside))
memory_line (suc (suc (suc zero))) zero lt inside = refl
memory_line (suc (suc (suc zero))) (suc line) lt inside = absurd (omega (arith, inside))
memory_line (suc (suc (suc (suc room)))) line lt inside = absurd (omega arith)

-- each room has its lines
memory_lines : (room : ℕ) → room < 4 → length (lines_at (image_of formatted_memory nothing_kept) room) ≡ line_count small room
memory_lines zero lt = refl
memory_lines (suc zero) lt = refl
memory_lines (suc (suc zero)) lt = refl
memory_lines (suc (suc (suc zero))) lt = refl
memory_lines (suc (suc (suc (suc room)))) lt = absurd (omega arith)

-- what formatted memory holds is a formatted image
pub formatted_image : IsFormatted live_layout small (image_of formatted_memory nothing_kept)
formatted_image = record {
  shape = record {
    rooms = refl;
    lines = memory_lines;
    words = λ room line lt inside. ap length (words_left formatted_memory nothing_kept room line) ∙ memory_line room line lt inside;
  };
  words = λ room line w lt inside few.
      ap (λ (words : List ℕ). slice_index words w) (words_left formatted_memory nothing_kept room line) ∙ memory_word room line w lt inside few;
}

-- nothing is pending in it
pub formatted_quiet : IsQuiet formatted_memory
formatted_quiet zero zero = refl
formatted_quiet zero (suc line) = quiet_blank 15 line
formatted_quiet (suc zero) zero = refl
formatted_quiet (suc zero) (suc line) = quiet_blank 15 line
formatted_quiet (suc (suc zero)) zero = refl
formatted_quiet (suc (suc zero)) (suc line) = refl
formatted_quiet (suc (suc (suc zero))) zero = refl
formatted_quiet (suc (suc (suc zero))) (suc line) = refl
formatted_quiet (suc (suc (suc (suc room)))) line = refl

-- the clause that each of them meets or breaks
pub images_tried : ImageExamples
images_tried = record {
  formatted = formatted_image;
  lawful = (first_state small, (formatted_recovers live_layout small (image_of formatted_memory nothing_kept) layout_in_use (omega arith) small_valid formatted_image).1);
  no_epoch = λ lawful. absurd (omega (arith, lawful.1.epoch));
  no_such_epoch = λ lawful. absurd (omega (arith, lawful.1.epoch_fits));
  tag_above = λ lawful. absurd (omega (arith, lawful.1.tags 2 0 (omega arith) (omega arith)));
  lost_line = λ lawful. broken (recovered_room small (image_of lost_memory nothing_kept) 0) (shard_pairs small 0 lawful.0.contents.pairs) refl refl
      (below_eight (λ b. recovered_room small (image_of lost_memory nothing_kept) 0 (b + 1) 0 ≡ 0) refl refl refl refl refl refl refl refl) (lawful.1.rooms 0 (omega arith));
  short_line = λ lawful. absurd (omega (arith, lawful.1.shape.words 2 0 (omega arith) (omega arith)));
  no_thread = λ lawful. absurd (omega (arith, lawful.1.valid.some_threads));
  no_room = λ lawful. absurd (omega (arith, lawful.1.shape.rooms));
  torn_cells = refl;
  torn_rooms = refl;
}
