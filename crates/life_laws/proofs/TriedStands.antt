-- What memories and images stand for, tried on those that were worked out by hand.
use Rattle.std.proofs.Common.{◌≡◌, ℕ, ◌+◌, ◌<◌, ◌≤◌, zero, suc, List, [], ◌∷◌, length, take, refl, sym, ap, ◌∙◌, subst, arith}
use Rattle.std.specs.Prelude.{slice_index}
use Rattle.seq_object.specs.Sizes.{line_count}
use Rattle.seq_object.specs.Object.{no_contents}
use Rattle.seq_object.specs.History.{first_state, point_at}
use Rattle.line_memory.specs.Line.{LineState, BankState, survivor, line_at, line_of, bank_at}
use Rattle.room_model.specs.Cell.{tag_of, triple_of, IsRecoverable}
use Rattle.room_model.specs.MapRoom.{live_layout}
use Rattle.room_model.specs.Rooms.{StandsFor, point_in}
use Rattle.room_model.specs.Banks.{memory_words}
use Rattle.room_model.specs.Image.{StandsAt, recovered_room}
use Rattle.seq_object.specs.declared.history.RestartPoint.{RestartPoint}
use Rattle.room_laws.proofs.StockLaws.{queue_header_law}
use Rattle.life_laws.specs.CutExamples.{small, blank, blanks, formatted_from, header_line, line_of_epoch, put_stores, memory_with, all_stored}
use Rattle.life_laws.specs.ToldExamples.{new_memory}
use Rattle.life_laws.specs.StandsExamples.{new_image, StandsExamples, RecoverExamples}
use Rattle.life_laws.proofs.Survivors.{quiet_left}
use Rattle.life_laws.proofs.Formats.{formatted_recovers, layout_in_use}
use Rattle.life_laws.proofs.Memories.{below_eight, no_nodes, no_items, small_valid, cell_at, quiet_cell, IsQuietCell}
use Rattle.life_laws.proofs.TriedImages.{cells_tried, formatted_image}

-- a cell with nothing pending is recoverable
quiet_recoverable : (l : LineState) → IsQuietCell l → IsRecoverable 1 l
quiet_recoverable l cell kept =
    let same : survivor l kept ≡ l.base = quiet_left l kept cell.pending in
    record { eight = ap length same ∙ cell.eight; tag = subst (λ (words : List ℕ). tag_of words ≤ 1) (sym same) cell.tag; recovers = ap (triple_of 1) same }

-- so are lines of zeros
blank_recoverable : (i : ℕ) → i < 15 → IsRecoverable 1 (line_at (blanks 15) i)
blank_recoverable i lt = quiet_recoverable (line_at (blanks 15) i) (quiet_cell (line_at (blanks 15) i) (cell_at (blanks 15) i refl lt))

-- and those of a formatted room
formatted_recoverable : (i : ℕ) → i < 16 → IsRecoverable 1 (line_at (formatted_from 2).lines i)
formatted_recoverable i lt =
    quiet_recoverable (line_at (formatted_from 2).lines i) (quiet_cell (line_at (formatted_from 2).lines i) (cell_at (formatted_from 2).lines i refl lt))

module _ (header : LineState) (kept : IsRecoverable 1 header) (words : triple_of 1 header.base ≡ 0 ∷ 9 ∷ 0 ∷ []) where
  -- formatted memory with this header in its map room
  abbrev memory : List BankState
  memory = memory_with header blank (line_of_epoch 1)

  -- each room has its lines
  lines : (room : ℕ) → room < 4 → length (bank_at memory room).lines ≡ line_count small room
  lines zero lt = refl
  lines (suc zero) lt = refl
  lines (suc (suc zero)) lt = refl
  lines (suc (suc (suc zero))) lt = refl
  lines (suc (suc (suc (suc room)))) lt = absurd (omega arith)

  -- its cells are recoverable
  cells : (room line : ℕ) → room < 3 → line < line_count small room → IsRecoverable 1 (line_of memory room line)
  cells zero zero lt inside = kept
  cells zero (suc i) lt inside = blank_recoverable i (omega (arith, inside))
  cells (suc zero) i lt inside = formatted_recoverable i inside
  cells (suc (suc zero)) zero lt inside = quiet_recoverable blank (quiet_cell blank refl)
  cells (suc (suc zero)) (suc i) lt inside = absurd (omega (arith, inside))
  cells (suc (suc (suc room))) i lt inside = absurd (omega arith)

  -- its rooms stand for nothing
  rooms : (room : ℕ) → room ≤ 1 → StandsFor live_layout small room (memory_words 1 (bank_at memory room)) no_contents
  rooms zero le = no_nodes (memory_words 1 (bank_at memory 0)) (ap (λ (t : List ℕ). slice_index t 0) words) (ap (λ (t : List ℕ). slice_index t 1) words)
      (ap (λ (t : List ℕ). slice_index t 2) words)
      (below_eight (λ b. memory_words 1 (bank_at memory 0) (b + 1) 0 ≡ 0) refl refl refl refl refl refl refl refl)
  rooms (suc zero) le = no_items (memory_words 1 (bank_at memory 1)) refl refl refl refl refl
  rooms (suc (suc room)) le = absurd (omega arith)

  -- and the thread has done nothing
  points : (thread : ℕ) → thread < 1
      → point_at (first_state small).points thread ≡ point_in live_layout (memory_words 1 (bank_at memory (1 + 1 + thread)))
  points zero lt = refl
  points (suc thread) lt = absurd (omega arith)

  -- so it stands for the first state
  stands_with : StandsAt live_layout small 1 memory (first_state small)
  stands_with = record {
    valid = small_valid;
    some = omega arith;
    fits = omega arith;
    rooms = record { rooms = refl; lines = lines };
    super_words = λ kept. ap length (quiet_left (line_of_epoch 1) kept refl);
    cells = cells;
    stands = rooms;
    threads = refl;
    points = points;
  }

-- the header within the first write of the put
abbrev half_header : LineState
half_header = line_at (all_stored (formatted_from 9) (take 5 put_stores)).lines 0

-- the clause that holds or breaks
pub stands_tried : StandsExamples
stands_tried = record {
  formatted = stands_with header_line (quiet_recoverable header_line (quiet_cell header_line refl)) refl;
  half = stands_with half_header cells_tried.whole_write refl;
  no_thread = λ s. absurd (omega (arith, s.valid.some_threads));
  no_epoch = λ s. absurd (omega (arith, s.some));
  no_such_epoch = λ s. absurd (omega (arith, s.fits));
  room_more = λ s. absurd (omega (arith, s.rooms.rooms));
  line_more = λ s. absurd (omega (arith, s.rooms.lines 0 (omega arith)));
  short_line = λ s. absurd (omega (arith, s.super_words 0));
  no_backup = λ s. cells_tried.record_first (s.cells 0 0 (omega arith) (omega arith));
  other_item = λ s. absurd (omega (arith, (queue_header_law small (memory_words 1 (bank_at new_memory 1)) (6 ∷ []) (s.stands 1 (omega arith))).count));
  no_point = λ s. absurd (omega (arith, s.threads));
  other_point = λ s. absurd (omega (arith, ap (λ (p : RestartPoint). p.position) (s.points 0 (omega arith))));
}

-- the clause that holds or breaks
pub recovers_tried : RecoverExamples
recovers_tried = record {
  first = (formatted_recovers live_layout small new_image layout_in_use (omega arith) small_valid formatted_image).1;
  other_item = λ s. absurd (omega (arith, (queue_header_law small (recovered_room small new_image 1) (6 ∷ []) (s.rooms 1 (omega arith))).count));
  no_point = λ s. absurd (omega (arith, s.threads));
  other_point = λ s. absurd (omega (arith, ap (λ (p : RestartPoint). p.position) (s.points 0 (omega arith))));
  room_more = λ lawful. absurd (omega (arith, lawful.1.shape.rooms));
  line_more = λ lawful. absurd (omega (arith, lawful.1.shape.lines 0 (omega arith)));
  formatted_more = λ f. absurd (omega (arith, f.shape.rooms));
  other_word = λ f. absurd (omega (arith, f.words 2 0 7 (omega arith) (omega arith) (omega arith)));
}
