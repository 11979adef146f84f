-- Memories and images that were worked out by hand, and what they stand for: some that stand for a state or recover to it, and for each
-- clause one that meets the others and not it.
use Rattle.std.specs.Prelude.{List, [], ◌∷◌, ◌++◌}
use Rattle.std.specs.FinMap.{empty}
use Rattle.seq_object.specs.Object.{no_contents}
use Rattle.seq_object.specs.History.{State, first_state, first_points}
use Rattle.line_memory.specs.Line.{BankState, quiet_line, stored}
use Rattle.room_model.specs.MapRoom.{live_layout}
use Rattle.room_model.specs.Image.{ImageRooms, image_of, nothing_kept, StandsAt, Recovers, IsLawful, IsFormatted}
use Rattle.life_laws.specs.CutExamples.{small, blank, blanks, bank_with, formatted_from, header_line, line_of_epoch, memory_with, no_epoch_memory, threadless, threadless_memory, half_put}
use Rattle.life_laws.specs.ToldExamples.{new_memory}

-- formatted memory and a room more
abbrev pub more_rooms : List BankState
more_rooms = new_memory ++ bank_with (blank ∷ []) ∷ []

-- formatted memory, but that its map room has 17 lines
abbrev pub more_lines : List BankState
more_lines = bank_with (header_line ∷ blanks 16) ∷ formatted_from 2 ∷ bank_with (blank ∷ []) ∷ bank_with (line_of_epoch 1 ∷ []) ∷ []

-- the first state, but that the queue has an item
abbrev pub item_state : State
item_state = record { contents = record { pairs = empty; items = 6 ∷ [] }; points = first_points 1 }

-- the first state, but that no thread has a restart point
abbrev pub no_point_state : State
no_point_state = record { contents = no_contents; points = [] }

-- the first state, but that the thread has done one command
abbrev pub one_done_state : State
one_done_state = record { contents = no_contents; points = record { position = 1 } ∷ [] }

-- what memory stands for
pub record StandsExamples : Type 0 where
  -- formatted memory stands at epoch 1 for the first state
  pub formatted : StandsAt live_layout small 1 new_memory (first_state small)
  -- and so it does while the first write of a put is pending, with its backup and tag
  pub half : StandsAt live_layout small 1 (half_put blank) (first_state small)
  -- no thread
  pub no_thread : StandsAt live_layout threadless 1 threadless_memory (first_state threadless) → ⊥
  -- epochs are from 1 to 4294967295
  pub no_epoch : StandsAt live_layout small 0 no_epoch_memory (first_state small) → ⊥
  pub no_such_epoch : StandsAt live_layout small 4294967296 new_memory (first_state small) → ⊥
  -- a room too many, and a line too many
  pub room_more : StandsAt live_layout small 1 more_rooms (first_state small) → ⊥
  pub line_more : StandsAt live_layout small 1 more_lines (first_state small) → ⊥
  -- seven words in the super room's line
  pub short_line : StandsAt live_layout small 1 (memory_with header_line blank (quiet_line (1 ∷ 0 ∷ 0 ∷ 0 ∷ 0 ∷ 0 ∷ 0 ∷ []))) (first_state small) → ⊥
  -- a write that is pending without its backup
  pub no_backup : StandsAt live_layout small 1 (memory_with (stored header_line 1 10) blank (line_of_epoch 1)) (first_state small) → ⊥
  -- an item that the queue room does not have
  pub other_item : StandsAt live_layout small 1 new_memory item_state → ⊥
  -- no restart point for the thread, and another than its room has
  pub no_point : StandsAt live_layout small 1 new_memory no_point_state → ⊥
  pub other_point : StandsAt live_layout small 1 new_memory one_done_state → ⊥

-- the image of formatted memory
abbrev pub new_image : ImageRooms
new_image = image_of new_memory nothing_kept

-- what images recover to
pub record RecoverExamples : Type 0 where
  pub first : Recovers live_layout small new_image (first_state small)
  -- an item that the queue room does not have
  pub other_item : Recovers live_layout small new_image item_state → ⊥
  -- no restart point for the thread, and another than its room has
  pub no_point : Recovers live_layout small new_image no_point_state → ⊥
  pub other_point : Recovers live_layout small new_image one_done_state → ⊥
  -- an image with a room too many, or a line, is not lawful
  pub room_more : IsLawful live_layout small (image_of more_rooms nothing_kept) → ⊥
  pub line_more : IsLawful live_layout small (image_of more_lines nothing_kept) → ⊥
  -- nor is it formatted, though each word is as it should be
  pub formatted_more : IsFormatted live_layout small (image_of more_rooms nothing_kept) → ⊥
  -- a lawful image is not formatted where word 7 of a line is 1
  pub other_word : IsFormatted live_layout small (image_of (memory_with header_line (quiet_line (0 ∷ 0 ∷ 0 ∷ 0 ∷ 0 ∷ 0 ∷ 0 ∷ 1 ∷ [])) (line_of_epoch 1)) nothing_kept) → ⊥
