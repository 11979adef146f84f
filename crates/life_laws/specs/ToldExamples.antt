-- Reports of lives that were worked out by hand: some that tell of their life, and for each clause one that meets the others and not it.
use Rattle.std.specs.Prelude.{ℕ, Bool, true, false, List, [], ◌∷◌, drop}
use Rattle.life_model.specs.declared.life.Mark.{Mark}
use Rattle.life_model.specs.declared.life.Outcome.TheVariants.{Finished, Cut}
use Rattle.life_model.specs.Told.{ReportState, TellsOf}
use Rattle.life_laws.specs.Examples.{marked, entry}
use Rattle.life_laws.specs.CutExamples.{putting, put_done, blank, header_line, line_of_epoch, memory_with, map_bank, closed_with, pending_write, fenced_write, first_kept, recovered_put, half_put}
use Rattle.room_model.specs.Image.{image_of, nothing_kept}
use Rattle.line_memory.specs.Line.{BankState}
use Rattle.seq_object.specs.declared.command.Command.TheVariants.{Put}
use Rattle.seq_object.specs.declared.command.Reply.TheVariants.{Full}

-- the report of the put, with these marks and so many write-backs
abbrev pub put_report : List Mark → ℕ → ReportState
put_report marks flushed = record { resumed = false; began = 1; entries = put_done; marks = marks; held = []; flushed = flushed; outcome = Finished }

-- the report of a life that was cut before its first entry, told as a resume or not, with this beginning and these held rooms
abbrev pub cut_report : Bool → ℕ → List ℕ → ReportState
cut_report resumed began held = record { resumed = resumed; began = began; entries = []; marks = []; held = held; flushed = 0; outcome = Cut }

-- formatted memory, over which it was led
abbrev pub new_memory : List BankState
new_memory = memory_with header_line blank (line_of_epoch 1)

-- the report of the life that was resumed behind the put, and whose recovery was acknowledged
abbrev pub resumed_report : ReportState
resumed_report = record { resumed = true; began = 2; entries = []; marks = marked 3 0 ∷ []; held = []; flushed = 0; outcome = Finished }

-- the memory that the put left, in which so many write-backs were counted
abbrev pub counted_memory : ℕ → List BankState
counted_memory flushed = record map_bank { write_backs = flushed } ∷ drop 1 fenced_write

-- what reports tell
pub record ToldExamples : Type 0 where
  pub finished : TellsOf putting [] 0 (put_report (marked 2 1 ∷ []) 0) fenced_write
  pub cut : TellsOf putting [] 0 (cut_report false 1 []) new_memory
  -- a life that was resumed from the image that a cut left of the put
  pub resumed : TellsOf recovered_put.opening (image_of pending_write first_kept) 0 resumed_report recovered_put.memory
  -- a life that was cut within the put, whose room is named
  pub cut_within : TellsOf putting [] 0 (cut_report false 1 (0 ∷ [])) (half_put blank)
  -- four write-backs for the put, and four for its closing and one more
  pub most : TellsOf putting [] 0 (put_report (marked 2 1 ∷ []) 8) (counted_memory 8)
  -- a resume told over an image of another epoch than it goes on from
  pub other_image : TellsOf recovered_put.opening (image_of (closed_with (line_of_epoch 4)) nothing_kept) 0 resumed_report recovered_put.memory → ⊥
  -- a room that was cut within the put, and is not named
  pub not_named : TellsOf putting [] 0 (cut_report false 1 []) (half_put blank) → ⊥
  -- one write-back more than there may be, which the memory did count
  pub too_many : TellsOf putting [] 0 (put_report (marked 2 1 ∷ []) 9) (counted_memory 9) → ⊥
  -- write-backs that the memory did not count
  pub other_flushed : TellsOf putting [] 0 (put_report (marked 2 1 ∷ []) 1) fenced_write → ⊥
  -- write-backs that it had counted before
  pub counted_before : TellsOf putting [] 1 (put_report (marked 2 1 ∷ []) 0) fenced_write → ⊥
  -- a mark of another epoch
  pub other_epoch : TellsOf putting [] 0 (put_report (marked 3 1 ∷ []) 0) fenced_write → ⊥
  -- a room that there is not
  pub no_such_room : TellsOf putting [] 0 (cut_report false 1 (99 ∷ [])) new_memory → ⊥
  -- an end that is none: a command is left
  pub other_end : TellsOf putting [] 0 (record (cut_report false 1 []) { outcome = Finished }) new_memory → ⊥
  -- a reply that is not the object's
  pub other_reply : TellsOf putting [] 0 (record (put_report (marked 2 1 ∷ []) 0) { entries = entry 0 0 (Put 5 7) Full ∷ [] }) fenced_write → ⊥
  -- another beginning
  pub other_beginning : TellsOf putting [] 0 (cut_report false 2 []) new_memory → ⊥
  -- a start that is told as a resume
  pub told_as_resume : TellsOf putting [] 0 (cut_report true 1 []) new_memory → ⊥
