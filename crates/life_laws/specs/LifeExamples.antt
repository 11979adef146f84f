-- What a power cut leaves of the life of a put, and which lives are one of a list: for each clause a value that meets the others and not it.
use Rattle.std.specs.Prelude.{◌≡◌, List, [], ◌∷◌}
use Rattle.seq_object.specs.declared.command.Command.TheVariants.{Put}
use Rattle.seq_object.specs.declared.command.Reply.TheVariants.{New, Full}
use Rattle.line_memory.specs.Line.{stored}
use Rattle.room_model.specs.Image.{image_of, nothing_kept}
use Rattle.seq_object.specs.declared.history.Entry.{Entry}
use Rattle.life_model.specs.Crash.{LeavesCovered, LeavesAll, HasEpoch, HasNextEpoch}
use Rattle.seq_object.specs.History.{first_state}
use Rattle.life_model.specs.Work.{recovery_write_backs}
use Rattle.life_model.specs.Lives.{IsLife, ResumesFrom, HasOneHistory}
use Rattle.life_laws.specs.Examples.{entry}
use Rattle.life_laws.specs.CutExamples.{small, putting, put_done, blank, header_line, line_of_epoch, memory_with, closed_with, unwritten, pending_write, fenced_write, no_backup_memory, putting_two, cut_put, first_kept, resumed_put}

-- the images that a power cut may leave
pub record LeaveExamples : Type 0 where
  -- without the epoch write nothing is covered, and with it all
  pub covered : LeavesCovered putting put_done [] (image_of unwritten nothing_kept)
  pub all : LeavesAll putting put_done [] pending_write (image_of pending_write first_kept)
  -- the first state in another epoch
  pub other_epoch : LeavesCovered putting [] [] (image_of (memory_with header_line blank (line_of_epoch 2)) nothing_kept) → ⊥
  -- the epoch with another state
  pub other_state : LeavesCovered putting put_done [] (image_of no_backup_memory nothing_kept) → ⊥
  -- the state after all entries, but not in the next epoch
  pub later_epoch : LeavesAll putting put_done [] pending_write (image_of (closed_with (line_of_epoch 3)) nothing_kept) → ⊥
  -- the next epoch, but without the put
  pub not_all : LeavesAll putting put_done [] pending_write (image_of (memory_with header_line blank (line_of_epoch 2)) nothing_kept) → ⊥
  -- an image of the next epoch, of a memory in which that is not stored
  pub not_stored : LeavesAll putting put_done [] unwritten (image_of fenced_write nothing_kept) → ⊥
  -- entries that may not be marked
  pub unmarked : LeavesAll putting_two put_done [] pending_write (image_of pending_write first_kept) → ⊥
  -- whatever is kept, the epoch is 1; while the store of the next is pending it is 1 or 2
  pub has_epoch : HasEpoch small 1 unwritten
  pub has_next : HasNextEpoch small 1 pending_write
  pub pending_epoch : HasEpoch small 1 pending_write → ⊥
  -- a store of 7 before it may be kept alone
  pub seven_between : HasNextEpoch small 1 (closed_with (stored (stored (line_of_epoch 1) 0 7) 0 2)) → ⊥
  -- a store behind it takes it back
  pub taken_back : HasNextEpoch small 1 (closed_with (stored (stored (line_of_epoch 1) 0 2) 0 1)) → ⊥

-- the history of the put, but that its reply is another
abbrev pub full_done : List Entry
full_done = entry 0 0 (Put 5 7) Full ∷ []

-- the lives of a list, and what is left of them
pub record LifeExamples : Type 0 where
  pub life : IsLife small putting.scripts (cut_put nothing_kept)
  -- other sizes, other commands
  pub other_sizes : IsLife (record small { lines = 17 }) putting.scripts (cut_put nothing_kept) → ⊥
  pub other_scripts : IsLife small ([] ∷ []) (cut_put nothing_kept) → ⊥
  -- a history that is not legal, over a memory that is safe for it
  pub not_legal : IsLife small putting.scripts (record (cut_put nothing_kept) { history = full_done; memory = unwritten }) → ⊥
  -- a memory that is not safe
  pub not_safe : IsLife small putting.scripts (record (cut_put nothing_kept) { memory = no_backup_memory }) → ⊥
  -- a start is no resume, though it begins in the epoch and state of the image
  pub starts : ResumesFrom small (image_of unwritten nothing_kept) putting → ⊥
  -- the image that the put left holds its history
  pub one_history : HasOneHistory small putting.scripts (image_of fenced_write nothing_kept) put_done
  -- and none with another reply, or another index
  pub other_reply : HasOneHistory small putting.scripts (image_of fenced_write nothing_kept) full_done → ⊥
  pub other_index : HasOneHistory small putting.scripts (image_of fenced_write nothing_kept) (entry 0 1 (Put 5 7) New ∷ []) → ⊥
  -- and the image before the epoch write does not hold it
  pub not_kept : HasOneHistory small putting.scripts (image_of unwritten nothing_kept) put_done → ⊥
  -- before its first entry a start writes nothing back, and a resume the epoch and the cells that it restores
  pub start_writes : recovery_write_backs putting (image_of unwritten nothing_kept) ≡ 0
  pub resume_writes : recovery_write_backs (resumed_put 1 (first_state small)).opening (image_of unwritten nothing_kept) ≡ 5
