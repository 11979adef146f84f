-- Memories that were worked out by hand: those of a life of one thread that puts a pair, at the epoch write of its closing; and what
-- the crash clause and the present clause say of them.
use Rattle.std.specs.Prelude.{◌≡◌, ℕ, ◌<◌, zero, suc, List, [], ◌∷◌, ◌++◌, take}
use Rattle.std.specs.FinMap.{empty, insert}
use Rattle.seq_object.specs.declared.command.Command.TheVariants.{Put, Get, Enq}
use Rattle.seq_object.specs.declared.command.Reply.TheVariants.{New, Absent}
use Rattle.seq_object.specs.declared.history.Entry.{Entry}
use Rattle.seq_object.specs.Sizes.{sizes_of, super_room}
use Rattle.seq_object.specs.History.{State, first_state}
use Rattle.line_memory.specs.Line.{LineState, BankState, line_at, bank_load, load_of, quiet_line, stored, written_back, fenced, with_line}
use Rattle.room_model.specs.declared.write.PlannedStore.{PlannedStore}
use Rattle.room_model.specs.MapRoom.{live_layout}
use Rattle.room_model.specs.Writes.{command_stores}
use Rattle.room_model.specs.Cell.{IsRecoverable}
use Rattle.room_model.specs.Image.{KeptCounts, image_of, nothing_kept, epoch_at, Recovers, IsLawful, IsFormatted}
use Rattle.life_model.specs.declared.life.Life.TheVariants.{Start, Resume}
use Rattle.life_model.specs.declared.life.Outcome.TheVariants.{Finished, Stalled, Cut}
use Rattle.life_model.specs.Life.{Opening, start_of}
use Rattle.life_model.specs.Crash.{IsCrashSafe}
use Rattle.life_model.specs.Present.{IsUnderWay, IsPresent, IsPresentOf}
use Rattle.life_model.specs.Lives.{LivedLife, ResumesFrom, AreLives, recovered_history, all_recovered}
use Rattle.life_laws.specs.Examples.{settings, life_of, entry, resumed, idle}
use Rattle.life_model.specs.Work.{torn_cells, torn_rooms}
use Rattle.seq_object.specs.declared.sizes.Sizes.{Sizes}

-- one thread, one shard, 16 lines
abbrev pub small : Sizes
small = sizes_of (settings 1 1)

-- a thread that puts 7 at key 5
abbrev pub putting : Opening
putting = start_of (settings 1 1) ((Put 5 7 ∷ []) ∷ [])

-- that command, carried out
abbrev pub put_done : List Entry
put_done = entry 0 0 (Put 5 7) New ∷ []

-- the state after it
abbrev pub put_state : State
put_state = record { contents = record { pairs = insert empty 5 7; items = [] }; points = record { position = 1 } ∷ [] }

-- a line of zeros
abbrev pub blank : LineState
blank = quiet_line (0 ∷ 0 ∷ 0 ∷ 0 ∷ 0 ∷ 0 ∷ 0 ∷ 0 ∷ [])

-- so many lines of zeros
abbrev pub blanks : ℕ → List LineState
blanks zero = []
blanks (suc n) = blank ∷ blanks n

-- a bank of these lines
abbrev pub bank_with : List LineState → BankState
bank_with lines = record { lines = lines; write_backs = 0 }

-- a formatted room of 16 lines: nothing but the first fresh line in its header
abbrev pub formatted_from : ℕ → BankState
formatted_from first = bank_with (quiet_line (0 ∷ first ∷ 0 ∷ 0 ∷ 0 ∷ 0 ∷ 0 ∷ 0 ∷ []) ∷ blanks 15)

-- the map room after the put and the closing's fence: header, the head of bucket 5 in line 6, the node in line 9, each with its
-- backup and the tag of epoch 1
abbrev pub map_bank : BankState
map_bank = bank_with (quiet_line (0 ∷ 10 ∷ 1 ∷ 0 ∷ 9 ∷ 0 ∷ 1 ∷ 0 ∷ [])
    ∷ blank ∷ blank ∷ blank ∷ blank ∷ blank ∷ quiet_line (9 ∷ 0 ∷ 0 ∷ 0 ∷ 0 ∷ 0 ∷ 1 ∷ 0 ∷ [])
    ∷ blank ∷ blank ∷ quiet_line (5 ∷ 7 ∷ 0 ∷ 0 ∷ 0 ∷ 0 ∷ 1 ∷ 0 ∷ []) ∷ blanks 6)

-- the thread's room after the closing's fence: position 1, its backup 0 and the tag of epoch 1
abbrev pub thread_bank : BankState
thread_bank = bank_with (quiet_line (1 ∷ 0 ∷ 0 ∷ 0 ∷ 0 ∷ 0 ∷ 1 ∷ 0 ∷ []) ∷ [])

-- the super room's line with this epoch in memory
abbrev pub line_of_epoch : ℕ → LineState
line_of_epoch epoch = quiet_line (epoch ∷ 0 ∷ 0 ∷ 0 ∷ 0 ∷ 0 ∷ 0 ∷ 0 ∷ [])

-- the memory once all rooms but the super room are closed, with this line in the super room
abbrev pub closed_with : LineState → List BankState
closed_with line = map_bank ∷ formatted_from 2 ∷ thread_bank ∷ bank_with (line ∷ []) ∷ []

-- before the epoch write
abbrev pub unwritten : List BankState
unwritten = closed_with (line_of_epoch 1)

-- the next epoch is stored, and not in memory
abbrev pub pending_write : List BankState
pending_write = closed_with (stored (line_of_epoch 1) 0 2)

-- the next epoch is in memory
abbrev pub fenced_write : List BankState
fenced_write = closed_with (fenced (written_back (stored (line_of_epoch 1) 0 2)))

-- a bank after these stores, each of them pending
abbrev pub all_stored : BankState → List PlannedStore → BankState
all_stored bank [] = bank
all_stored bank (s ∷ ss) = all_stored (with_line bank s.line (stored (line_at bank.lines s.line) s.word s.value)) ss

-- the stores of the put
abbrev pub put_stores : List PlannedStore
put_stores = command_stores live_layout small 1 0 (bank_load (formatted_from 9)) (Put 5 7)

-- a line of the map room after these stores, a write-back and a fence
abbrev pub put_line : ℕ → List ℕ
put_line line = (fenced (written_back (line_at (all_stored (formatted_from 9) put_stores).lines line))).base

-- an image has this epoch, and recovers to this state
abbrev pub RecoversAt : ℕ → State → List BankState → KeptCounts → Type 0
RecoversAt epoch state memory choice = (epoch_at small (image_of memory choice) ≡ epoch) × Recovers live_layout small (image_of memory choice) state

-- the life of one put, cut about its epoch write
pub record EpochWriteExamples : Type 0 where
  -- the stores of the put leave the words that are written out above
  pub header : put_line 0 ≡ (line_at map_bank.lines 0).base
  pub bucket : put_line 6 ≡ (line_at map_bank.lines 6).base
  pub node : put_line 9 ≡ (line_at map_bank.lines 9).base
  -- before the epoch's store every image has epoch 1 and the empty state, though every word of the put is in memory
  pub before : (choice : KeptCounts) → RecoversAt 1 (first_state small) unwritten choice
  -- while it is pending, an image without it has epoch 1 and the empty state, and one with it epoch 2 and the pair, though no mark
  -- is acknowledged
  pub without : (choice : KeptCounts) → choice (super_room small) 0 ≡ 0 → RecoversAt 1 (first_state small) pending_write choice
  pub with_it : (choice : KeptCounts) → 0 < choice (super_room small) 0 → RecoversAt 2 put_state pending_write choice
  -- after the fence every image has epoch 2 and the pair
  pub after_fence : (choice : KeptCounts) → RecoversAt 2 put_state fenced_write choice
  -- the memory is safe all the time
  pub safe_before : IsCrashSafe putting put_done [] unwritten
  pub safe_pending : IsCrashSafe putting put_done [] pending_write
  pub safe_after : IsCrashSafe putting put_done [] fenced_write
  -- and once the mark is acknowledged
  pub safe_marked : IsCrashSafe putting put_done (1 ∷ []) fenced_write
  -- the next life begins in the image's epoch and state
  pub resumes_before : ResumesFrom small (image_of unwritten nothing_kept) (life_of Resume 1 (settings 1 1) ((Put 5 7 ∷ []) ∷ []))
  pub resumes_after : ResumesFrom small (image_of fenced_write nothing_kept)
      (record (life_of Resume 2 (settings 1 1) ((Put 5 7 ∷ []) ∷ [])) { state = put_state })

-- the formatted header of the map room
abbrev pub header_line : LineState
header_line = line_at (formatted_from 9).lines 0

-- cells whose survivors keep what memory held, and cells whose survivors do not
pub record CellExamples : Type 0 where
  -- backup, tag and then the record
  pub whole_write : IsRecoverable 1 (line_at (all_stored (formatted_from 9) (take 5 put_stores)).lines 0)
  -- the record before its backup
  pub record_first : IsRecoverable 1 (stored header_line 1 10) → ⊥
  -- the tag before the backup
  pub tag_first : IsRecoverable 1 (stored header_line 6 1) → ⊥
  -- a tag of a later epoch
  pub later_tag : IsRecoverable 1 (stored header_line 6 2) → ⊥
  -- seven words
  pub seven_words : IsRecoverable 1 (quiet_line (0 ∷ 9 ∷ 0 ∷ 0 ∷ 0 ∷ 0 ∷ 0 ∷ [])) → ⊥

-- a memory with these in the map room's header, in the thread's room and in the super room
abbrev pub memory_with : LineState → LineState → LineState → List BankState
memory_with header thread super = bank_with (header ∷ blanks 15) ∷ formatted_from 2 ∷ bank_with (thread ∷ []) ∷ bank_with (super ∷ []) ∷ []

-- formatted memory of epoch 0, whose headers have their record as backup too, since every tag is that epoch
abbrev pub no_epoch_memory : List BankState
no_epoch_memory = bank_with (quiet_line (0 ∷ 9 ∷ 0 ∷ 0 ∷ 9 ∷ 0 ∷ 0 ∷ 0 ∷ []) ∷ blanks 15)
    ∷ bank_with (quiet_line (0 ∷ 2 ∷ 0 ∷ 0 ∷ 2 ∷ 0 ∷ 0 ∷ 0 ∷ []) ∷ blanks 15) ∷ bank_with (blank ∷ []) ∷ bank_with (line_of_epoch 0 ∷ []) ∷ []

-- what memory holds is not lawful
abbrev pub IsUnlawful : List BankState → Type 0
IsUnlawful memory = IsLawful live_layout small (image_of memory nothing_kept) → ⊥

-- one shard and 16 lines, and no thread
abbrev pub threadless : Sizes
threadless = sizes_of (settings 0 1)

-- formatted memory of these sizes
abbrev pub threadless_memory : List BankState
threadless_memory = formatted_from 9 ∷ formatted_from 2 ∷ bank_with (line_of_epoch 1 ∷ []) ∷ []

-- an image that is formatted, and lawful, and images that are not
pub record ImageExamples : Type 0 where
  pub formatted : IsFormatted live_layout small (image_of (memory_with header_line blank (line_of_epoch 1)) nothing_kept)
  pub lawful : IsLawful live_layout small (image_of (memory_with header_line blank (line_of_epoch 1)) nothing_kept)
  -- epochs are from 1 to 4294967295
  pub no_epoch : IsUnlawful no_epoch_memory
  pub no_such_epoch : IsUnlawful (memory_with header_line blank (line_of_epoch 4294967296))
  -- a tag above the epoch
  pub tag_above : IsUnlawful (memory_with header_line (quiet_line (1 ∷ 0 ∷ 0 ∷ 0 ∷ 0 ∷ 0 ∷ 2 ∷ 0 ∷ [])) (line_of_epoch 1))
  -- a fresh line that was moved, and whose line is in no chain
  pub lost_line : IsUnlawful (memory_with (quiet_line (0 ∷ 10 ∷ 0 ∷ 0 ∷ 0 ∷ 0 ∷ 0 ∷ 0 ∷ [])) blank (line_of_epoch 1))
  -- a line of seven words
  pub short_line : IsUnlawful (memory_with header_line (quiet_line (0 ∷ 0 ∷ 0 ∷ 0 ∷ 0 ∷ 0 ∷ 0 ∷ [])) (line_of_epoch 1))
  -- no thread
  pub no_thread : IsLawful live_layout threadless (image_of threadless_memory nothing_kept) → ⊥
  -- a room that is missing
  pub no_room : IsUnlawful (formatted_from 9 ∷ formatted_from 2 ∷ bank_with (line_of_epoch 1 ∷ []) ∷ [])
  -- of the closed memory recovery at epoch 1 restores three cells of the map room and the thread's
  pub torn_cells : torn_cells small (image_of unwritten nothing_kept) ≡ 4
  pub torn_rooms : torn_rooms small (image_of unwritten nothing_kept) ≡ 2

-- the life of the put, cut while its epoch write was pending, with this choice
abbrev pub cut_put : KeptCounts → LivedLife
cut_put choice = record { opening = putting; history = put_done; marks = []; memory = pending_write; choice = choice }

-- the choice that keeps the first pending store of each line
abbrev pub first_kept : KeptCounts
first_kept = λ room line. 1

-- a life that was resumed in this epoch and state, has these marks and no entry, and left this memory
abbrev pub resumed_in : ℕ → State → List ℕ → List BankState → LivedLife
resumed_in epoch state marks memory = record {
  opening = record (life_of Resume epoch (settings 1 1) ((Put 5 7 ∷ []) ∷ [])) { state = state };
  history = [];
  marks = marks;
  memory = memory;
  choice = nothing_kept;
}

-- a life that was resumed in this epoch and state and cut before its first event
abbrev pub resumed_put : ℕ → State → LivedLife
resumed_put epoch state = resumed_in epoch state [] (closed_with (line_of_epoch epoch))

-- a life that was resumed behind the put, and whose recovery was acknowledged
abbrev pub recovered_put : LivedLife
recovered_put = resumed_in 2 put_state (0 ∷ []) (closed_with (line_of_epoch 3))

-- lists of two lives
pub record ListExamples : Type 0 where
  -- the epoch's store was kept: the second life begins in epoch 2 with the put, and what is kept is the put
  pub with_put : AreLives small ((Put 5 7 ∷ []) ∷ []) (cut_put first_kept) (resumed_put 2 put_state ∷ [])
  pub kept_put : recovered_history (cut_put first_kept) ++ all_recovered (resumed_put 2 put_state ∷ []) ≡ put_done
  -- it was not: the second life begins in epoch 1 with nothing, and nothing is kept
  pub without_put : AreLives small ((Put 5 7 ∷ []) ∷ []) (cut_put nothing_kept) (resumed_put 1 (first_state small) ∷ [])
  pub kept_none : recovered_history (cut_put nothing_kept) ++ all_recovered (resumed_put 1 (first_state small) ∷ []) ≡ []
  -- a resumed life whose recovery was acknowledged goes on in the next epoch
  pub recovered_safe : IsCrashSafe recovered_put.opening [] (0 ∷ []) recovered_put.memory
  pub goes_on : AreLives small ((Put 5 7 ∷ []) ∷ []) (cut_put first_kept) (recovered_put ∷ resumed_put 3 put_state ∷ [])
  pub kept_on : recovered_history (cut_put first_kept) ++ all_recovered (recovered_put ∷ resumed_put 3 put_state ∷ []) ≡ put_done
  -- a life that resumes in another epoch, in another state or with other commands is none of the list, though its memory is safe for it
  pub other_epoch : AreLives small ((Put 5 7 ∷ []) ∷ []) (cut_put first_kept) (resumed_put 3 put_state ∷ []) → ⊥
  pub other_state : AreLives small ((Put 5 7 ∷ []) ∷ []) (cut_put first_kept)
      (resumed_in 2 (first_state small) [] (memory_with header_line blank (line_of_epoch 2)) ∷ []) → ⊥
  pub other_commands : AreLives small ([] ∷ []) (cut_put first_kept) [] → ⊥
  -- a list begins with a start
  pub no_start : AreLives small ((Put 5 7 ∷ []) ∷ []) (resumed_put 1 (first_state small)) [] → ⊥

-- the memory before the epoch write, but that the thread's position was written without its backup
abbrev pub no_backup_memory : List BankState
no_backup_memory = map_bank ∷ formatted_from 2 ∷ bank_with (line_of_epoch 1 ∷ []) ∷ bank_with (line_of_epoch 1 ∷ []) ∷ []

-- a thread that puts 7 at key 5 and 8 at key 6, two commands for an epoch
abbrev pub putting_two : Opening
putting_two = start_of (settings 1 2) ((Put 5 7 ∷ Put 6 8 ∷ []) ∷ [])

-- memories that the crash clause refuses
pub record UnsafeExamples : Type 0 where
  -- an image one epoch behind the acknowledged mark
  pub one_behind : IsCrashSafe putting put_done (1 ∷ []) unwritten → ⊥
  -- an image two epochs ahead
  pub two_ahead : IsCrashSafe putting put_done [] (closed_with (line_of_epoch 3)) → ⊥
  -- an epoch store where the entries may not be marked
  pub too_early : IsCrashSafe putting_two put_done [] pending_write → ⊥
  -- an epoch store that a later one takes back: it may be left alone, and is not what is loaded
  pub not_loaded : IsCrashSafe putting put_done [] (closed_with (stored (stored (line_of_epoch 1) 0 2) 0 1)) → ⊥
  -- a position that was written without its backup
  pub no_backup : IsCrashSafe putting put_done [] no_backup_memory → ⊥

-- the memory in which the put was cut after its first write, and this line in the thread's room
abbrev pub half_put : LineState → List BankState
half_put line = all_stored (formatted_from 9) (take 5 put_stores) ∷ formatted_from 2 ∷ bank_with (line ∷ []) ∷ bank_with (line_of_epoch 1 ∷ []) ∷ []

-- a thread that gets a key, and one that puts an item into the queue
abbrev pub getting : Opening
getting = start_of (settings 1 1) ((Get 5 ∷ []) ∷ [])

abbrev pub enqueuing : Opening
enqueuing = start_of (settings 1 1) ((Enq 6 ∷ []) ∷ [])

-- two threads, of which the first puts
abbrev pub putting_beside : Opening
putting_beside = start_of (settings 2 1) ((Put 5 7 ∷ []) ∷ [] ∷ [])

-- the room of its put that was cut, and both threads' rooms
abbrev pub half_beside : List BankState
half_beside = all_stored (formatted_from 9) (take 5 put_stores) ∷ formatted_from 2
    ∷ bank_with (blank ∷ []) ∷ bank_with (blank ∷ []) ∷ bank_with (line_of_epoch 1 ∷ []) ∷ []

-- a thread that gets a key twice, and that did
abbrev pub getting_twice : Opening
getting_twice = start_of (settings 1 2) ((Get 5 ∷ Get 5 ∷ []) ∷ [])

abbrev pub got_twice : List Entry
got_twice = entry 0 0 (Get 5) Absent ∷ entry 0 1 (Get 5) Absent ∷ []

-- what the present clause says of held rooms and of positions
pub record PresentExamples : Type 0 where
  -- all is done, and no room is held
  pub done : IsPresent putting put_done (1 ∷ []) [] Finished fenced_write
  -- the room of a put that was cut is named
  pub named : IsPresent putting [] [] (0 ∷ []) Cut (half_put blank)
  -- it has to be
  pub not_named : IsPresent putting [] [] [] Cut (half_put blank) → ⊥
  -- it has to be of a command that is next
  pub no_command : IsPresent putting put_done [] (0 ∷ []) Cut (half_put blank) → ⊥
  -- of a command of a thread: an empty script has none
  pub nobody : IsPresent (idle Start) [] [] (0 ∷ []) Cut (half_put blank) → ⊥
  -- of a command of that room
  pub other_command : IsPresent enqueuing [] [] (0 ∷ []) Cut (half_put blank) → ⊥
  pub other_room : IsUnderWay enqueuing [] [] 0 (load_of (memory_with header_line blank (line_of_epoch 1)) 0) → ⊥
  -- and the stores that were made have to be of a prefix of that command's: a get has none, and none of the put's leaves a count of 5
  pub no_prefix : IsPresent getting [] [] (0 ∷ []) Cut (half_put blank) → ⊥
  pub other_count : IsPresent putting [] [] (0 ∷ []) Cut (memory_with (quiet_line (0 ∷ 9 ∷ 5 ∷ 0 ∷ 0 ∷ 0 ∷ 0 ∷ 0 ∷ [])) blank (line_of_epoch 1)) → ⊥
  -- no room is held where all is covered
  pub held_at_end : IsPresent putting [] [] (0 ∷ []) Finished (half_put blank) → ⊥
  pub held_at_stall : IsPresent putting [] [] (0 ∷ []) Stalled (half_put blank) → ⊥
  -- held rooms ascend
  pub falling : IsPresent putting_beside [] [] (2 ∷ 0 ∷ []) Cut half_beside → ⊥
  -- one thread holds one room
  pub two_held : IsPresent putting [] [] (0 ∷ 2 ∷ []) Cut (half_put blank) → ⊥
  -- a position between the covered one, 0, and the present one, 2
  pub other_position : IsPresent getting_twice got_twice [] [] Cut (memory_with header_line (line_of_epoch 1) (line_of_epoch 1)) → ⊥
  -- a resume that was cut within recovery names no room
  pub recovering : IsPresentOf resumed [] [] [] Cut []
  pub recovering_held : IsPresentOf resumed [] [] (0 ∷ []) Cut [] → ⊥
