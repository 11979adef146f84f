-- Lives that were worked out by hand, on which the definitions are tried: some that are legal, and for each clause one that is not.
use Rattle.std.specs.Prelude.{◌≡◌, ℕ, ◌==◌, ◌||◌, false, List, [], ◌∷◌, length}
use Rattle.seq_object.specs.declared.settings.Settings.{Settings}
use Rattle.seq_object.specs.declared.command.Command.{Command}
use Rattle.seq_object.specs.declared.command.Command.TheVariants.{Put, Enq, Take}
use Rattle.seq_object.specs.declared.command.Reply.{Reply}
use Rattle.seq_object.specs.declared.command.Reply.TheVariants.{Full, Found, Done}
use Rattle.seq_object.specs.declared.history.Entry.{Entry}
use Rattle.seq_object.specs.Sizes.{sizes_of}
use Rattle.seq_object.specs.Object.{no_contents}
use Rattle.seq_object.specs.History.{first_state, Scripts}
use Rattle.room_model.specs.MapRoom.{live_layout}
use Rattle.room_model.specs.Formatted.{formatted}
use Rattle.room_model.specs.declared.write.PlannedStore.{PlannedStore}
use Rattle.room_model.specs.Writes.{store, stored_in, command_stores, newly_pending}
use Rattle.life_model.specs.declared.life.Life.{Life}
use Rattle.life_model.specs.declared.life.Life.TheVariants.{Start, Resume}
use Rattle.life_model.specs.declared.life.Outcome.TheVariants.{Cut}
use Rattle.life_model.specs.Life.{Opening, IsLegalLife, MayJoin, MayMark, start_of, reported}
use Rattle.life_model.specs.Ends.{IsFinished, IsStalled, EndsAs}
use Rattle.life_model.specs.Work.{Worked, WritesFewBack, OffersRounds, in_turn, HasWorked, ClosesSeldom, ClosesOncePerEntry, turns_for_rounds, FitsLimit}
use Rattle.life_model.specs.declared.life.Mark.{Mark}

-- one shard and rooms of 16 lines, for so many threads with such a quota
abbrev pub settings : ℕ → ℕ → Settings
settings threads every = record { threads = threads; shards = 1; lines = 16; every = every }

-- a life from the first state, in this epoch
abbrev pub life_of : Life → ℕ → Settings → Scripts → Opening
life_of life epoch s scripts = record { settings = s; scripts = scripts; life = life; epoch = epoch; state = first_state (sizes_of s) }

-- an entry by its parts
abbrev pub entry : ℕ → ℕ → Command → Reply → Entry
entry thread index command reply = record { thread = thread; index = index; command = command; reply = reply }

-- thread 0 waits for what thread 1 puts into the queue
abbrev pub waiting : Opening
waiting = start_of (settings 2 1) ((Take ∷ []) ∷ (Enq 9 ∷ []) ∷ [])

-- what thread 1 puts in, and what thread 0 then takes out
abbrev pub waiting_history : List Entry
waiting_history = entry 1 0 (Enq 9) Done ∷ entry 0 0 Take (Found 9) ∷ []

-- both threads wait, and nothing comes
abbrev pub stuck : Opening
stuck = start_of (settings 2 1) ((Take ∷ []) ∷ (Take ∷ []) ∷ [])

-- three commands of a thread, two for an epoch
abbrev pub three : Scripts
three = (Enq 1 ∷ Enq 2 ∷ Enq 3 ∷ []) ∷ []

-- a thread with these
abbrev pub hurried : Opening
hurried = start_of (settings 1 2) three

-- its first command
abbrev pub one_done : List Entry
one_done = entry 0 0 (Enq 1) Done ∷ []

-- its first two commands
abbrev pub two_done : List Entry
two_done = entry 0 0 (Enq 1) Done ∷ entry 0 1 (Enq 2) Done ∷ []

-- its three commands
abbrev pub three_done : List Entry
three_done = entry 0 0 (Enq 1) Done ∷ entry 0 1 (Enq 2) Done ∷ entry 0 2 (Enq 3) Done ∷ []

-- the same thread, resumed from epoch 5
abbrev pub resumed : Opening
resumed = life_of Resume 5 (settings 1 2) three

-- a thread that puts in and takes out, three commands for an epoch
abbrev pub pausing : Opening
pausing = start_of (settings 1 3) ((Enq 1 ∷ Take ∷ Take ∷ []) ∷ [])

-- its first two commands
abbrev pub pausing_history : List Entry
pausing_history = entry 0 0 (Enq 1) Done ∷ entry 0 1 Take (Found 1) ∷ []

-- the mark of such an epoch and length
abbrev pub marked : ℕ → ℕ → Mark
marked epoch length = record { epoch = epoch; length = length }

-- lives that are legal
pub record LegalExamples : Type 0 where
  -- a mark after each entry
  pub each_marked : IsLegalLife waiting waiting_history (1 ∷ 2 ∷ [])
  -- a mark and no entry
  pub none_drawn : IsLegalLife stuck [] (0 ∷ [])
  -- a quota that is spent is marked
  pub spent : IsLegalLife hurried two_done (2 ∷ [])
  -- two of three commands, and then a take: a mark may come before the quota is spent
  pub pause : IsLegalLife pausing pausing_history (2 ∷ [])
  -- a resume whose first mark is recovery's
  pub recovered : IsLegalLife resumed two_done (0 ∷ 2 ∷ [])
  -- its marks have the epochs behind that of the image, 5
  pub epochs : reported resumed (0 ∷ 2 ∷ []) ≡ marked 6 0 ∷ marked 7 2 ∷ []

-- lives that are not legal
pub record IllegalExamples : Type 0 where
  -- a mark before the quota is spent, where the next command is no take
  pub early_mark : IsLegalLife hurried one_done (1 ∷ []) → ⊥
  -- a mark inside a stretch of two
  pub mark_inside : IsLegalLife hurried two_done (1 ∷ 2 ∷ []) → ⊥
  -- a mark that falls
  pub falling_mark : IsLegalLife hurried two_done (2 ∷ 0 ∷ []) → ⊥
  -- a mark of more entries than were drawn
  pub late_mark : IsLegalLife hurried two_done (3 ∷ []) → ⊥
  -- a third command without a mark
  pub over_quota : IsLegalLife hurried three_done [] → ⊥
  -- a reply that is not the object's
  pub wrong_reply : IsLegalLife hurried (entry 0 0 (Enq 1) Full ∷ []) [] → ⊥
  -- a command that was passed over
  pub passed_over : IsLegalLife hurried (entry 0 1 (Enq 2) Done ∷ []) [] → ⊥
  -- a command that is not the script's at that place
  pub other_command : IsLegalLife hurried (entry 0 0 (Enq 2) Done ∷ []) [] → ⊥
  -- a command twice
  pub twice : IsLegalLife hurried (entry 0 0 (Enq 1) Done ∷ entry 0 0 (Enq 1) Done ∷ []) [] → ⊥
  -- an entry of a thread that does not exist
  pub no_such_thread : IsLegalLife hurried (entry 7 0 (Enq 1) Done ∷ []) [] → ⊥
  -- a thread without a script
  pub no_script : IsLegalLife (start_of (settings 2 2) three) [] [] → ⊥
  -- a thread without a restart point
  pub no_point : IsLegalLife (record resumed { state = record { contents = no_contents; points = [] } }) [] [] → ⊥
  -- a start in the second epoch
  pub late_start : IsLegalLife (life_of Start 2 (settings 1 2) three) [] [] → ⊥
  -- a start from another state than the first
  pub other_state : IsLegalLife (record hurried { state = record { contents = no_contents; points = record { position = 1 } ∷ [] } }) [] [] → ⊥
  -- a resume that draws before recovery's mark
  pub too_soon : IsLegalLife resumed one_done [] → ⊥
  -- a resume whose first mark is not recovery's
  pub no_recovery : IsLegalLife resumed two_done (2 ∷ []) → ⊥

-- which entries may be drawn, and when all may be marked
pub record DrawExamples : Type 0 where
  -- the second command behind the first
  pub next : MayJoin hurried one_done [] (entry 0 1 (Enq 2) Done)
  -- the third
  pub passed_over : MayJoin hurried one_done [] (entry 0 1 (Enq 3) Done) → ⊥
  -- another index
  pub other_index : MayJoin hurried one_done [] (entry 0 0 (Enq 2) Done) → ⊥
  -- the third behind the second, where two are for an epoch; and behind a mark
  pub spent : MayJoin hurried two_done [] (entry 0 2 (Enq 3) Done) → ⊥
  pub marked_since : MayJoin hurried two_done (2 ∷ []) (entry 0 2 (Enq 3) Done)
  -- a resume draws none before recovery's mark
  pub recovering : MayJoin resumed [] [] (entry 0 0 (Enq 1) Done) → ⊥
  pub recovered : MayJoin resumed [] (0 ∷ []) (entry 0 0 (Enq 1) Done)
  -- a spent quota may be marked, and no part of one
  pub whole : MayMark hurried two_done []
  pub part : MayMark hurried one_done [] → ⊥
  -- but where a take comes next
  pub pause : MayMark pausing pausing_history []

-- nothing to do for a thread
abbrev pub idle : Life → Opening
idle life = life_of life 1 (settings 1 1) ([] ∷ [])

-- how lives end, and how they do not
pub record EndExamples : Type 0 where
  pub finished : IsFinished waiting waiting_history (1 ∷ 2 ∷ [])
  -- a start that had nothing to do is finished at once
  pub nothing_to_do : IsFinished (idle Start) [] []
  -- a resume that had nothing to do is finished once recovery is acknowledged
  pub recovering : IsFinished (idle Resume) [] [] → ⊥
  pub recovered : IsFinished (idle Resume) [] (0 ∷ [])
  -- an entry that was drawn after the last mark
  pub not_covered : IsFinished waiting waiting_history (1 ∷ []) → ⊥
  -- and where there is no mark
  pub never_marked : IsFinished waiting waiting_history [] → ⊥
  -- a command that is left
  pub not_used : IsFinished hurried two_done (2 ∷ []) → ⊥
  -- a finished life is not cut
  pub not_cut : EndsAs Cut waiting waiting_history (1 ∷ 2 ∷ []) → ⊥
  pub cut : EndsAs Cut hurried two_done (2 ∷ [])
  pub stalled : IsStalled stuck [] (0 ∷ [])
  -- no closing came to say so
  pub not_closed : IsStalled stuck [] [] → ⊥
  -- recovery's mark is of no closing
  pub only_recovered : IsStalled (life_of Resume 1 (settings 2 1) ((Take ∷ []) ∷ (Take ∷ []) ∷ [])) [] (0 ∷ []) → ⊥
  -- a command that is no take can go on
  pub can_go_on : IsStalled waiting [] (0 ∷ []) → ⊥
  -- no thread waits
  pub none_waits : IsStalled waiting waiting_history (1 ∷ 2 ∷ []) → ⊥
  -- a mark that does not cover all entries
  pub too_short : IsStalled pausing pausing_history (0 ∷ []) → ⊥
  -- the queue has an item
  pub fed : IsStalled waiting (entry 1 0 (Enq 9) Done ∷ []) (1 ∷ []) → ⊥

-- the stores of a first put, in epoch 1
abbrev pub first_put : List PlannedStore
first_put = command_stores live_layout (sizes_of (settings 1 1)) 1 0 (formatted 9) (Put 5 7)

-- the stores of an item behind one of the epoch before, in epoch 2
abbrev pub second_item : List PlannedStore
second_item =
    let z = sizes_of (settings 1 1) in
    command_stores live_layout z 2 1 (stored_in (formatted 2) (command_stores live_layout z 1 1 (formatted 2) (Enq 5))) (Enq 6)

-- the stores of a put of an absent key into a formatted room: the first write of each of three lines has five
pub record StoreExamples : Type 0 where
  pub put_absent : first_put
      ≡ store 0 3 0 ∷ store 0 4 9 ∷ store 0 5 0 ∷ store 0 6 1 ∷ store 0 1 10
      ∷ store 9 3 0 ∷ store 9 4 0 ∷ store 9 5 0 ∷ store 9 6 1 ∷ store 9 0 5 ∷ store 9 1 7 ∷ store 9 2 0
      ∷ store 6 3 0 ∷ store 6 4 0 ∷ store 6 5 0 ∷ store 6 6 1 ∷ store 6 0 9
      ∷ store 0 2 1 ∷ []
  -- a command of another room has none
  pub other_room : command_stores live_layout (sizes_of (settings 1 1)) 1 1 (formatted 9) (Put 5 7) ≡ []
  -- they make lines 0, 9 and 6 pending, and line 6 alone where the other two are
  pub three_lines : newly_pending (λ line. false) first_put ≡ 3
  pub third_line : newly_pending (λ line. (line == 0) || (line == 9)) first_put ≡ 1
  -- no command has more stores than this item, nor more lines: 0, 3, 2 and 1
  pub most_stores : length second_item ≡ 22
  pub most_lines : newly_pending (λ line. false) second_item ≡ 4

-- a worker of one command, one mark and one epoch
abbrev pub worked_so : ℕ → Worked
worked_so done = record { entries = 1; marks = 1; closing = false; epochs = 1; done = done }

-- how much work is done
pub record WorkExamples : Type 0 where
  -- two closings of one thread and two entries may make 4 * 2 + 2 * 3 write-backs
  pub few : WritesFewBack hurried [] two_done (2 ∷ 2 ∷ []) 14
  pub too_many : WritesFewBack hurried [] two_done (2 ∷ 2 ∷ []) 15 → ⊥
  -- five turns of two threads in turn offer two rounds
  pub turn_by_turn : in_turn 2 0 5 ≡ 0 ∷ 1 ∷ 0 ∷ 1 ∷ 0 ∷ []
  pub two_rounds : OffersRounds 2 2 (in_turn 2 0 5)
  -- three turns of one thread offer none to two
  pub no_round : OffersRounds 2 1 (0 ∷ 0 ∷ 0 ∷ []) → ⊥
  -- 170 turns are recovery's where there are 34 lines
  pub after_recovery : turns_for_rounds (idle Resume) (in_turn 1 0 172) ≡ 0 ∷ 0 ∷ []
  -- a lock and a draw, and 24 events of a closing; at most 25 * 2 + 12 + 49
  pub least : HasWorked (sizes_of (settings 1 1)) (worked_so 26)
  pub most : HasWorked (sizes_of (settings 1 1)) (worked_so 111)
  pub too_little : HasWorked (sizes_of (settings 1 1)) (worked_so 25) → ⊥
  pub too_much : HasWorked (sizes_of (settings 1 1)) (worked_so 112) → ⊥
  -- a live run of one entry and one closing: at least 26 events, of which the last may be one more than the limit, and at most 172
  pub limit_least : FitsLimit hurried one_done (1 ∷ []) Cut 25
  pub limit_most : FitsLimit hurried one_done (1 ∷ []) Cut 172
  pub limit_too_small : FitsLimit hurried one_done (1 ∷ []) Cut 24 → ⊥
  pub limit_too_great : FitsLimit hurried one_done (1 ∷ []) Cut 173 → ⊥
  -- recovery's events are not among those that are counted
  pub within_recovery : FitsLimit resumed [] [] Cut 0 → ⊥
  -- one closing for an entry, and no second
  pub once : ClosesOncePerEntry hurried one_done (1 ∷ [])
  pub more : ClosesOncePerEntry hurried one_done (1 ∷ 1 ∷ []) → ⊥
  -- a script with a take may close more often
  pub with_take : ClosesOncePerEntry stuck [] (0 ∷ [])
  -- three closings for an entry of a thread, and no fourth
  pub seldom : ClosesSeldom hurried one_done (1 ∷ 1 ∷ 1 ∷ [])
  pub too_often : ClosesSeldom hurried one_done (1 ∷ 1 ∷ 1 ∷ 1 ∷ []) → ⊥
