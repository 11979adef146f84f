-- The laws of one life: its steps keep it in order and legal, and its memory is safe where its cells stand at its epochs.
use Rattle.std.specs.Prelude.{◌≡◌, ◌≢◌, ℕ, ◌+◌, ◌<◌, ◌≤◌, ◌⊎◌, List, [], ◌∷◌, ◌++◌, length, take, Some}
use Rattle.seq_object.specs.Sizes.{AreValid}
use Rattle.seq_object.specs.Object.{reply_to, part_of}
use Rattle.seq_object.specs.declared.history.Entry.{Entry}
use Rattle.seq_object.specs.History.{of_thread, of_room, IsLegal, after, first_state}
use Rattle.line_memory.specs.Line.{BankState, IsQuiet}
use Rattle.room_model.specs.MapRoom.{live_layout}
use Rattle.room_model.specs.Image.{image_of, nothing_kept, IsFormatted, StandsAt}
use Rattle.life_model.specs.declared.life.Life.TheVariants.{Resume}
use Rattle.life_model.specs.Life.{Opening, sizes, covered, closings, next_command, IsPause, entries_between, BeginsRightly, IsInOrder, IsLegalLife, MayJoin, MayMark, contents_now}
use Rattle.life_model.specs.Crash.{epoch_after, LeavesCovered, IsCrashSafe, HasEpoch, HasNextEpoch}
use Rattle.life_model.specs.Lives.{ResumesFrom}

-- a life may begin with no entry and no mark
abbrev pub OpeningLaw : Type 0
OpeningLaw = (o : Opening) → length o.scripts ≡ o.settings.threads → length o.state.points ≡ o.settings.threads → BeginsRightly o [] []
    → IsLegalLife o [] []

-- what is in order stays so where an entry is drawn
abbrev pub OrderDrawLaw : Type 0
OrderDrawLaw = (o : Opening) (h : List Entry) (marks : List ℕ) (e : Entry) → IsInOrder o h marks → MayJoin o h marks e
    → IsInOrder o (h ++ e ∷ []) marks

-- what is in order stays so where all entries are marked
abbrev pub OrderMarkLaw : Type 0
OrderMarkLaw = (o : Opening) (h : List Entry) (marks : List ℕ) → IsInOrder o h marks → MayMark o h marks
    → IsInOrder o h (marks ++ length h ∷ [])

-- a legal life stays legal where an entry is drawn with the object's reply
abbrev pub DrawLaw : Type 0
DrawLaw = (o : Opening) (h : List Entry) (marks : List ℕ) (e : Entry) → IsLegalLife o h marks
    → reply_to (sizes o) (contents_now o h) e.command ≡ Some e.reply → MayJoin o h marks e
    → IsLegalLife o (h ++ e ∷ []) marks

-- a legal life stays legal where all entries are marked
abbrev pub MarkLaw : Type 0
MarkLaw = (o : Opening) (h : List Entry) (marks : List ℕ) → IsLegalLife o h marks → MayMark o h marks
    → IsLegalLife o h (marks ++ length h ∷ [])

-- what was covered stays so where an entry is drawn
abbrev pub SavedDrawLaw : Type 0
SavedDrawLaw = (o : Opening) (h : List Entry) (marks : List ℕ) (e : Entry) → IsInOrder o h marks
    → take (covered marks) (h ++ e ∷ []) ≡ take (covered marks) h

-- a mark of all entries: all of them are covered, the epoch is the next, and behind recovery it is one closing more
pub record MayBeMarked (o : Opening) (h : List Entry) (marks : List ℕ) : Type 0 where
  pub last : covered (marks ++ length h ∷ []) ≡ length h
  pub all : take (covered (marks ++ length h ∷ [])) h ≡ h
  pub epoch : epoch_after o (marks ++ length h ∷ []) ≡ epoch_after o marks + 1
  pub closed : (o.life ≡ Resume → marks ≢ []) → closings o (marks ++ length h ∷ []) ≡ closings o marks + 1

-- so it is with a mark of all entries behind any others
abbrev pub MarkedLaw : Type 0
MarkedLaw = (o : Opening) (h : List Entry) (marks : List ℕ) → MayBeMarked o h marks

-- a life that is legal room by room and in order is legal
abbrev pub RoomByRoomLifeLaw : Type 0
RoomByRoomLifeLaw = (o : Opening) (h : List Entry) (marks : List ℕ) → 0 < o.settings.shards
    → ((room : ℕ) → IsLegal (sizes o) (part_of (sizes o) room o.state.contents) (of_room (sizes o) room h)) → IsInOrder o h marks
    → IsLegalLife o h marks

-- a thread's entries up to one length are those up to a lower one and those between
abbrev pub BetweenLaw : Type 0
BetweenLaw = (h : List Entry) (low high thread : ℕ) → low ≤ high
    → length (of_thread thread (take high h)) ≡ length (of_thread thread (take low h)) + entries_between h low high thread

-- all entries may be marked where each thread has none since the last mark, or all its quota but some that is left only at a pause
abbrev pub MayMarkLaw : Type 0
MayMarkLaw = (o : Opening) (h : List Entry) (marks : List ℕ)
    → ((thread : ℕ) → (entries_between h (covered marks) (length h) thread ≡ 0)
    ⊎ ((quota : ℕ) × (entries_between h (covered marks) (length h) thread + quota ≡ o.settings.every)
    × ((quota ≡ 0) ⊎ IsPause (next_command o h thread))))
    → MayMark o h marks

-- a memory in which nothing is pending is safe where what memory holds is what was covered
abbrev pub QuietSafeLaw : Type 0
QuietSafeLaw = (o : Opening) (h : List Entry) (marks : List ℕ) (memory : List BankState) → IsQuiet memory
    → LeavesCovered o h marks (image_of memory nothing_kept) → IsCrashSafe o h marks memory

-- while the super room keeps the epoch, a memory is safe whose cells stand at it for what was covered
abbrev pub EpochSafeLaw : Type 0
EpochSafeLaw = (o : Opening) (h : List Entry) (marks : List ℕ) (memory : List BankState)
    → StandsAt live_layout (sizes o) (epoch_after o marks) memory (after (sizes o) o.state (take (covered marks) h))
    → HasEpoch (sizes o) (epoch_after o marks) memory → IsCrashSafe o h marks memory

-- while the next epoch's store is pending, a memory is safe whose cells stand at this epoch for what was covered and at the next for all
abbrev pub NextEpochSafeLaw : Type 0
NextEpochSafeLaw = (o : Opening) (h : List Entry) (marks : List ℕ) (memory : List BankState)
    → StandsAt live_layout (sizes o) (epoch_after o marks) memory (after (sizes o) o.state (take (covered marks) h))
    → StandsAt live_layout (sizes o) (epoch_after o marks + 1) memory (after (sizes o) o.state h)
    → HasNextEpoch (sizes o) (epoch_after o marks) memory → IsLegalLife o h (marks ++ length h ∷ [])
    → IsCrashSafe o h marks memory

-- a start is safe before its first event
abbrev pub StartSafeLaw : Type 0
StartSafeLaw = (o : Opening) (memory : List BankState) → AreValid (sizes o) → IsQuiet memory
    → IsFormatted live_layout (sizes o) (image_of memory nothing_kept) → o.state ≡ first_state (sizes o) → o.epoch ≡ 1
    → IsCrashSafe o [] [] memory

-- a resume is safe before its first event
abbrev pub ResumeSafeLaw : Type 0
ResumeSafeLaw = (o : Opening) (memory : List BankState) → IsQuiet memory
    → ResumesFrom (sizes o) (image_of memory nothing_kept) o → IsCrashSafe o [] [] memory
