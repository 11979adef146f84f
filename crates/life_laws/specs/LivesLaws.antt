-- The laws of lists of lives: what is left of them holds what one history left.
use Rattle.std.specs.Prelude.{◌≡◌, ℕ, ◌≤◌, List, ◌++◌, length}
use Rattle.seq_object.specs.declared.history.Entry.{Entry}
use Rattle.seq_object.specs.History.{of_thread, total, after, Scripts}
use Rattle.line_memory.specs.Line.{BankState}
use Rattle.room_model.specs.MapRoom.{live_layout}
use Rattle.room_model.specs.Image.{ImageRooms, KeptCounts, image_of, epoch_at, Recovers}
use Rattle.life_model.specs.declared.life.Life.TheVariants.{Start}
use Rattle.life_model.specs.Life.{Opening, sizes, script_of, covered, IsLegalLife}
use Rattle.life_model.specs.Ends.{IsFinished}
use Rattle.life_model.specs.Crash.{epoch_after, IsCrashSafe, recovered_prefix}
use Rattle.life_model.specs.Lives.{LivedLife, IsLife, ResumesFrom, AreLives, surviving_image, recovered_history, all_recovered, last_image, HasOneHistory}
use Rattle.seq_object.specs.declared.sizes.Sizes.{Sizes}

-- whatever a power cut leaves recovers to the state after the kept prefix
abbrev pub KeptLaw : Type 0
KeptLaw = (o : Opening) (h : List Entry) (marks : List ℕ) (memory : List BankState) → IsCrashSafe o h marks memory → (choice : KeptCounts)
    → Recovers live_layout (sizes o) (image_of memory choice)
    (after (sizes o) o.state (recovered_prefix o h marks (epoch_at (sizes o) (image_of memory choice))))

-- no acknowledged epoch write is lost: what a power cut leaves has its epoch or a later one, and keeps at least what it covered
abbrev pub AcknowledgedLaw : Type 0
AcknowledgedLaw = (o : Opening) (h : List Entry) (marks : List ℕ) (memory : List BankState) → IsLegalLife o h marks
    → IsCrashSafe o h marks memory → (choice : KeptCounts) → (epoch_after o marks ≤ epoch_at (sizes o) (image_of memory choice))
    × (covered marks ≤ length (recovered_prefix o h marks (epoch_at (sizes o) (image_of memory choice))))

-- what a start leaves holds what it kept
abbrev pub FirstLifeLaw : Type 0
FirstLifeLaw = (z : Sizes) (scripts : Scripts) (l : LivedLife) → IsLife z scripts l → l.opening.life ≡ Start
    → HasOneHistory z scripts (surviving_image l) (recovered_history l)

-- what a life leaves that resumed from an image holds what that image held, and then what the life kept
abbrev pub NextLifeLaw : Type 0
NextLifeLaw = (z : Sizes) (scripts : Scripts) (image : ImageRooms) (h : List Entry) (l : LivedLife) → HasOneHistory z scripts image h
    → IsLife z scripts l → ResumesFrom z image l.opening → HasOneHistory z scripts (surviving_image l) (h ++ recovered_history l)

-- what is left of a list of lives holds the kept prefixes, joined in order
abbrev pub LivesLaw : Type 0
LivesLaw = (z : Sizes) (scripts : Scripts) (first : LivedLife) (later : List LivedLife) → AreLives z scripts first later
    → HasOneHistory z scripts (last_image (surviving_image first) later) (recovered_history first ++ all_recovered later)

-- where the last life is finished, what is kept has each command of each thread once
abbrev pub AllDoneLaw : Type 0
AllDoneLaw = (z : Sizes) (scripts : Scripts) (h : List Entry) (l : LivedLife) → HasOneHistory z scripts (surviving_image l) h
    → IsLife z scripts l → IsFinished l.opening l.history l.marks
    → ((thread : ℕ) → length (of_thread thread h) ≡ length (script_of scripts thread))
    × (length h ≡ total (λ thread. length (script_of scripts thread)) z.threads)
