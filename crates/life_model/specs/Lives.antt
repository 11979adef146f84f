-- Lists of lives, each but the first resuming from an image that the one before left.
use Rattle.std.specs.Prelude.{◌≡◌, ℕ, List, [], ◌∷◌, ◌++◌}
use Rattle.seq_object.specs.declared.history.Entry.{Entry}
use Rattle.seq_object.specs.Object.{no_contents}
use Rattle.seq_object.specs.History.{of_thread, IsLegal, after, first_state, AreCommands, Scripts}
use Rattle.life_model.specs.declared.life.Life.TheVariants.{Start, Resume}
use Rattle.line_memory.specs.Line.{BankState}
use Rattle.room_model.specs.MapRoom.{live_layout}
use Rattle.room_model.specs.Image.{KeptCounts, ImageRooms, image_of, epoch_at, Recovers}
use Rattle.life_model.specs.Life.{Opening, sizes, script_of, IsLegalLife}
use Rattle.life_model.specs.Crash.{IsCrashSafe, recovered_prefix}
use Rattle.seq_object.specs.declared.sizes.Sizes.{Sizes}

-- a life that was lived: how it began, its history and marks, the memory that it left, and the choice of the power cut after it
pub record LivedLife : Type 0 where
  pub opening : Opening
  pub history : List Entry
  pub marks : List ℕ
  pub memory : List BankState
  pub choice : KeptCounts

-- the image that is left of a life
abbrev pub surviving_image : LivedLife → ImageRooms
surviving_image l = image_of l.memory l.choice

-- the prefix of its history that this image keeps
abbrev pub recovered_history : LivedLife → List Entry
recovered_history l = recovered_prefix l.opening l.history l.marks (epoch_at (sizes l.opening) (surviving_image l))

-- a legal life with these sizes and commands, whose memory is safe at a power cut
pub record IsLife (z : Sizes) (scripts : Scripts) (l : LivedLife) : Type 0 where
  pub same_sizes : sizes l.opening ≡ z
  pub same_scripts : l.opening.scripts ≡ scripts
  pub legal : IsLegalLife l.opening l.history l.marks
  pub safe : IsCrashSafe l.opening l.history l.marks l.memory

-- a life resumes from an image: it begins in the image's epoch and in the state that the image recovers to
pub record ResumesFrom (z : Sizes) (image : ImageRooms) (o : Opening) : Type 0 where
  pub life : o.life ≡ Resume
  pub epoch : o.epoch ≡ epoch_at z image
  pub state : Recovers live_layout z image o.state

-- each of these lives resumes from the image that was left before it
abbrev pub AreResumed : Sizes → Scripts → ImageRooms → List LivedLife → Type 0
AreResumed z scripts image [] = Unit {0}
AreResumed z scripts image (l ∷ ls) = IsLife z scripts l × ResumesFrom z image l.opening × AreResumed z scripts (surviving_image l) ls

-- the first life is a start, and each later one resumes from an image that the one before left
abbrev pub AreLives : Sizes → Scripts → LivedLife → List LivedLife → Type 0
AreLives z scripts first later = IsLife z scripts first × (first.opening.life ≡ Start) × AreResumed z scripts (surviving_image first) later

-- the prefixes of their histories that these lives' images keep, joined in order
abbrev pub all_recovered : List LivedLife → List Entry
all_recovered [] = []
all_recovered (l ∷ ls) = recovered_history l ++ all_recovered ls

-- the image that is left of the last of these lives, and this one where there is none
abbrev pub last_image : ImageRooms → List LivedLife → ImageRooms
last_image image [] = image
last_image image (l ∷ ls) = last_image (surviving_image l) ls

-- an image holds what one history left: it is legal from the empty object, each thread's entries in it are its commands in order
-- from the first on with the indexes 0, 1, 2 and so on, and the image recovers to the state after it
pub record HasOneHistory (z : Sizes) (scripts : Scripts) (image : ImageRooms) (h : List Entry) : Type 0 where
  pub replies : IsLegal z no_contents h
  pub commands : (thread : ℕ) → AreCommands (script_of scripts thread) 0 (of_thread thread h)
  pub recovers : Recovers live_layout z image (after z (first_state z) h)
