-- What a report tells of a life.
use Rattle.std.specs.Prelude.{◌≡◌, ℕ, ◌+◌, ◌<◌, Bool, true, false, List, All}
use Rattle.seq_object.specs.declared.history.Entry.{Entry}
use Rattle.line_memory.specs.Line.{BankState, all_write_backs}
use Rattle.room_model.specs.Image.{ImageRooms, KeptCounts}
use Rattle.life_model.specs.declared.life.Life.{Life}
use Rattle.life_model.specs.declared.life.Life.TheVariants.{Start, Resume}
use Rattle.life_model.specs.declared.life.Mark.{Mark}
use Rattle.life_model.specs.declared.life.Outcome.{Outcome}
use Rattle.life_model.specs.Life.{Opening, sizes, lengths, reported}
use Rattle.life_model.specs.Ends.{EndsAs}
use Rattle.life_model.specs.Present.{IsPresentOf}
use Rattle.life_model.specs.Work.{WritesFewBack}
use Rattle.life_model.specs.Lives.{LivedLife, IsLife, ResumesFrom}
use Rattle.seq_object.specs.Sizes.{room_count}

-- a report, without where its lists lie in memory
pub record ReportState : Type 0 where
  pub resumed : Bool
  pub began : ℕ
  pub entries : List Entry
  pub marks : List Mark
  pub held : List ℕ
  pub flushed : ℕ
  pub outcome : Outcome

-- whether a life goes on from an image
abbrev pub is_resume : Life → Bool
is_resume Start = false
is_resume Resume = true

-- the life of a report that began so and left this memory, with a choice of the power cut after it
abbrev pub life_told : Opening → ReportState → List BankState → KeptCounts → LivedLife
life_told o r memory choice = record { opening = o; history = r.entries; marks = lengths r.marks; memory = memory; choice = choice }

-- a report tells of a life that began so, at a resume from this image, over a memory that had counted so many write-backs and that it left
-- so: the life is legal and its memory safe at a power cut, it ends as told, the rooms that are not named as held stand by their loads, what
-- is named as held are rooms, the marks have their epochs, and the write-backs told are those that the memory counted, and few
pub record TellsOf (o : Opening) (image : ImageRooms) (before : ℕ) (r : ReportState) (memory : List BankState) : Type 0 where
  pub resumed : r.resumed ≡ is_resume o.life
  pub began : r.began ≡ o.epoch
  pub loaded : o.life ≡ Resume → ResumesFrom (sizes o) image o
  pub lived : (choice : KeptCounts) → IsLife (sizes o) o.scripts (life_told o r memory choice)
  pub ends : EndsAs r.outcome o r.entries (lengths r.marks)
  pub present : IsPresentOf o r.entries (lengths r.marks) r.held r.outcome memory
  pub held : All (λ room. room < room_count (sizes o)) r.held
  pub epochs : r.marks ≡ reported o (lengths r.marks)
  pub flushed : before + r.flushed ≡ all_write_backs memory
  pub few : WritesFewBack o image r.entries (lengths r.marks) r.flushed
