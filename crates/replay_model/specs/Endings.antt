-- What is told of a replay when it has ended.
use Rattle.std.specs.Prelude.{◌≡◌, ℕ, ◌≤◌, List, []}
use Rattle.seq_object.specs.History.{total}
use Rattle.seq_object.specs.Sizes.{room_count}
use Rattle.line_memory.specs.Line.{BankState, all_write_backs}
use Rattle.room_model.specs.Image.{ImageRooms}
use Rattle.life_model.specs.declared.life.Life.TheVariants.{Start}
use Rattle.life_model.specs.Life.{reported}
use Rattle.life_model.specs.Lives.{ResumesFrom}
use Rattle.life_model.specs.Work.{recovery_write_backs}
use Rattle.life_model.specs.Told.{ReportState, TellsOf, is_resume}
use Rattle.yard_model.specs.declared.view.Beginning.{Beginning}
use Rattle.yard_model.specs.Beginnings.{opening_of, sizes_at, marks_of, write_backs_at}
use Rattle.yard_model.specs.Lives.{IsMemoryOf, NamesDead}
use Rattle.yard_model.specs.Outcomes.{ShowsEnd}
use Rattle.plain_yard.specs.Shown.{ShownYard, IsLawfulYard}

-- a report and a memory are those of a yard, of which all rooms are at home: the yard's entries, and its checkpoints with their epochs; the rooms
-- that were given back in mid-work; and how the yard shows that its life ends
pub record IsReportOfYard (y : ShownYard) (r : ReportState) (memory : List BankState) : Type 0 where
  pub resumed : r.resumed ≡ is_resume y.beginning.life
  pub began : r.began ≡ y.beginning.epoch
  pub entries : r.entries ≡ y.told.history
  pub marks : r.marks ≡ reported (opening_of y.beginning) (marks_of y.beginning y.told.checkpoints)
  pub memory_of : IsMemoryOf y.beginning y.told.world memory
  pub held : NamesDead y.beginning y.told.world r.held
  pub ends : ShowsEnd r.outcome y.beginning y.told.world y.told.checkpoints

-- a start over memory that had counted no write-back
pub record IsFreshStart (b : Beginning) : Type 0 where
  pub start : b.life ≡ Start
  pub counts : (room : ℕ) → write_backs_at b room ≡ 0

-- a report of a start that is its yard's tells of the life, where it tells the write-backs that the memory counted
abbrev pub StartIsToldLaw : Type 0
StartIsToldLaw = (y : ShownYard) (r : ReportState) (memory : List BankState) → IsLawfulYard y → IsFreshStart y.beginning → IsReportOfYard y r memory
    → r.flushed ≡ all_write_backs memory → TellsOf (opening_of y.beginning) [] 0 r memory

-- a resume from an image, over memory that had counted no more write-backs than a recovery of the image may make
pub record IsRecoveredResume (b : Beginning) (image : ImageRooms) : Type 0 where
  pub from : ResumesFrom (sizes_at b) image (opening_of b)
  pub counts : total (write_backs_at b) (room_count (sizes_at b)) ≤ recovery_write_backs (opening_of b) image

-- a report of a resume that is its yard's tells of the life, where it tells the write-backs that the memory counted
abbrev pub ResumeIsToldLaw : Type 0
ResumeIsToldLaw = (y : ShownYard) (image : ImageRooms) (r : ReportState) (memory : List BankState) → IsLawfulYard y → IsRecoveredResume y.beginning image
    → IsReportOfYard y r memory → r.flushed ≡ all_write_backs memory → TellsOf (opening_of y.beginning) image 0 r memory
