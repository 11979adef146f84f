-- The lives of a drill, one after another, and its summary.
use Rattle.std.specs.Prelude.{◌≡◌, ◌≢◌, ℕ, zero, suc, ◌≤◌, ◌⊎◌, List, [], ◌∷◌, length}
use Rattle.seq_object.specs.declared.history.Entry.{Entry}
use Rattle.seq_object.specs.Sizes.{sizes_of}
use Rattle.line_memory.specs.Line.{BankState}
use Rattle.room_model.specs.MapRoom.{live_layout}
use Rattle.room_model.specs.Formatted.{formatted_memory}
use Rattle.room_model.specs.Image.{image_of, nothing_kept}
use Rattle.life_model.specs.declared.life.Life.{Life}
use Rattle.life_model.specs.declared.life.Life.TheVariants.{Start, Resume}
use Rattle.life_model.specs.declared.life.Outcome.{Outcome}
use Rattle.life_model.specs.declared.life.Outcome.TheVariants.{Starved}
use Rattle.life_model.specs.Life.{Opening, lengths}
use Rattle.life_model.specs.Lives.{HasOneHistory}
use Rattle.life_model.specs.Told.{ReportState, TellsOf}
use Rattle.power_cut.specs.Cut.{choosing, quiet_memory}
use Rattle.image_check.specs.declared.recovered.Recovered.{Recovered}
use Rattle.image_check.specs.Recovered.{IsRecovered}
use Rattle.script_text.specs.Schedules.{schedule_of}
use Rattle.script_run.specs.Jobs.{OpensOver, IsReplayedLife}
use Rattle.script_run.specs.Enough.{EndsWhereEnough, ClosesFew}
use Rattle.drill.specs.declared.summary.Summary.{Summary}
use Rattle.drill.specs.Scripts.{drill_settings, drill_commands, drill_turns, drill_choice}
use Rattle.drill.specs.Summaries.{summary_over}

-- a life of a drill as it was lived: how it opened, its report, and the memory that it left
pub record DrillLife : Type 0 where
  pub opening : Opening
  pub report : ReportState
  pub left : List BankState

-- life 0 is a start, and each later one a resume
abbrev pub kind_of_life : ℕ → Life
kind_of_life zero = Start
kind_of_life (suc life) = Resume

-- a life of a drill over this memory: it opens over it, its report tells of it and of the memory that it left, both are those of the run under
-- the life's schedule, which ends it where it offers enough rounds, and it closed few epochs
pub record IsDrillLife (n life : ℕ) (over : List BankState) (l : DrillLife) : Type 0 where
  pub opens : OpensOver (kind_of_life life) drill_settings (drill_commands n) over l.opening
  pub told : TellsOf l.opening (image_of over nothing_kept) 0 l.report l.left
  pub run : IsReplayedLife (kind_of_life life) drill_settings (drill_commands n) (schedule_of drill_settings.threads (drill_turns n life)) over l.report l.left
  pub ends : EndsWhereEnough l.opening (schedule_of drill_settings.threads (drill_turns n life)) l.report.outcome
  pub closes : ClosesFew l.opening l.report.entries (lengths l.report.marks)

-- a life of a drill over this memory ended so and left this memory
pub record IsLivedOver (n life : ℕ) (over : List BankState) (outcome : Outcome) (memory : List BankState) : Type 0 where
  pub lived : DrillLife
  pub is : IsDrillLife n life over lived
  pub ended : lived.report.outcome ≡ outcome
  pub left : lived.left ≡ memory

-- the memory with which a drill begins
unfoldable pub drill_memory : List BankState
drill_memory = formatted_memory (sizes_of drill_settings)

-- the memory of the image that the cut behind a life leaves: the next life resumes over it
abbrev pub memory_behind : ℕ → ℕ → List BankState → List BankState
memory_behind n life left = quiet_memory (image_of left (choosing (drill_choice n life) left))

-- lives of a drill, the last of them and those before it, the latest of these first: the first of all begins over formatted memory, and each
-- other one over what is behind the life before it
abbrev pub AreDrillLives : ℕ → DrillLife → List DrillLife → Type 0
AreDrillLives n l [] = IsDrillLife n 0 drill_memory l
AreDrillLives n l (b ∷ bs) = IsDrillLife n (suc (length bs)) (memory_behind n (length bs) b.left) l × AreDrillLives n b bs

-- the lives of a drill up to this one, which ended so and left this memory
pub record HasLived (n life : ℕ) (outcome : Outcome) (memory : List BankState) : Type 0 where
  pub last : DrillLife
  pub before : List DrillLife
  pub number : length before ≡ life
  pub lives : AreDrillLives n last before
  pub ended : last.report.outcome ≡ outcome
  pub left : last.left ≡ memory

-- what want of memory leaves of a drill: no memory, or what one of its lives left, with the lives before it
abbrev pub IsLeftAtWant : ℕ → List BankState → Type 0
IsLeftAtWant n memory = (memory ≡ []) ⊎ (life : ℕ) × (life ≤ 8) × ((outcome : Outcome) × HasLived n life outcome memory)

-- a memory holds all commands of a drill: without what is pending in it, it recovers to what one history left, in which each thread's entries
-- are its commands from the first on, and which has an entry for each of the 800
pub record HoldsAllCommands (n : ℕ) (memory : List BankState) : Type 0 where
  pub history : List Entry
  pub is : HasOneHistory (sizes_of drill_settings) (drill_commands n) (image_of memory nothing_kept) history
  pub all : length history ≡ 800

-- a summary tells of the nine lives of a drill: memory ran out in none that is told of, and it is that of the state to which the memory that
-- the last one left recovers without what is pending in it
pub record IsSummaryOf (n : ℕ) (memory : List BankState) (s : Summary) : Type 0 where
  pub outcome : Outcome
  pub lived : HasLived n 8 outcome memory
  pub fed : outcome ≢ Starved
  pub found : Recovered
  pub recovers : IsRecovered live_layout (sizes_of drill_settings) (image_of memory nothing_kept) found
  pub is : s ≡ summary_over n outcome found
