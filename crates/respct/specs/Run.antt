-- A life that a call leads: the script that was read, how it begins, its run, the report that tells it, the memory that it leaves, and its image.
use Rattle.std.specs.Prelude.{◌≡◌, ℕ, ◌≤◌, List, length, Option}
use Rattle.byte_ports.specs.Bytes.{Gave}
use Rattle.byte_ports.specs.Images.{Named, SetsName}
use Rattle.line_memory.specs.Line.{BankState}
use Rattle.seq_object.specs.Sizes.{sizes_of}
use Rattle.room_model.specs.Image.{ImageRooms, image_of}
use Rattle.life_model.specs.declared.life.Life.{Life}
use Rattle.life_model.specs.Life.{Opening, lengths}
use Rattle.life_model.specs.Told.{ReportState, TellsOf}
use Rattle.store_order.specs.declared.choice.Choice.{Choice}
use Rattle.power_cut.specs.Cut.{choosing}
use Rattle.power_cut.specs.Image.{AreWhole}
use Rattle.power_cut.specs.Bytes.{image_bytes_of}
use Rattle.script_text.specs.Program.{Program, keeping_of}
use Rattle.script_text.specs.Text.{text_of}
use Rattle.script_text.specs.Schedules.{schedule_of}
use Rattle.script_text.specs.ReportLimits.{HasReportText}
use Rattle.script_text.specs.Built.{IsBuiltText}
use Rattle.script_run.specs.Jobs.{IsReplayedLife}
use Rattle.script_run.specs.Enough.{EndsWhereEnough, ClosesFew}
use Rattle.respct.specs.Openings.{BeginsAs, first_memory}

-- a script has at most so many bytes
abbrev pub script_limit : ℕ
script_limit = 8388608

-- the source had the text of this program, of the form that is built and within the limit, and nothing more
pub record HasRead (left rest : Option (List ℕ)) (p : Program) : Type 0 where
  pub built : IsBuiltText (text_of p) p
  pub few : length (text_of p) ≤ script_limit
  pub read : Gave left rest (text_of p)

-- a life that a call led: the name of its image, its script, its kind, the image from which it goes on, how it begins, and the report that
-- tells it
pub record Led : Type 0 where
  pub name : List ℕ
  pub program : Program
  pub life : Life
  pub image : ImageRooms
  pub opening : Opening
  pub report : ReportState

-- which thread has which turn of a program
abbrev pub schedule_in : Program → List ℕ
schedule_in p = schedule_of p.settings.threads p.turns

-- the source had the text of this script and nothing more; the life begins by its kind, a resume from the image that the store kept under its
-- name; the report tells of it and of the memory that it left, and both are those of its run over the memory with which it begins, in which
-- each turn is of the thread that the script's schedule names; it ends where the schedule offers enough rounds, and closes epochs seldom; and
-- the report is within the limits of its grammar
pub record IsLed (left rest : Option (List ℕ)) (kept : Option Named) (memory : List BankState) (led : Led) : Type 0 where
  pub source : HasRead left rest led.program
  pub begins : BeginsAs led.life kept led.name led.program led.image led.opening
  pub told : TellsOf led.opening led.image 0 led.report memory
  pub run : IsReplayedLife led.life led.program.settings led.program.threads (schedule_in led.program) (first_memory led.life led.program led.image) led.report memory
  pub ends : EndsWhereEnough led.opening (schedule_in led.program) led.report.outcome
  pub closes : ClosesFew led.opening led.report.entries (lengths led.report.marks)
  pub within : HasReportText led.report

-- the image that the script's choice leaves of this memory is whole and kept under the life's name now, and no other name has changed
pub record HasSaved (before after : Option Named) (memory : List BankState) (led : Led) : Type 0 where
  pub keep : Choice
  pub kept : keeping_of keep ≡ led.program.keep
  pub whole : AreWhole (sizes_of led.program.settings) (image_of memory (choosing keep memory))
  pub set : SetsName before after led.name (image_bytes_of (sizes_of led.program.settings) (image_of memory (choosing keep memory)))
