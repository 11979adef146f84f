-- What the steps of a life tell: reading the script, opening the memory, leading the life, saving the image, and writing the report.
use Rattle.std.specs.Prelude.{◌≡◌, ℕ, Option, List}
use Rattle.byte_ports.specs.Bytes.{TookSome, Appended, AppendedSome}
use Rattle.byte_ports.specs.Causes.{Rose}
use Rattle.byte_ports.specs.Images.{Named, OthersSame}
use Rattle.byte_ports.specs.declared.refusal.StoreRefusal.{StoreRefusal}
use Rattle.byte_ports.specs.declared.refusal.StoreRefusal.TheVariants as stores
use Rattle.line_memory.specs.Line.{BankState}
use Rattle.room_model.specs.Image.{image_of, nothing_kept}
use Rattle.life_model.specs.declared.life.Life.{Life}
use Rattle.life_model.specs.declared.life.Outcome.{Outcome}
use Rattle.life_model.specs.Life.{Opening, lengths}
use Rattle.life_model.specs.Told.{ReportState, TellsOf}
use Rattle.script_text.specs.Program.{Program}
use Rattle.script_text.specs.ReportText.{report_bytes}
use Rattle.script_text.specs.ReportLimits.{HasReportText}
use Rattle.script_run.specs.Jobs.{OpensOver, IsReplayedLife}
use Rattle.script_run.specs.Enough.{EndsWhereEnough, ClosesFew}
use Rattle.respct.specs.declared.leading.NoReport.{NoReport}
use Rattle.respct.specs.declared.leading.NoReport.TheVariants.{Unread, Unopened, Untold, Unsaved, Unwritten}
use Rattle.respct.specs.declared.opening.NotOpened.{NotOpened}
use Rattle.respct.specs.declared.reading.NoScript.{NoScript}
use Rattle.respct.specs.declared.reading.NoScript.TheVariants as scripts
use Rattle.respct.specs.Run.{schedule_in, Led, HasRead, IsLed, HasSaved}
use Rattle.respct.specs.Openings.{IsNotOpened}
use Rattle.respct.specs.Answers.{IsNoScript, TookTooMuch, IsUntouched}

-- the cause for which there is no script; want of memory is free
abbrev pub IsUnread : Option (List ℕ) → Option (List ℕ) → ℕ → ℕ → NoScript → Type 0
IsUnread left rest faults faults_now scripts.Failed = Rose faults faults_now
IsUnread left rest faults faults_now scripts.TooLong = TookTooMuch left rest
IsUnread left rest faults faults_now (scripts.Fault f) = IsNoScript left rest f
IsUnread left rest faults faults_now scripts.OutOfMemory = Unit {0}

-- a report and a memory are those of a life of this program over a memory: the report tells of each life that opens so, both are those of its
-- run, the life ends where its schedule offers enough rounds and closes seldom, and the report is within the limits of its grammar
pub record IsReportOver (life : Life) (p : Program) (before : List BankState) (r : ReportState) (memory : List BankState) : Type 0 where
  pub told : (o : Opening) → OpensOver life p.settings p.threads before o → TellsOf o (image_of before nothing_kept) 0 r memory
  pub run : IsReplayedLife life p.settings p.threads (schedule_in p) before r memory
  pub ends : (o : Opening) → OpensOver life p.settings p.threads before o → EndsWhereEnough o (schedule_in p) r.outcome
  pub closes : (o : Opening) → OpensOver life p.settings p.threads before o → ClosesFew o r.entries (lengths r.marks)
  pub within : HasReportText r

-- what the source, the sink and the image store tell: the bytes that are left, those that were written, the images by name, and how many
-- calls of each have failed
pub record Ports : Type 0 where
  pub left : Option (List ℕ)
  pub read_faults : ℕ
  pub held : Option (List ℕ)
  pub write_faults : ℕ
  pub kept : Option Named
  pub image_faults : ℕ

-- what they tell, one after the other
abbrev pub ports : Option (List ℕ) → ℕ → Option (List ℕ) → ℕ → Option Named → ℕ → Ports
ports left read_faults held write_faults kept image_faults =
    record { left = left; read_faults = read_faults; held = held; write_faults = write_faults; kept = kept; image_faults = image_faults }

-- a store or a sink refused: by a fault, or for want of memory, which is free
abbrev pub HasCause : StoreRefusal → ℕ → ℕ → Type 0
HasCause stores.Failed faults faults_now = Rose faults faults_now
HasCause stores.OutOfMemory faults faults_now = Unit {0}

-- a life of this kind was led, and its image has this name
pub record HasLed (life : Life) (name : List ℕ) (old new : Ports) (memory : List BankState) (led : Led) : Type 0 where
  pub life_is : led.life ≡ life
  pub named : led.name ≡ name
  pub is_led : IsLed old.left new.left old.kept memory led

-- a life was led and ended so, its image is saved under this name, and its whole report was appended
pub record HasReported (life : Life) (name : List ℕ) (old new : Ports) (memory : List BankState) (outcome : Outcome) : Type 0 where
  pub led : Led
  pub has_led : HasLed life name old new memory led
  pub saved : HasSaved old.kept new.kept memory led
  pub appended : Appended old.held new.held (report_bytes led.report)
  pub ended : led.report.outcome ≡ outcome

-- no life is told: some of the source's bytes were taken, and nothing else was done
pub record IsUntold (old new : Ports) (memory : List BankState) : Type 0 where
  pub took : TookSome old.left new.left
  pub untouched : IsUntouched old.held new.held old.kept new.kept memory

-- no life is told, though a script was read: there is no memory over which a life may begin, by this cause
pub record IsUnopened (life : Life) (name : List ℕ) (old new : Ports) (memory : List BankState) (refusal : NotOpened) : Type 0 where
  pub untold : IsUntold old new memory
  pub program : Program
  pub source : HasRead old.left new.left program
  pub cause : IsNotOpened life old.kept name program old.image_faults new.image_faults refusal

-- a life was led; its image could not be saved, so that what is under this name is open; nothing was written
pub record IsUnsaved (life : Life) (name : List ℕ) (old new : Ports) (memory : List BankState) : Type 0 where
  pub led : Led
  pub has_led : HasLed life name old new memory led
  pub others : OthersSame old.kept new.kept name
  pub held_same : new.held ≡ old.held

-- a life was led and its image is saved under this name; of its report a first part was appended
pub record IsUnwritten (life : Life) (name : List ℕ) (old new : Ports) (memory : List BankState) : Type 0 where
  pub led : Led
  pub has_led : HasLed life name old new memory led
  pub saved : HasSaved old.kept new.kept memory led
  pub some : AppendedSome old.held new.held (report_bytes led.report)

-- what a life without its report tells: its cause, and what is left
abbrev pub IsUnreported : Life → List ℕ → Ports → Ports → List BankState → NoReport → Type 0
IsUnreported life name old new memory (Unread refusal) = IsUnread old.left new.left old.read_faults new.read_faults refusal × IsUntold old new memory
IsUnreported life name old new memory (Unopened refusal) = IsUnopened life name old new memory refusal
IsUnreported life name old new memory Untold = IsUntold old new memory
IsUnreported life name old new memory (Unsaved refusal) = HasCause refusal old.image_faults new.image_faults × IsUnsaved life name old new memory
IsUnreported life name old new memory (Unwritten refusal) = HasCause refusal old.write_faults new.write_faults × IsUnwritten life name old new memory
