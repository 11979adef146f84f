-- The code of each status, and the line that tells it.
use Rattle.std.specs.Prelude.{ℕ, List, ◌++◌, codes, Result, Ok, Err}
use Rattle.std.specs.Fmt.{decimal}
use Rattle.byte_ports.specs.declared.refusal.StoreRefusal.TheVariants as stores
use Rattle.life_model.specs.declared.life.Outcome.{Outcome}
use Rattle.life_model.specs.declared.life.Outcome.TheVariants as ends
use Rattle.power_cut.specs.FaultText.{fault_text}
use Rattle.script_text.specs.Faults.{kind_text}
use Rattle.respct.specs.declared.checking.NotChecked.{NotChecked}
use Rattle.respct.specs.declared.checking.NotChecked.TheVariants as checks
use Rattle.respct.specs.declared.drilling.NotDrilled.{NotDrilled}
use Rattle.respct.specs.declared.drilling.NotDrilled.TheVariants as drills
use Rattle.respct.specs.declared.leading.NoReport.{NoReport}
use Rattle.respct.specs.declared.leading.NoReport.TheVariants.{Unread, Unopened, Untold, Unsaved, Unwritten}
use Rattle.respct.specs.declared.loading.NotLoaded.{NotLoaded}
use Rattle.respct.specs.declared.loading.NotLoaded.TheVariants as images
use Rattle.respct.specs.declared.opening.NotOpened.{NotOpened}
use Rattle.respct.specs.declared.opening.NotOpened.TheVariants as openings
use Rattle.respct.specs.declared.reading.NoScript.{NoScript}
use Rattle.respct.specs.declared.reading.NoScript.TheVariants as scripts
use Rattle.respct.specs.declared.status.Status.{Status}
use Rattle.respct.specs.declared.status.Status.TheVariants.{Finished, Usage, Script, Stalled, Cut, Image, Misfit, ReadFault, WriteFault, StoreFault}
use Rattle.respct.specs.declared.status.Status.TheVariants.{NoImage, OutOfMemory, TooLong}
use Rattle.respct.specs.Misfits.{misfit_text}

-- the code with which the program exits
abbrev pub code_of : Status → ℕ
code_of Finished = 0
code_of Usage = 1
code_of (Script fault) = 2
code_of Stalled = 3
code_of Cut = 4
code_of (Image fault) = 5
code_of (Misfit m) = 6
code_of ReadFault = 7
code_of WriteFault = 8
code_of StoreFault = 9
code_of NoImage = 10
code_of OutOfMemory = 11
code_of TooLong = 12

-- the line that tells the status, without its end
abbrev pub status_text : Status → List ℕ
status_text Finished = codes "finished"
status_text Usage = codes "usage: respct start, resume or check with --image NAME, or respct drill N"
status_text (Script fault) = codes "script: line " ++ decimal fault.line ++ codes ": " ++ kind_text fault.kind
status_text Stalled = codes "stalled"
status_text Cut = codes "cut"
status_text (Image fault) = codes "image: " ++ fault_text fault
status_text (Misfit m) = codes "misfit: " ++ misfit_text m
status_text ReadFault = codes "cannot read the script"
status_text WriteFault = codes "cannot write the report"
status_text StoreFault = codes "cannot use the image store"
status_text NoImage = codes "no such image"
status_text OutOfMemory = codes "out of memory"
status_text TooLong = codes "script too long"

-- the status says why the call was refused: it is not one of how a life ended, want of memory apart
abbrev pub IsRefusal : Status → Type 0
IsRefusal Finished = ⊥
IsRefusal Usage = Unit {0}
IsRefusal (Script fault) = Unit {0}
IsRefusal Stalled = ⊥
IsRefusal Cut = ⊥
IsRefusal (Image fault) = Unit {0}
IsRefusal (Misfit m) = Unit {0}
IsRefusal ReadFault = Unit {0}
IsRefusal WriteFault = Unit {0}
IsRefusal StoreFault = Unit {0}
IsRefusal NoImage = Unit {0}
IsRefusal OutOfMemory = Unit {0}
IsRefusal TooLong = Unit {0}

-- the status of a life that ended so
abbrev pub status_of_end : Outcome → Status
status_of_end ends.Finished = Finished
status_of_end ends.Stalled = Stalled
status_of_end ends.Cut = Cut
status_of_end ends.Starved = OutOfMemory

-- the status of a life without a script
abbrev pub status_of_unread : NoScript → Status
status_of_unread scripts.Failed = ReadFault
status_of_unread scripts.TooLong = TooLong
status_of_unread (scripts.Fault fault) = Script fault
status_of_unread scripts.OutOfMemory = OutOfMemory

-- the status of a call that loads an image and has none
abbrev pub status_of_unloaded : NotLoaded → Status
status_of_unloaded images.Failed = StoreFault
status_of_unloaded images.Missing = NoImage
status_of_unloaded (images.Fault fault) = Image fault
status_of_unloaded images.OutOfMemory = OutOfMemory

-- the status of a life without a memory over which it may begin
abbrev pub status_of_unopened : NotOpened → Status
status_of_unopened (openings.Unloaded refusal) = status_of_unloaded refusal
status_of_unopened (openings.Misfit m) = Misfit m
status_of_unopened openings.OutOfMemory = OutOfMemory

-- the status of a life without its report
abbrev pub status_of_refusal : NoReport → Status
status_of_refusal (Unread refusal) = status_of_unread refusal
status_of_refusal (Unopened refusal) = status_of_unopened refusal
status_of_refusal Untold = OutOfMemory
status_of_refusal (Unsaved stores.Failed) = StoreFault
status_of_refusal (Unsaved stores.OutOfMemory) = OutOfMemory
status_of_refusal (Unwritten stores.Failed) = WriteFault
status_of_refusal (Unwritten stores.OutOfMemory) = OutOfMemory

-- the status of a life
abbrev pub status_of_life : Result Outcome NoReport → Status
status_of_life (Ok outcome) = status_of_end outcome
status_of_life (Err refusal) = status_of_refusal refusal

-- the status of a check
abbrev pub status_of_check : Result (Unit {0}) NotChecked → Status
status_of_check (Ok done) = Finished
status_of_check (Err (checks.Unloaded refusal)) = status_of_unloaded refusal
status_of_check (Err (checks.Unwritten stores.Failed)) = WriteFault
status_of_check (Err (checks.Unwritten stores.OutOfMemory)) = OutOfMemory

-- the status of a drill
abbrev pub status_of_drill : Result (Unit {0}) NotDrilled → Status
status_of_drill (Ok done) = Finished
status_of_drill (Err drills.Untold) = OutOfMemory
status_of_drill (Err (drills.Unwritten stores.Failed)) = WriteFault
status_of_drill (Err (drills.Unwritten stores.OutOfMemory)) = OutOfMemory
