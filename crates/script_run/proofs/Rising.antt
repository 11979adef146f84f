-- The marks of a report that tells of a life rise.
use Rattle.std.proofs.Common.{◌≡◌, ℕ, IfOk, Result, Ok, Err, refl}
use Rattle.std.specs.declared.alloc.AllocError.{AllocError}
use Rattle.line_memory.specs.Line.{BankState}
use Rattle.room_model.specs.Image.{ImageRooms}
use Rattle.life_model.specs.Life.{Opening}
use Rattle.life_model.specs.Told.{TellsOf}
use Rattle.std.specs.Prelude.{List}
use Rattle.script_text.specs.declared.report.Report.{Report}
use Rattle.script_text.specs.ReportText.{report_of, AreMarksRising}

pub rising_told : (o : Opening) (image : ImageRooms) (before : ℕ) (memory : List BankState) (r : Result Report AllocError)
    → IfOk r (λ report. (a : Opening) → a ≡ o → TellsOf a image before (report_of report) memory) → IfOk r (λ report. AreMarksRising (report_of report))
rising_told o image before memory (Ok report) told = ((told o refl).lived (λ room line. 0)).legal.order.rising
rising_told o image before memory (Err error) told = tt
