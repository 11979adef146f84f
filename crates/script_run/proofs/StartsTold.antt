-- What is told of a start does not depend on an image, since a start loads none.
use Rattle.std.proofs.Common.{◌≡◌, ℕ, List}
use Rattle.seq_object.specs.declared.settings.Settings.{Settings}
use Rattle.seq_object.specs.History.{Scripts}
use Rattle.line_memory.specs.Line.{BankState}
use Rattle.room_model.specs.Image.{ImageRooms}
use Rattle.life_model.specs.declared.life.Life.TheVariants.{Start, Resume}
use Rattle.life_model.specs.Life.{start_of}
use Rattle.life_model.specs.Told.{ReportState, TellsOf}

no_resume : {A : Type 0} → Start ≡ Resume → A
no_resume is = absurd (cc is)

pub told_of_start : (settings : Settings) (scripts : Scripts) (image other : ImageRooms) (before : ℕ) (r : ReportState) (memory : List BankState) → TellsOf (start_of settings scripts) image before r memory
    → TellsOf (start_of settings scripts) other before r memory
told_of_start settings scripts image other before r memory told = record {
  resumed = told.resumed;
  began = told.began;
  loaded = λ resumes. no_resume resumes;
  lived = told.lived;
  ends = told.ends;
  present = told.present;
  held = told.held;
  epochs = told.epochs;
  flushed = told.flushed;
  few = told.few;
}
