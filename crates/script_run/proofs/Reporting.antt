-- The report of a yard whose rooms are all at home.
use Rattle.std.proofs.Common.{◌≡◌, ◌≤◌, ℕ, Bool, List, length, sym, ◌∙◌, subst, arith}
use Rattle.std.specs.Prelude.{vec_capacity}
use Rattle.seq_object.specs.declared.history.Entry.{Entry}
use Rattle.line_memory.specs.Line.{BankState}
use Rattle.life_model.specs.declared.life.Outcome.{Outcome}
use Rattle.life_model.specs.Life.{reported}
use Rattle.life_model.specs.Told.{ReportState, is_resume}
use Rattle.restart_point.specs.ArrivalWord.{is_set}
use Rattle.yard_model.specs.Beginnings.{opening_of, marks_of}
use Rattle.yard_model.specs.World.{arrival}
use Rattle.yard_model.specs.Lives.{IsMemoryOf, NamesDead}
use Rattle.yard_model.specs.Outcomes.{ShowsEnd}
use Rattle.plain_yard.specs.Shown.{ShownYard, IsLawfulYard}
use Rattle.replay_model.specs.Endings.{IsReportOfYard}
use Rattle.script_run.specs.declared.ending.Space.{Space}
use Rattle.script_run.specs.Ends.{HasSpace, TellsWaiting, outcome_of}
use Rattle.script_run.proofs.Fitting.{entries_fit}
use Rattle.script_run.proofs.Waiting.{shows_end}

-- there is room for each entry of the yard
pub has_room : (y : ShownYard) (space : Space) → IsLawfulYard y → HasSpace y.beginning.settings y.beginning.scripts space → length y.told.history ≤ vec_capacity space.entries
has_room y space lawful has = let e = entries_fit y.beginning y.told.world y.told.history y.told.checkpoints lawful in let f = has.entries in omega (arith, e, f)

-- what is read off a yard
pub record IsReadOff (y : ShownYard) (listed : List Entry) (numbers : List ℕ) (waiting : Bool) (memory : List BankState) : Type 0 where
  pub entries : listed ≡ y.told.history
  pub memory_of : IsMemoryOf y.beginning y.told.world memory
  pub held : NamesDead y.beginning y.told.world numbers
  pub waits : TellsWaiting waiting y.beginning y.told.world

-- what the code sets of itself in a report
pub record IsSetFor (y : ShownYard) (r : ReportState) (dry ended waiting : Bool) : Type 0 where
  pub resumed : r.resumed ≡ is_resume y.beginning.life
  pub began : r.began ≡ y.beginning.epoch
  pub marks : r.marks ≡ reported (opening_of y.beginning) (marks_of y.beginning y.told.checkpoints)
  pub over : ended ≡ is_set (arrival y.told.world) 17
  pub outcome : r.outcome ≡ outcome_of dry ended waiting

pub is_report : (y : ShownYard) (r : ReportState) (dry over waits : Bool) (memory : List BankState) → IsLawfulYard y → IsSetFor y r dry over waits
    → IsReadOff y r.entries r.held waits memory → IsReportOfYard y r memory
is_report y r dry over waits memory lawful of read = record {
  resumed = of.resumed;
  began = of.began;
  entries = read.entries;
  marks = of.marks;
  memory_of = read.memory_of;
  held = read.held;
  ends = subst (λ (o : Outcome). ShowsEnd o y.beginning y.told.world y.told.checkpoints) (sym of.outcome)
      (shows_end dry over waits y.beginning y.told.world y.told.checkpoints (of.over ∙ lawful.arrival.word.over) read.waits);
}
