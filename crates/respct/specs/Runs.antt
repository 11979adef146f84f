-- Runs of the program one after another over one store: a start, and resumes under the same name.
use Rattle.std.specs.Prelude.{◌≡◌, ℕ, List, [], ◌∷◌, map, Option, Some}
use Rattle.std.specs.FinMap.{get}
use Rattle.byte_ports.specs.Images.{Named}
use Rattle.line_memory.specs.Line.{BankState}
use Rattle.seq_object.specs.History.{Scripts}
use Rattle.seq_object.specs.Sizes.{sizes_of}
use Rattle.life_model.specs.declared.life.Life.TheVariants.{Start, Resume}
use Rattle.life_model.specs.Lives.{LivedLife, AreLives}
use Rattle.life_model.specs.Told.{life_told}
use Rattle.store_order.specs.declared.choice.Choice.{Choice}
use Rattle.power_cut.specs.Cut.{choosing}
use Rattle.respct.specs.Run.{Led, IsLed, HasSaved}

-- a run that led a life: what its source had and what the store kept before it and behind it, the life, the memory that this left, and the
-- choice by which its image was made
pub record Run : Type 0 where
  pub left : Option (List ℕ)
  pub rest : Option (List ℕ)
  pub before : Named
  pub behind : Named
  pub led : Led
  pub memory : List BankState
  pub keep : Choice

-- it led a life of these commands, and saved its image under this name
pub record IsRun (scripts : Scripts) (name : List ℕ) (r : Run) : Type 0 where
  pub led : IsLed r.left r.rest (Some r.before) r.memory r.led
  pub saved : HasSaved (Some r.before) (Some r.behind) r.memory r.led
  pub keep : saved.keep ≡ r.keep
  pub named : r.led.name ≡ name
  pub commands : r.led.program.threads ≡ scripts

-- these runs are resumes, each over what the one before kept under the name; the first of them over what this store keeps
abbrev pub AreResumesOf : Scripts → List ℕ → Named → List Run → Type 0
AreResumesOf scripts name kept [] = Unit {0}
AreResumesOf scripts name kept (r ∷ rs) = IsRun scripts name r × (r.led.life ≡ Resume) × (get r.before name ≡ get kept name) × AreResumesOf scripts name r.behind rs

-- the first run is a start, and each later one a resume over what the one before kept
abbrev pub AreRuns : Scripts → List ℕ → Run → List Run → Type 0
AreRuns scripts name first later = IsRun scripts name first × (first.led.life ≡ Start) × AreResumesOf scripts name first.behind later

-- the life of a run as it was lived, with the choice of the cut behind it
abbrev pub life_of : Run → LivedLife
life_of r = life_told r.led.opening r.led.report r.memory (choosing r.keep r.memory)

-- runs that follow one another lead lives that follow one another
abbrev pub RunsLaw : Type 0
RunsLaw = (scripts : Scripts) (name : List ℕ) (first : Run) (later : List Run) → AreRuns scripts name first later
    → AreLives (sizes_of first.led.program.settings) scripts (life_of first) (map life_of later)
