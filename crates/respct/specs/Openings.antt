-- How a life begins: a start over formatted memory, and a resume over the memory of the image that the store keeps under its name.
use Rattle.std.specs.Prelude.{◌≡◌, ℕ, Option, Some, None, List, [], map}
use Rattle.byte_ports.specs.Images.{Named, HeldUnder}
use Rattle.line_memory.specs.Line.{BankState}
use Rattle.seq_object.specs.declared.sizes.Sizes.{Sizes}
use Rattle.seq_object.specs.History.{State}
use Rattle.seq_object.specs.Sizes.{sizes_of}
use Rattle.room_model.specs.Formatted.{formatted_memory}
use Rattle.room_model.specs.MapRoom.{live_layout}
use Rattle.room_model.specs.Image.{ImageRooms as Rooms, Recovers, IsLawful, image_of, nothing_kept, epoch_at}
use Rattle.life_model.specs.declared.life.Life.{Life}
use Rattle.life_model.specs.declared.life.Life.TheVariants.{Start, Resume}
use Rattle.life_model.specs.Life.{Opening, start_of}
use Rattle.life_model.specs.Lives.{ResumesFrom}
use Rattle.power_cut.specs.Cut.{quiet_memory}
use Rattle.power_cut.specs.Image.{HaveWords}
use Rattle.script_text.specs.Program.{Program}
use Rattle.script_run.specs.Jobs.{IsReady}
use Rattle.respct.specs.declared.fitting.Misfit.{Misfit}
use Rattle.respct.specs.declared.opening.NotOpened.{NotOpened}
use Rattle.respct.specs.declared.opening.NotOpened.TheVariants as openings
use Rattle.respct.specs.Loads.{IsLawfulSpelling, IsNotLoaded}
use Rattle.respct.specs.Misfits.{first_misfit}

-- the store keeps under the name exactly the bytes of this image of these sizes, which is whole and lawful
pub record KeepsImage (kept : Option Named) (name : List ℕ) (z : Sizes) (rooms : Rooms) : Type 0 where
  pub bytes : List ℕ
  pub held : HeldUnder kept name bytes
  pub spelling : IsLawfulSpelling bytes z rooms

-- the places of a state's threads
abbrev pub places_in : State → List ℕ
places_in state = map (λ point. point.position) state.points

-- the first misfit of an image of these sizes, by its epoch and by the state that it recovers to, and a program
abbrev pub misfit_in : Sizes → Rooms → State → Program → Option Misfit
misfit_in z rooms state p = first_misfit z (epoch_at z rooms) (places_in state) p

-- a life of this program resumes from the image so
pub record ResumesAs (p : Program) (rooms : Rooms) (o : Opening) : Type 0 where
  pub settings_are : o.settings ≡ p.settings
  pub scripts_are : o.scripts ≡ p.threads
  pub from : ResumesFrom (sizes_of p.settings) rooms o

-- a life of this program goes on so from the image that the store keeps under the name, which fits the program
pub record GoesOn (kept : Option Named) (name : List ℕ) (p : Program) (rooms : Rooms) (o : Opening) : Type 0 where
  pub image : KeepsImage kept name (sizes_of p.settings) rooms
  pub opened : ResumesAs p rooms o
  pub fits : misfit_in (sizes_of p.settings) rooms o.state p ≡ None

-- a life of this program begins so by its kind: a start in the program's first state, from no image, and a resume as it goes on from an image
abbrev pub BeginsAs : Life → Option Named → List ℕ → Program → Rooms → Opening → Type 0
BeginsAs Start kept name p image o = (image ≡ []) × (o ≡ start_of p.settings p.threads)
BeginsAs Resume kept name p image o = GoesOn kept name p image o

-- the memory over which a life begins: formatted, and at a resume with the words of the image in its lines and nothing pending
abbrev pub first_memory : Life → Program → Rooms → List BankState
first_memory Start p image = formatted_memory (sizes_of p.settings)
first_memory Resume p image = quiet_memory image

-- this memory was made for a life of this program, which begins over it; its words have 64 bits where they are those of an image
pub record IsOpened (life : Life) (kept : Option Named) (name : List ℕ) (p : Program) (memory : List BankState) : Type 0 where
  pub image : Rooms
  pub opening : Opening
  pub begins : BeginsAs life kept name p image opening
  pub memory_is : memory ≡ first_memory life p image
  pub ready : IsReady life p.settings p.threads memory
  pub words : life ≡ Resume → HaveWords (image_of memory nothing_kept)

-- this is the first misfit of the image that the store keeps under the name, which is whole and lawful, and a program
pub record IsMisfit (kept : Option Named) (name : List ℕ) (p : Program) (m : Misfit) : Type 0 where
  pub sizes : Sizes
  pub rooms : Rooms
  pub state : State
  pub image : KeepsImage kept name sizes rooms
  pub recovers : Recovers live_layout sizes rooms state
  pub first : misfit_in sizes rooms state p ≡ Some m

-- the cause for which there is no memory over which a life may begin; want of memory is free, and a start has no other
abbrev pub IsNotOpened : Life → Option Named → List ℕ → Program → ℕ → ℕ → NotOpened → Type 0
IsNotOpened Start kept name p faults faults_now (openings.Unloaded refusal) = ⊥
IsNotOpened Start kept name p faults faults_now (openings.Misfit m) = ⊥
IsNotOpened Start kept name p faults faults_now openings.OutOfMemory = Unit {0}
IsNotOpened Resume kept name p faults faults_now (openings.Unloaded refusal) = IsNotLoaded kept name faults faults_now refusal
IsNotOpened Resume kept name p faults faults_now (openings.Misfit m) = IsMisfit kept name p m
IsNotOpened Resume kept name p faults faults_now openings.OutOfMemory = Unit {0}

-- from each lawful image of a program's sizes some life of the program resumes
abbrev pub LawfulResumesLaw : Type 0
LawfulResumesLaw = (p : Program) (rooms : Rooms) → IsLawful live_layout (sizes_of p.settings) rooms → (o : Opening) × ResumesAs p rooms o
