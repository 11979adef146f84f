-- What the answers tell of the source and of the store, and which answer it is.
use Rattle.std.specs.Prelude.{◌≡◌, ℕ, ◌<◌, ◌≤◌, ◌+◌, ◌⊎◌, Option, Some, None, List, [], length}
use Rattle.std.specs.FinMap.{get}
use Rattle.byte_ports.specs.Bytes.{Gave}
use Rattle.byte_ports.specs.Images.{Named}
use Rattle.line_memory.specs.Line.{BankState}
use Rattle.seq_object.specs.declared.sizes.Sizes.{Sizes}
use Rattle.seq_object.specs.History.{State}
use Rattle.room_model.specs.MapRoom.{live_layout}
use Rattle.room_model.specs.Image.{ImageRooms, Recovers}
use Rattle.life_model.specs.declared.life.Life.{Life}
use Rattle.life_model.specs.declared.life.Life.TheVariants.{Start, Resume}
use Rattle.power_cut.specs.declared.fault.ImageFault.{ImageFault}
use Rattle.script_text.specs.declared.fault.ScriptFault.{ScriptFault}
use Rattle.script_text.specs.Program.{Program}
use Rattle.script_text.specs.Built.{IsBuiltText, IsRefusedFor}
use Rattle.respct.specs.declared.status.Status.{Status}
use Rattle.respct.specs.declared.status.Status.TheVariants.{Finished, Script, Stalled, Cut, Image, NoImage, OutOfMemory, TooLong}
use Rattle.respct.specs.declared.status.Status.TheVariants as statuses
use Rattle.respct.specs.declared.fitting.Misfit.{Misfit}
use Rattle.respct.specs.declared.answer.PlainAnswer.{PlainAnswer}
use Rattle.respct.specs.declared.answer.PlainAnswer.TheVariants.{Ended}
use Rattle.program_words.specs.Words.{IsResume, IsCheck}
use Rattle.respct.specs.Run.{script_limit, HasRead}
use Rattle.respct.specs.Loads.{IsSpelling, IsLawfulSpelling, AreNoImage, IsFirstFault}
use Rattle.respct.specs.Openings.{misfit_in}

-- nothing was written or saved, and no life began
pub record IsUntouched (held held_now : Option (List ℕ)) (kept kept_now : Option Named) (memory : List BankState) : Type 0 where
  pub held_same : held_now ≡ held
  pub kept_same : kept_now ≡ kept
  pub memory_is : memory ≡ []

-- no script was read, nothing was saved, and no life began
pub record IsNoLife (left rest : Option (List ℕ)) (kept kept_now : Option Named) (memory : List BankState) : Type 0 where
  pub left_same : rest ≡ left
  pub kept_same : kept_now ≡ kept
  pub memory_is : memory ≡ []

-- nothing was done but loading the image under this name, which a check does alone, and a resume behind reading its script
abbrev pub IsOnlyLoaded : List (List ℕ) → List ℕ → Option (List ℕ) → Option (List ℕ) → Option (List ℕ) → Option (List ℕ) → Option Named → Option Named → List BankState → Type 0
IsOnlyLoaded words name left rest held held_now kept kept_now memory =
    (IsCheck words name × (held_now ≡ held) × IsNoLife left rest kept kept_now memory)
    ⊎ (IsResume words name × ((p : Program) × HasRead left rest p) × IsUntouched held held_now kept kept_now memory)

-- the bytes that were read, all that the source had, are refused for this fault
pub record IsNoScript (left rest : Option (List ℕ)) (f : ScriptFault) : Type 0 where
  pub bytes : List ℕ
  pub few : length bytes ≤ script_limit
  pub read : Gave left rest bytes
  pub refused : IsRefusedFor bytes f

-- more bytes were taken than a script has; of a source that does not tell its bytes nothing is said
abbrev pub TookTooMuch : Option (List ℕ) → Option (List ℕ) → Type 0
TookTooMuch None rest = Unit {0}
TookTooMuch (Some left) None = ⊥
TookTooMuch (Some left) (Some rest) = script_limit + length rest < length left

-- the status is this one, or memory ran out
abbrev pub IsUnlessStarved : Status → Status → Type 0
IsUnlessStarved wanted status = (status ≡ wanted) ⊎ (status ≡ OutOfMemory)

-- the status is one of a life that was told: finished, stalled or cut; or memory ran out
abbrev pub IsOfLifeUnlessStarved : Status → Type 0
IsOfLifeUnlessStarved status = (status ≡ Finished) ⊎ ((status ≡ Stalled) ⊎ IsUnlessStarved Cut status)

-- the status to which the bytes under the name of an image lead a resume of this program: bytes of no lawful image are refused by their first
-- fault, and a lawful image by its first misfit; from one without a misfit a life is led
pub record IsGoneOn (p : Program) (bytes : List ℕ) (status : Status) : Type 0 where
  pub other : AreNoImage bytes → (f : ImageFault) → IsFirstFault bytes f → IsUnlessStarved (Image f) status
  pub misfit : (z : Sizes) (rooms : ImageRooms) (state : State) (m : Misfit) → IsSpelling bytes z rooms → Recovers live_layout z rooms state → misfit_in z rooms state p ≡ Some m
      → IsUnlessStarved (statuses.Misfit m) status
  pub fits : (z : Sizes) (rooms : ImageRooms) (state : State) → IsSpelling bytes z rooms → Recovers live_layout z rooms state → misfit_in z rooms state p ≡ None → IsOfLifeUnlessStarved status

-- and to which a name leads, by what is kept under it
abbrev pub LeadsOn : Program → Option (List ℕ) → Status → Type 0
LeadsOn p None status = IsUnlessStarved NoImage status
LeadsOn p (Some bytes) status = IsGoneOn p bytes status

-- the status to which a script leads a life of this kind: a start is carried out, and a resume by what a store that tells it keeps under the name
abbrev pub IsCarriedOut : Life → Option Named → List ℕ → Program → Status → Type 0
IsCarriedOut Start kept name p status = IsOfLifeUnlessStarved status
IsCarriedOut Resume kept name p status = (named : Named) → kept ≡ Some named → LeadsOn p (get named name) status

-- the status to which these bytes lead a life of this kind: a script whose turns are scheduled is carried out, and all other bytes are refused
-- for their fault
pub record IsDecided (life : Life) (kept : Option Named) (name bytes : List ℕ) (status : Status) : Type 0 where
  pub carried_out : length bytes ≤ script_limit → (p : Program) → IsBuiltText bytes p → IsCarriedOut life kept name p status
  pub refused : length bytes ≤ script_limit → (f : ScriptFault) → IsRefusedFor bytes f → IsUnlessStarved (Script f) status
  pub too_long : script_limit < length bytes → IsUnlessStarved TooLong status

-- the status to which the bytes under the name of an image lead a check: the text of the state of a lawful image is written, and other bytes
-- are refused by their first fault
pub record IsCheckedTo (bytes : List ℕ) (status : Status) : Type 0 where
  pub lawful : (z : Sizes) (rooms : ImageRooms) → IsLawfulSpelling bytes z rooms → IsUnlessStarved Finished status
  pub other : AreNoImage bytes → (f : ImageFault) → IsFirstFault bytes f → IsUnlessStarved (Image f) status

-- and to which a name leads, by what is kept under it
abbrev pub LeadsCheckTo : Option (List ℕ) → Status → Type 0
LeadsCheckTo None status = IsUnlessStarved NoImage status
LeadsCheckTo (Some bytes) status = IsCheckedTo bytes status

-- the status in an answer
abbrev pub status_in : PlainAnswer → Status
status_in (Ended status) = status
