-- What a check tells: the text of the state that the image under a name recovers to.
use Rattle.std.specs.Prelude.{◌≡◌, ℕ, Option, Some, None, List, map, Result, Ok, Err}
use Rattle.byte_ports.specs.Bytes.{Appended, AppendedSome}
use Rattle.byte_ports.specs.Images.{Named, HeldUnder}
use Rattle.byte_ports.specs.declared.refusal.StoreRefusal.TheVariants as stores
use Rattle.seq_object.specs.declared.sizes.Sizes.{Sizes}
use Rattle.seq_object.specs.Plain.{listed}
use Rattle.seq_object.specs.History.{State}
use Rattle.room_model.specs.MapRoom.{live_layout}
use Rattle.room_model.specs.Image.{ImageRooms as Rooms, Recovers, epoch_at}
use Rattle.image_check.specs.declared.recovered.Recovered.{Recovered}
use Rattle.script_text.specs.StateText.{state_bytes}
use Rattle.respct.specs.declared.loading.NotLoaded.{NotLoaded}
use Rattle.respct.specs.declared.loading.NotLoaded.TheVariants as images
use Rattle.respct.specs.declared.checking.NotChecked.{NotChecked}
use Rattle.respct.specs.declared.checking.NotChecked.TheVariants.{Unloaded, Unwritten}
use Rattle.respct.specs.Loads.{IsSpelling, IsLawfulSpelling, AreNoImage, IsNotLoaded, IsMissingUnlessStarved, IsFaultUnlessStarved}
use Rattle.respct.specs.Steps.{HasCause}

-- the text of a state with its epoch
abbrev pub text_of_state : ℕ → State → List ℕ
text_of_state epoch state = state_bytes epoch (map (λ p. p.position) state.points) (listed state.contents.pairs) state.contents.items

-- the text of what was found of an image
abbrev pub found_text : Recovered → List ℕ
found_text found = state_bytes found.epoch found.positions.items found.pairs.items found.items.items

-- the store keeps a whole and lawful image under the name, and this is the text of its epoch and of the state that it recovers to
pub record IsStateText (kept : Option Named) (name told : List ℕ) : Type 0 where
  pub bytes : List ℕ
  pub sizes : Sizes
  pub rooms : Rooms
  pub state : State
  pub held : HeldUnder kept name bytes
  pub spelling : IsSpelling bytes sizes rooms
  pub recovers : Recovers live_layout sizes rooms state
  pub text : told ≡ text_of_state (epoch_at sizes rooms) state

-- the whole text of the state was appended
pub record HasChecked (kept : Option Named) (name : List ℕ) (held held_now : Option (List ℕ)) : Type 0 where
  pub text : List ℕ
  pub is_text : IsStateText kept name text
  pub appended : Appended held held_now text

-- a first part of the text of the state was appended
pub record HasCheckedSome (kept : Option Named) (name : List ℕ) (held held_now : Option (List ℕ)) : Type 0 where
  pub text : List ℕ
  pub is_text : IsStateText kept name text
  pub some : AppendedSome held held_now text

-- what a check tells that was not written to its end: the cause, by the counts of the store and of the sink, and what was written
abbrev pub IsUnchecked : Option Named → List ℕ → ℕ → ℕ → ℕ → ℕ → Option (List ℕ) → Option (List ℕ) → NotChecked → Type 0
IsUnchecked kept name image_faults image_faults_now write_faults write_faults_now held held_now (Unloaded refusal) =
    IsNotLoaded kept name image_faults image_faults_now refusal × (held_now ≡ held)
IsUnchecked kept name image_faults image_faults_now write_faults write_faults_now held held_now (Unwritten refusal) =
    HasCause refusal write_faults write_faults_now × HasCheckedSome kept name held held_now

-- the text was written, or memory ran out
abbrev pub IsCheckedUnlessStarved : Result (Unit {0}) NotChecked → Type 0
IsCheckedUnlessStarved (Ok done) = Unit {0}
IsCheckedUnlessStarved (Err (Unloaded refusal)) = refusal ≡ images.OutOfMemory
IsCheckedUnlessStarved (Err (Unwritten refusal)) = refusal ≡ stores.OutOfMemory

-- there was no image, by this cause
abbrev pub IsUncheckedBy : (NotLoaded → Type 0) → Result (Unit {0}) NotChecked → Type 0
IsUncheckedBy cause (Ok done) = ⊥
IsUncheckedBy cause (Err (Unloaded refusal)) = cause refusal
IsUncheckedBy cause (Err (Unwritten refusal)) = ⊥

-- to what these bytes lead, under the name of an image
pub record IsCheckDecidedBy (bytes : List ℕ) (result : Result (Unit {0}) NotChecked) : Type 0 where
  pub lawful : (z : Sizes) (rooms : Rooms) → IsLawfulSpelling bytes z rooms → IsCheckedUnlessStarved result
  pub other : AreNoImage bytes → IsUncheckedBy (IsFaultUnlessStarved bytes) result

-- to what a store and a sink lead that do not fail, by what the store keeps under the name
abbrev pub IsCheckDecided : Option (List ℕ) → Result (Unit {0}) NotChecked → Type 0
IsCheckDecided None result = IsUncheckedBy IsMissingUnlessStarved result
IsCheckDecided (Some bytes) result = IsCheckDecidedBy bytes result
