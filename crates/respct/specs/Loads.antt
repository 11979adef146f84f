-- Loading an image: what the store keeps under the name, whether that is a lawful image, and its first fault where it is none.
use Rattle.std.specs.Prelude.{◌≡◌, ◌⊎◌, ℕ, Option, Some, None, List, Result, Ok, Err}
use Rattle.byte_ports.specs.Causes.{Rose}
use Rattle.byte_ports.specs.Images.{Named, Finds, HeldUnder}
use Rattle.seq_object.specs.declared.sizes.Sizes.{Sizes}
use Rattle.room_model.specs.MapRoom.{live_layout}
use Rattle.room_model.specs.Image.{ImageRooms as Rooms, IsLawful}
use Rattle.power_cut.specs.declared.fault.ImageFault.{ImageFault}
use Rattle.power_cut.specs.Image.{sizes_in, rooms_in, AreWhole}
use Rattle.power_cut.specs.Bytes.{image_bytes_of, first_fault}
use Rattle.image_check.specs.ImageFaults.{image_fault}
use Rattle.image_check.specs.Recovered.{IsRecovered}
use Rattle.respct.specs.declared.loading.Loaded.{Loaded}
use Rattle.respct.specs.declared.loading.NotLoaded.{NotLoaded}
use Rattle.respct.specs.declared.loading.NotLoaded.TheVariants.{Failed, Missing, Fault, OutOfMemory}

-- the bytes spell a whole image of these sizes and rooms
pub record IsSpelling (bytes : List ℕ) (z : Sizes) (rooms : Rooms) : Type 0 where
  pub whole : AreWhole z rooms
  pub spelled : bytes ≡ image_bytes_of z rooms

-- the bytes spell a whole and lawful image
pub record IsLawfulSpelling (bytes : List ℕ) (z : Sizes) (rooms : Rooms) : Type 0 where
  pub spelling : IsSpelling bytes z rooms
  pub lawful : IsLawful live_layout z rooms

-- the bytes are those of no lawful image
abbrev pub AreNoImage : List ℕ → Type 0
AreNoImage bytes = (z : Sizes) (rooms : Rooms) → IsLawfulSpelling bytes z rooms → ⊥

-- the bytes spell a whole image, whose words have this first fault
pub record HasWordFault (bytes : List ℕ) (f : ImageFault) : Type 0 where
  pub sizes : Sizes
  pub rooms : Rooms
  pub spelling : IsSpelling bytes sizes rooms
  pub first : image_fault live_layout sizes rooms ≡ Some f

-- the first fault: of the bytes, where they spell no image, and else of the image's words
abbrev pub IsFirstFault : List ℕ → ImageFault → Type 0
IsFirstFault bytes f = (first_fault bytes ≡ Some f) ⊎ HasWordFault bytes f

-- the bytes spell this image, which is whole and lawful and recovers to what was found
pub record IsImageOf (bytes : List ℕ) (loaded : Loaded) : Type 0 where
  pub spelling : IsSpelling bytes (sizes_in loaded.image) (rooms_in loaded.image)
  pub found : IsRecovered live_layout (sizes_in loaded.image) (rooms_in loaded.image) loaded.found

-- the bytes are those of no lawful image, and this is their first fault
pub record AreRefusedBy (bytes : List ℕ) (f : ImageFault) : Type 0 where
  pub other : AreNoImage bytes
  pub first : IsFirstFault bytes f

-- the store keeps under the name exactly the bytes of this image, which is whole and lawful and recovers to what was found
pub record HasLoaded (kept : Option Named) (name : List ℕ) (loaded : Loaded) : Type 0 where
  pub bytes : List ℕ
  pub held : HeldUnder kept name bytes
  pub image : IsImageOf bytes loaded

-- the store keeps under the name bytes of no lawful image, and this is their first fault
pub record IsFaulty (kept : Option Named) (name : List ℕ) (f : ImageFault) : Type 0 where
  pub bytes : List ℕ
  pub held : HeldUnder kept name bytes
  pub refused : AreRefusedBy bytes f

-- the cause for which no image is loaded; want of memory is free
abbrev pub IsNotLoaded : Option Named → List ℕ → ℕ → ℕ → NotLoaded → Type 0
IsNotLoaded kept name faults faults_now Failed = Rose faults faults_now
IsNotLoaded kept name faults faults_now Missing = Finds kept name None
IsNotLoaded kept name faults faults_now (Fault f) = IsFaulty kept name f
IsNotLoaded kept name faults faults_now OutOfMemory = Unit {0}

-- an image of these sizes and rooms was loaded, or memory ran out
abbrev pub IsLoadedUnlessStarved : Sizes → Rooms → Result Loaded NotLoaded → Type 0
IsLoadedUnlessStarved z rooms (Ok loaded) = (sizes_in loaded.image ≡ z) × (rooms_in loaded.image ≡ rooms)
IsLoadedUnlessStarved z rooms (Err refusal) = refusal ≡ OutOfMemory

-- there is nothing under the name, or memory ran out
abbrev pub IsMissingUnlessStarved : NotLoaded → Type 0
IsMissingUnlessStarved refusal = (refusal ≡ Missing) ⊎ (refusal ≡ OutOfMemory)

-- bytes of no lawful image are refused by their first fault, or memory ran out
abbrev pub IsFaultUnlessStarved : List ℕ → NotLoaded → Type 0
IsFaultUnlessStarved bytes Failed = ⊥
IsFaultUnlessStarved bytes Missing = ⊥
IsFaultUnlessStarved bytes (Fault f) = IsFirstFault bytes f
IsFaultUnlessStarved bytes OutOfMemory = Unit {0}

-- no image was loaded, by this cause
abbrev pub IsUnloadedBy : (NotLoaded → Type 0) → Result Loaded NotLoaded → Type 0
IsUnloadedBy cause (Ok loaded) = ⊥
IsUnloadedBy cause (Err refusal) = cause refusal

-- to what these bytes lead, under the name of an image
pub record AreBytesDecided (bytes : List ℕ) (result : Result Loaded NotLoaded) : Type 0 where
  pub lawful : (z : Sizes) (rooms : Rooms) → IsLawfulSpelling bytes z rooms → IsLoadedUnlessStarved z rooms result
  pub other : AreNoImage bytes → IsUnloadedBy (IsFaultUnlessStarved bytes) result

-- to what a store leads that does not fail, by what it keeps under the name
abbrev pub IsLoadDecided : Option (List ℕ) → Result Loaded NotLoaded → Type 0
IsLoadDecided None result = IsUnloadedBy IsMissingUnlessStarved result
IsLoadDecided (Some bytes) result = AreBytesDecided bytes result

-- bytes have one first fault
abbrev pub OneFaultLaw : Type 0
OneFaultLaw = (bytes : List ℕ) (f g : ImageFault) → IsFirstFault bytes f → IsFirstFault bytes g → f ≡ g

-- bytes that have a first fault are those of no lawful image
abbrev pub FaultyLaw : Type 0
FaultyLaw = (bytes : List ℕ) (f : ImageFault) → IsFirstFault bytes f → AreNoImage bytes
