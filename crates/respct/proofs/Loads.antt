-- Loading an image: bytes and images are tied one to one, so bytes have one first fault, or are those of one lawful image.
use Rattle.std.proofs.Common.{◌≡◌, ℕ, List, Option, Some, Result, Ok, Err, inl, inr, sym, ap, subst, ◌∙◌}
use Rattle.room_model.specs.MapRoom.{live_layout}
use Rattle.room_model.specs.Image.{ImageRooms as Rooms}
use Rattle.room_laws.proofs.MapLaws.{layouts}
use Rattle.power_cut.specs.declared.fault.ImageFault.{ImageFault}
use Rattle.power_cut.specs.Image.{sizes_in, rooms_in}
use Rattle.power_cut.specs.Bytes.{first_fault}
use Rattle.power_cut.proofs.Heads.{spellings_pass}
use Rattle.power_cut.proofs.Quiet.{one_spelling}
use Rattle.image_check.specs.ImageFaults.{image_fault}
use Rattle.image_check.proofs.ImageChecks.{unlawful}
use Rattle.seq_object.specs.declared.sizes.Sizes.{Sizes}
use Rattle.respct.specs.declared.loading.Loaded.{Loaded}
use Rattle.respct.specs.declared.loading.NotLoaded.TheVariants.{Fault}
use Rattle.std.specs.FinMap.{get}
use Rattle.byte_ports.specs.Images.{Named, HeldUnder}
use Rattle.respct.specs.declared.loading.NotLoaded.{NotLoaded}
use Rattle.respct.specs.Loads.{IsSpelling, IsLawfulSpelling, AreNoImage, HasWordFault, IsFirstFault, IsImageOf, AreRefusedBy, AreBytesDecided, IsLoadDecided}

-- bytes that spell an image have no fault of their own
no_byte_fault : (bytes : List ℕ) (z : Sizes) (rooms : Rooms) (f : ImageFault) → IsSpelling bytes z rooms → first_fault bytes ≡ Some f → ⊥
no_byte_fault bytes z rooms f s is = cc (is, s.spelled, spellings_pass z rooms s.whole)

-- bytes spell one image
pub one_image : (bytes : List ℕ) (z y : Sizes) (rooms others : Rooms) → IsSpelling bytes z rooms → IsSpelling bytes y others → (z ≡ y) × (rooms ≡ others)
one_image bytes z y rooms others s t = one_spelling z y rooms others s.whole t.whole (sym s.spelled ∙ t.spelled)

-- the first fault of the words of the image that bytes spell
word_fault : (bytes : List ℕ) (z : Sizes) (rooms : Rooms) (f : ImageFault) → IsSpelling bytes z rooms → HasWordFault bytes f → image_fault live_layout z rooms ≡ Some f
word_fault bytes z rooms f s w =
    let same = one_image bytes z w.sizes rooms w.rooms s w.spelling in
    ap (λ (y : Sizes). image_fault live_layout y rooms) same.0 ∙ ap (image_fault live_layout w.sizes) same.1 ∙ w.first

-- bytes that have a first fault are those of no lawful image
pub faulty_law : (bytes : List ℕ) (f : ImageFault) → IsFirstFault bytes f → AreNoImage bytes
faulty_law bytes f (inl first) z rooms s = no_byte_fault bytes z rooms f s.spelling first
faulty_law bytes f (inr w) z rooms s = unlawful live_layout z rooms f layouts.in_use (word_fault bytes z rooms f s.spelling w) s.lawful

-- bytes have one first fault
pub one_fault_law : (bytes : List ℕ) (f g : ImageFault) → IsFirstFault bytes f → IsFirstFault bytes g → f ≡ g
one_fault_law bytes f g (inl first) (inl other) = cc (first, other)
one_fault_law bytes f g (inl first) (inr w) = absurd (no_byte_fault bytes w.sizes w.rooms f w.spelling first)
one_fault_law bytes f g (inr v) (inl other) = absurd (no_byte_fault bytes v.sizes v.rooms g v.spelling other)
one_fault_law bytes f g (inr v) (inr w) = cc (v.first, word_fault bytes v.sizes v.rooms g v.spelling w)

-- bytes with a first fault are refused by it
pub refused_by : (bytes : List ℕ) (f : ImageFault) → IsFirstFault bytes f → AreRefusedBy bytes f
refused_by bytes f first = record { other = faulty_law bytes f first; first = first }

-- an image that bytes spell is lawful where it recovers to something
lawful_spelling : (bytes : List ℕ) (loaded : Loaded) → IsImageOf bytes loaded → IsLawfulSpelling bytes (sizes_in loaded.image) (rooms_in loaded.image)
lawful_spelling bytes loaded is = record { spelling = is.spelling; lawful = (is.found.state, is.found.lawful) }

-- to what bytes lead: an image
pub image_decides : (bytes : List ℕ) (loaded : Loaded) → IsImageOf bytes loaded → AreBytesDecided bytes (Ok loaded)
image_decides bytes loaded is = record {
  lawful = λ z rooms s. one_image bytes (sizes_in loaded.image) z (rooms_in loaded.image) rooms is.spelling s.spelling;
  other = λ none. none (sizes_in loaded.image) (rooms_in loaded.image) (lawful_spelling bytes loaded is);
}

-- to what bytes lead: a fault
pub fault_decides : (bytes : List ℕ) (f : ImageFault) → AreRefusedBy bytes f → AreBytesDecided bytes (Err (Fault f))
fault_decides bytes f refused = record { lawful = λ z rooms s. absurd (refused.other z rooms s); other = λ none. refused.first }

-- to what a store leads that keeps these bytes under the name
pub found_decides : (kept : Option Named) (named : Named) (name bytes : List ℕ) (result : Result Loaded NotLoaded) → HeldUnder kept name bytes → kept ≡ Some named → AreBytesDecided bytes result
    → IsLoadDecided (get named name) result
found_decides kept named name bytes result held told d =
    let found : get named name ≡ Some bytes = subst (λ (k : Option Named). HeldUnder k name bytes) told held in
    subst (λ (o : Option (List ℕ)). IsLoadDecided o result) (sym found) d
