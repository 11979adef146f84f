-- What the steps of a life tell together.
use Rattle.std.proofs.Common.{◌≡◌, ℕ, ◌+◌, ◌-◌, ◌≤◌, ◌^◌, List, Option, refl, subst, arith}
use Rattle.std.proofs.Math.Nat.{min-le_left, min-le_right, le-min}
use Rattle.byte_ports.specs.Causes.{Rose, raised}
use Rattle.byte_ports.specs.Images.{Named, SetsName, OthersSame}
use Rattle.byte_ports.specs.declared.refusal.StoreRefusal.{StoreRefusal}
use Rattle.byte_ports.specs.declared.refusal.StoreRefusal.TheVariants as stores
use Rattle.line_memory.specs.Line.{BankState}
use Rattle.seq_object.specs.Sizes.{sizes_of}
use Rattle.room_model.specs.Image.{ImageRooms as Rooms, HasRooms, image_of}
use Rattle.life_model.specs.declared.life.Life.{Life}
use Rattle.life_model.specs.Life.{Opening}
use Rattle.life_model.specs.Told.{ReportState}
use Rattle.power_cut.specs.Cut.{choosing}
use Rattle.power_cut.specs.Image.{AreWhole}
use Rattle.power_cut.specs.Bytes.{image_bytes_of}
use Rattle.script_text.specs.declared.script.Script.{Script}
use Rattle.script_text.specs.Program.{Program, program_of}
use Rattle.respct.specs.Run.{HasRead, IsLed, HasSaved}
use Rattle.respct.specs.Openings.{IsOpened}
use Rattle.respct.specs.Steps.{Ports, HasCause, HasLed, IsReportOver}
use Rattle.respct.proofs.Openings.{led_by, is_led}
use Rattle.respct.proofs.Following.{has_rooms_led}

-- the cause of a refusal, where a fault has one
pub cause_of : (refusal : StoreRefusal) (faults faults_now : ℕ) → (refusal ≡ stores.Failed → Rose faults faults_now) → HasCause refusal faults faults_now
cause_of stores.Failed faults faults_now rose = rose refl
cause_of stores.OutOfMemory faults faults_now rose = tt

-- a count that rose behind a moment has risen since before it
pub rose_since : (before between now : ℕ) → before ≤ between → Rose between now → Rose before now
rose_since before between now le rose =
    let left = min-le_left (before + 1) (2 ^ 64 - 1) in
    let right = min-le_right (before + 1) (2 ^ 64 - 1) in
    let more : raised before ≤ raised between = le-min (omega (arith, left, le)) right in
    omega (arith, more, rose)

-- a life was led over the memory that was made for it
pub has_led : (life : Life) (name : List ℕ) (old new : Ports) (p : Program) (before : List BankState) (r : ReportState) (memory : List BankState) → HasRead old.left new.left p → (is : IsOpened life old.kept name p before)
    → IsReportOver life p before r memory → HasLed life name old new memory (led_by life name p is.image is.opening r)
has_led life name old new p before r memory read is over = record { life_is = refl; named = refl; is_led = is_led life old.left new.left old.kept name p before r memory read is over }

-- its image is saved, over what the store kept before it was opened
pub has_saved : (life : Life) (name : List ℕ) (kept between after : Option Named) (left rest : Option (List ℕ)) (script : Script) (image : Rooms) (o : Opening) (r : ReportState) (memory : List BankState) → between ≡ kept
    → IsLed left rest kept memory (led_by life name (program_of script) image o r)
    → (HasRooms (sizes_of script.settings) memory → AreWhole (sizes_of script.settings) (image_of memory (choosing script.keep memory)))
    → SetsName between after name (image_bytes_of (sizes_of script.settings) (image_of memory (choosing script.keep memory))) → HasSaved kept after memory (led_by life name (program_of script) image o r)
has_saved life name kept between after left rest script image o r memory same led whole set = record {
  keep = script.keep;
  kept = refl;
  whole = whole (has_rooms_led left rest kept memory (led_by life name (program_of script) image o r) led);
  set = subst (λ (k : Option Named). SetsName k after name (image_bytes_of (sizes_of script.settings) (image_of memory (choosing script.keep memory)))) same set;
}

-- no other name changed since then
pub others_since : (name : List ℕ) (kept between after : Option Named) → between ≡ kept → OthersSame between after name → OthersSame kept after name
others_since name kept between after same others = subst (λ (k : Option Named). OthersSame k after name) same others
