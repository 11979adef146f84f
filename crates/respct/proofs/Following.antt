-- Runs of the program one after another.
use Rattle.std.proofs.Common.{◌≡◌, ℕ, List, [], ◌∷◌, map, Option, Some, sym, ap, ◌∙◌, subst}
use Rattle.std.specs.FinMap.{get}
use Rattle.byte_ports.specs.Images.{Named}
use Rattle.byte_ports.proofs.Maps.{setting}
use Rattle.line_memory.specs.Line.{BankState}
use Rattle.seq_object.specs.declared.sizes.Sizes.{Sizes}
use Rattle.seq_object.specs.History.{Scripts}
use Rattle.seq_object.specs.Sizes.{sizes_of}
use Rattle.room_model.specs.MapRoom.{live_layout}
use Rattle.room_model.specs.Image.{ImageRooms as Rooms, IsLawful, HasRooms, image_of, nothing_kept}
use Rattle.life_model.specs.declared.life.Life.{Life}
use Rattle.life_model.specs.declared.life.Life.TheVariants.{Start, Resume}
use Rattle.life_model.specs.Life.{Opening, sizes, lengths}
use Rattle.life_model.specs.Lives.{IsLife, ResumesFrom, AreResumed, surviving_image}
use Rattle.life_laws.proofs.Chain.{kept_recovers}
use Rattle.power_cut.specs.Cut.{choosing}
use Rattle.power_cut.specs.Image.{AreWhole}
use Rattle.power_cut.specs.Bytes.{image_bytes_of}
use Rattle.power_cut.proofs.Quiet.{one_spelling}
use Rattle.drill.proofs.NextLives.{has_rooms}
use Rattle.script_text.specs.Program.{Program}
use Rattle.store_order.specs.declared.choice.Choice.{Choice}
use Rattle.respct.specs.Openings.{BeginsAs, GoesOn}
use Rattle.respct.specs.Run.{Led, IsLed}
use Rattle.respct.specs.Runs.{Run, IsRun, AreResumesOf, life_of, RunsLaw}

-- a life begins with the sizes and the commands of its program
begins_with : (life : Life) (kept : Option Named) (name : List ℕ) (p : Program) (image : Rooms) (o : Opening) → BeginsAs life kept name p image o → (sizes o ≡ sizes_of p.settings) × (o.scripts ≡ p.threads)
begins_with Start kept name p image o begins = (ap sizes begins.1, ap (λ (x : Opening). x.scripts) begins.1)
begins_with Resume kept name p image o begins = (ap sizes_of begins.opened.settings_are, begins.opened.scripts_are)

-- the memory that a life left has its rooms
pub has_rooms_led : (left rest : Option (List ℕ)) (kept : Option Named) (memory : List BankState) (led : Led) → IsLed left rest kept memory led → HasRooms (sizes_of led.program.settings) memory
has_rooms_led left rest kept memory led is =
    let o : Opening = led.opening in
    let safe = (is.told.lived nothing_kept).safe in
    has_rooms (sizes_of led.program.settings) memory nothing_kept
    (subst (λ (z : Sizes). IsLawful live_layout z (image_of memory nothing_kept)) (begins_with led.life kept led.name led.program led.image o is.begins).0
    (_, kept_recovers o led.report.entries (lengths led.report.marks) memory safe nothing_kept))

-- the life of a run is one of its sizes and commands
is_life : (scripts : Scripts) (name : List ℕ) (r : Run) → IsRun scripts name r → IsLife (sizes_of r.led.program.settings) scripts (life_of r)
is_life scripts name r is =
    let begins = begins_with r.led.life (Some r.before) r.led.name r.led.program r.led.image r.led.opening is.led.begins in
    let lived = is.led.told.lived (choosing r.keep r.memory) in record {
      same_sizes = begins.0;
      same_scripts = begins.1 ∙ is.commands;
      legal = lived.legal;
      safe = lived.safe;
    }

-- the store keeps the bytes of the run's image under the name
keeps_image : (scripts : Scripts) (name : List ℕ) (r : Run) → IsRun scripts name r
    → AreWhole (sizes_of r.led.program.settings) (surviving_image (life_of r)) × (get r.behind name ≡ Some (image_bytes_of (sizes_of r.led.program.settings) (surviving_image (life_of r))))
keeps_image scripts name r is =
    let image : Choice → Rooms = λ k. image_of r.memory (choosing k r.memory) in (
      subst (λ (k : Choice). AreWhole (sizes_of r.led.program.settings) (image k)) is.keep is.saved.whole,
      ap (get r.behind) (sym is.named) ∙ (setting r.before (Some r.behind) r.led.name _ is.saved.set).0 ∙ ap (λ (k : Choice). Some (image_bytes_of (sizes_of r.led.program.settings) (image k))) is.keep,
    )

-- the image from which a resume goes on is the one image that is kept
resumes : (z : Sizes) (image : Rooms) (before : Named) (name : List ℕ) (p : Program) (rooms : Rooms) (o : Opening) → AreWhole z image → get before name ≡ Some (image_bytes_of z image)
    → GoesOn (Some before) name p rooms o → (sizes_of p.settings ≡ z) × ResumesFrom z image o
resumes z image before name p rooms o whole kept goes =
    let spelled = goes.image.spelling.spelling in
    let same : image_bytes_of (sizes_of p.settings) rooms ≡ image_bytes_of z image = sym spelled.spelled ∙ some_same (sym goes.image.held ∙ kept) in
    let one = one_spelling (sizes_of p.settings) z rooms image spelled.whole whole same in
    (one.0, subst (λ (x : Sizes × Rooms). ResumesFrom x.0 x.1 o) (λ j. (one.0 j, one.1 j)) goes.opened.from)
  where
    some_same : {a b : List ℕ} → Some a ≡ Some b → a ≡ b
    some_same is = cc is

-- resumes lead lives that follow one another
are_resumed : (z : Sizes) (image : Rooms) (scripts : Scripts) (name : List ℕ) (kept : Named) (rs : List Run) → AreWhole z image → get kept name ≡ Some (image_bytes_of z image) → AreResumesOf scripts name kept rs
    → AreResumed z scripts image (map life_of rs)
are_resumed z image scripts name kept [] whole held are = tt
are_resumed z image scripts name kept (r ∷ rs) whole held are =
    let is = are.0 in
    let goes : GoesOn (Some r.before) name r.led.program r.led.image r.led.opening =
    subst (λ (n : List ℕ). GoesOn (Some r.before) n r.led.program r.led.image r.led.opening) is.named (subst (λ (k : Life). BeginsAs k (Some r.before) r.led.name r.led.program r.led.image r.led.opening) are.1 is.led.begins) in
    let from = resumes z image r.before name r.led.program r.led.image r.led.opening whole (are.2 ∙ held) goes in
    let keeps = keeps_image scripts name r is in (
      subst (λ (y : Sizes). IsLife y scripts (life_of r)) from.0 (is_life scripts name r is),
      from.1,
      are_resumed z (surviving_image (life_of r)) scripts name r.behind rs
          (subst (λ (y : Sizes). AreWhole y (surviving_image (life_of r))) from.0 keeps.0)
          (keeps.1 ∙ ap (λ (y : Sizes). Some (image_bytes_of y (surviving_image (life_of r)))) from.0)
          are.3,
    )

pub runs_follow : RunsLaw
runs_follow scripts name first later are =
    let keeps = keeps_image scripts name first are.0 in
    let begins = are.0.led.begins in (
      is_life scripts name first are.0,
      starts first.led.life (Some first.before) first.led.name first.led.program first.led.image first.led.opening are.1 begins,
      are_resumed (sizes_of first.led.program.settings) (surviving_image (life_of first)) scripts name first.behind later keeps.0 keeps.1 are.2,
    )
  where
    starts : (life : Life) (kept : Option Named) (name : List ℕ) (p : Program) (image : Rooms) (o : Opening) → life ≡ Start → BeginsAs life kept name p image o → o.life ≡ Start
    starts Start kept name p image o is begins = ap (λ (x : Opening). x.life) begins.1
    starts Resume kept name p image o is begins = cc is
