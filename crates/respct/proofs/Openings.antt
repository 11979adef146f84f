-- How a life begins over the memory that was made for it, and what its report tells of it.
use Rattle.std.proofs.Common.{◌≡◌, ℕ, ◌<◌, ◌≤◌, List, [], ◌∷◌, length, Option, Some, None, refl, sym, ap, ◌∙◌, subst}
use Rattle.std.proofs.Math.ListN.{get_or-map}
use Rattle.std.specs.Prelude.{slice_index}
use Rattle.byte_ports.specs.Images.{Named}
use Rattle.line_memory.specs.Line.{BankState, all_write_backs}
use Rattle.seq_object.specs.declared.history.RestartPoint.{RestartPoint}
use Rattle.seq_object.specs.declared.sizes.Sizes.{Sizes}
use Rattle.seq_object.specs.History.{first_point}
use Rattle.seq_object.specs.Sizes.{sizes_of}
use Rattle.room_model.specs.MapRoom.{live_layout}
use Rattle.room_model.specs.Formatted.{formatted_memory}
use Rattle.room_model.specs.Image.{ImageRooms as Rooms, Recovers, image_of, nothing_kept, epoch_at}
use Rattle.life_model.specs.declared.life.Life.{Life}
use Rattle.life_model.specs.declared.life.Life.TheVariants.{Start, Resume}
use Rattle.life_model.specs.Life.{Opening, opening_place, script_of, start_of}
use Rattle.life_model.specs.Lives.{ResumesFrom}
use Rattle.life_model.specs.Told.{ReportState, TellsOf}
use Rattle.power_cut.specs.Cut.{quiet_memory}
use Rattle.power_cut.specs.Image.{HaveWords, sizes_in, rooms_in}
use Rattle.power_cut.proofs.Quiet.{image_of-quiet, quiet_memory-quiet}
use Rattle.image_check.specs.declared.recovered.Recovered.{Recovered}
use Rattle.image_check.specs.Recovered.{IsRecovered}
use Rattle.script_text.specs.Program.{Program}
use Rattle.script_run.specs.Jobs.{MayResume, OpensOver}
use Rattle.respct.specs.declared.fitting.Misfit.{Misfit}
use Rattle.respct.specs.declared.loading.Loaded.{Loaded}
use Rattle.respct.specs.Loads.{HasLoaded}
use Rattle.respct.specs.Misfits.{first_misfit, AreFitting}
use Rattle.respct.specs.Openings.{KeepsImage, misfit_in, BeginsAs, first_memory, IsOpened, IsMisfit}
use Rattle.respct.specs.Run.{Led, HasRead, IsLed}
use Rattle.respct.specs.Steps.{IsReportOver}
use Rattle.respct.proofs.Lives.{resuming, resumes_so}
use Rattle.respct.proofs.Misfits.{fitting}

-- AN IMAGE THAT WAS LOADED.

-- the store keeps it
keeps : (kept : Option Named) (name : List ℕ) (loaded : Loaded) → HasLoaded kept name loaded → KeepsImage kept name (sizes_in loaded.image) (rooms_in loaded.image)
keeps kept name loaded has = record { bytes = has.bytes; held = has.held; spelling = record { spelling = has.image.spelling; lawful = (has.image.found.state, has.image.found.lawful) } }

-- its misfit is that of what it recovers to
misfit_is : (z : Sizes) (rooms : Rooms) (found : Recovered) (p : Program) (is : IsRecovered live_layout z rooms found) → first_misfit z found.epoch found.positions.items p ≡ misfit_in z rooms is.state p
misfit_is z rooms found p is =
    ap (λ (epoch : ℕ). first_misfit z epoch found.positions.items p) is.epoch ∙ ap (λ (positions : List ℕ). first_misfit z (epoch_at z rooms) positions p) is.positions

-- it misfits
pub misfits : (kept : Option Named) (name : List ℕ) (loaded : Loaded) (p : Program) (misfit : Option Misfit) (m : Misfit) → HasLoaded kept name loaded
    → misfit ≡ first_misfit (sizes_in loaded.image) loaded.found.epoch loaded.found.positions.items p → misfit ≡ Some m → IsMisfit kept name p m
misfits kept name loaded p misfit m has is some = record {
  sizes = sizes_in loaded.image;
  rooms = rooms_in loaded.image;
  state = has.image.found.state;
  image = keeps kept name loaded has;
  recovers = has.image.found.lawful;
  first = sym (misfit_is (sizes_in loaded.image) (rooms_in loaded.image) loaded.found p has.image.found) ∙ sym is ∙ some;
}

-- a memory with nothing pending has counted no write-back
none_written : (rooms : Rooms) → all_write_backs (quiet_memory rooms) ≡ 0
none_written [] = refl
none_written (room ∷ rooms) = none_written rooms

-- each life that resumes from an image begins at the positions that were found
places : (z : Sizes) (rooms : Rooms) (found : Recovered) (o : Opening) → IsRecovered live_layout z rooms found → ResumesFrom z rooms o → (thread : ℕ) → thread < z.threads
    → opening_place o thread ≡ slice_index found.positions.items thread
places z rooms found o is from thread lt =
    ap (λ (p : RestartPoint). p.position) (from.state.points thread lt ∙ sym (is.lawful.points thread lt))
    ∙ sym (get_or-map (λ (p : RestartPoint). p.position) is.state.points thread first_point)
    ∙ ap (λ (ps : List ℕ). slice_index ps thread) (sym is.positions)

-- from the memory that is made of an image that fits a program a resume of the program may go on
ready : (rooms : Rooms) (found : Recovered) (p : Program) → IsRecovered live_layout (sizes_of p.settings) rooms found → AreFitting (sizes_of p.settings) found.epoch found.positions.items p
    → MayResume p.settings p.threads (quiet_memory rooms)
ready rooms found p is fits =
    let same : image_of (quiet_memory rooms) nothing_kept ≡ rooms = image_of-quiet rooms nothing_kept in
    record {
      quiet = quiet_memory-quiet rooms;
      none = none_written rooms;
      lawful = (is.state, subst (λ (r : Rooms). Recovers live_layout (sizes_of p.settings) r is.state) (sym same) is.lawful);
      early = subst (λ (n : ℕ). n < 4278190080) (is.epoch ∙ ap (epoch_at (sizes_of p.settings)) (sym same)) fits.early;
      places = λ o over thread lt.
          let back : ResumesFrom (sizes_of p.settings) rooms o = subst (λ (r : Rooms). ResumesFrom (sizes_of p.settings) r o) same over.from in
          subst (λ (n : ℕ). n ≤ length (script_of p.threads thread)) (sym (places (sizes_of p.settings) rooms found o is back thread lt)) (fits.places thread lt);
    }

-- the memory of an image of a program's sizes that has no misfit is made for its resume
opened_at : (kept : Option Named) (name : List ℕ) (rooms : Rooms) (found : Recovered) (p : Program) (memory : List BankState) → KeepsImage kept name (sizes_of p.settings) rooms → HaveWords rooms
    → IsRecovered live_layout (sizes_of p.settings) rooms found → first_misfit (sizes_of p.settings) found.epoch found.positions.items p ≡ None → memory ≡ quiet_memory rooms → IsOpened Resume kept name p memory
opened_at kept name rooms found p memory keeps words is fits made = record {
  image = rooms;
  opening = resuming p rooms is.state;
  begins = record {
    image = keeps;
    opened = record { settings_are = refl; scripts_are = refl; from = resumes_so p rooms is.state is.lawful };
    fits = sym (misfit_is (sizes_of p.settings) rooms found p is) ∙ fits;
  };
  memory_is = made;
  ready = subst (MayResume p.settings p.threads) (sym made) (ready rooms found p is (fitting (sizes_of p.settings) found.epoch found.positions.items p fits));
  words = λ resume. subst (λ (m : List BankState). HaveWords (image_of m nothing_kept)) (sym made) (subst HaveWords (sym (image_of-quiet rooms nothing_kept)) words);
}

-- a program to which an image without a misfit fits has its sizes
pub opened : (kept : Option Named) (name : List ℕ) (loaded : Loaded) (p : Program) (misfit : Option Misfit) (memory : List BankState) → HasLoaded kept name loaded
    → misfit ≡ first_misfit (sizes_in loaded.image) loaded.found.epoch loaded.found.positions.items p → misfit ≡ None → memory ≡ quiet_memory (rooms_in loaded.image) → IsOpened Resume kept name p memory
opened kept name loaded p misfit memory has is none made =
    let fits : first_misfit (sizes_in loaded.image) loaded.found.epoch loaded.found.positions.items p ≡ None = sym is ∙ none in
    let sizes : sizes_in loaded.image ≡ sizes_of p.settings = sym (fitting (sizes_in loaded.image) loaded.found.epoch loaded.found.positions.items p fits).sizes in
    opened_at kept name (rooms_in loaded.image) loaded.found p memory
    (subst (λ (z : Sizes). KeepsImage kept name z (rooms_in loaded.image)) sizes (keeps kept name loaded has))
    has.image.spelling.whole.words
    (subst (λ (z : Sizes). IsRecovered live_layout z (rooms_in loaded.image) loaded.found) sizes has.image.found)
    (subst (λ (z : Sizes). first_misfit z loaded.found.epoch loaded.found.positions.items p ≡ None) sizes fits) made

-- A START.
pub opened_start : (kept : Option Named) (name : List ℕ) (p : Program) (memory : List BankState) → memory ≡ formatted_memory (sizes_of p.settings) → IsOpened Start kept name p memory
opened_start kept name p memory made = record { image = []; opening = start_of p.settings p.threads; begins = (refl, refl); memory_is = made; ready = made; words = λ e. absurd (cc e) }

-- A LIFE OVER ITS MEMORY.

-- it opens so over that memory
opens_so : (life : Life) (kept : Option Named) (name : List ℕ) (p : Program) (image : Rooms) (o : Opening) → BeginsAs life kept name p image o
    → OpensOver life p.settings p.threads (first_memory life p image) o
opens_so Start kept name p image o begins = begins.1
opens_so Resume kept name p image o begins = record {
  settings_are = begins.opened.settings_are;
  scripts_are = begins.opened.scripts_are;
  from = subst (λ (rooms : Rooms). ResumesFrom (sizes_of p.settings) rooms o) (sym (image_of-quiet image nothing_kept)) begins.opened.from;
}

-- its report tells of it
told_so : (life : Life) (kept : Option Named) (name : List ℕ) (p : Program) (image : Rooms) (o : Opening) (r : ReportState) (memory : List BankState) → BeginsAs life kept name p image o
    → IsReportOver life p (first_memory life p image) r memory → TellsOf o image 0 r memory
told_so Start kept name p image o r memory begins over =
    subst (λ (rooms : Rooms). TellsOf o rooms 0 r memory) (sym begins.0) (subst (λ (a : Opening). TellsOf a [] 0 r memory) (sym begins.1) (of_start p r memory (over.told (start_of p.settings p.threads) refl)))
  where
    of_start : (p : Program) (r : ReportState) (memory : List BankState) {image : Rooms} → TellsOf (start_of p.settings p.threads) image 0 r memory → TellsOf (start_of p.settings p.threads) [] 0 r memory
    of_start p r memory t = record {
      resumed = t.resumed;
      began = t.began;
      loaded = λ e. absurd (cc e);
      lived = t.lived;
      ends = t.ends;
      present = t.present;
      held = t.held;
      epochs = t.epochs;
      flushed = t.flushed;
      few = t.few;
    }
told_so Resume kept name p image o r memory begins over =
    subst (λ (rooms : Rooms). TellsOf o rooms 0 r memory) (image_of-quiet image nothing_kept) (over.told o (opens_so Resume kept name p image o begins))

-- the life that was led
abbrev pub led_by : Life → List ℕ → Program → Rooms → Opening → ReportState → Led
led_by life name p image o r = record { name = name; program = p; life = life; image = image; opening = o; report = r }

-- the source had its script, its memory was made for it, and its report tells it
pub is_led : (life : Life) (left rest : Option (List ℕ)) (kept : Option Named) (name : List ℕ) (p : Program) (before : List BankState) (r : ReportState) (memory : List BankState) → HasRead left rest p
    → (is : IsOpened life kept name p before) → IsReportOver life p before r memory → IsLed left rest kept memory (led_by life name p is.image is.opening r)
is_led life left rest kept name p before r memory read is over =
    let own : IsReportOver life p (first_memory life p is.image) r memory = subst (λ (m : List BankState). IsReportOver life p m r memory) is.memory_is over in
    let opens : OpensOver life p.settings p.threads (first_memory life p is.image) is.opening = opens_so life kept name p is.image is.opening is.begins in
    record {
      source = read;
      begins = is.begins;
      told = told_so life kept name p is.image is.opening r memory is.begins own;
      run = own.run;
      ends = own.ends is.opening opens;
      closes = own.closes is.opening opens;
      within = own.within;
    }
