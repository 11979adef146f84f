-- From what the lives of a drill left, the next may resume.
use Rattle.std.proofs.Common.{◌≡◌, ℕ, zero, suc, ◌+◌, ◌*◌, ◌<◌, ◌≤◌, List, [], ◌∷◌, length, refl, sym, ap, ◌∙◌, subst, arith}
use Rattle.seq_object.specs.declared.settings.Settings.{Settings}
use Rattle.seq_object.specs.declared.sizes.Sizes.{Sizes}
use Rattle.seq_object.specs.Sizes.{sizes_of}
use Rattle.seq_object.specs.History.{Scripts, after, first_state}
use Rattle.line_memory.specs.Line.{BankState, all_write_backs}
use Rattle.room_model.specs.MapRoom.{live_layout}
use Rattle.room_model.specs.Image.{ImageRooms, KeptCounts, image_of, nothing_kept, epoch_at, HasRooms, IsLawful}
use Rattle.life_model.specs.declared.life.Life.{Life}
use Rattle.life_model.specs.declared.life.Life.TheVariants.{Start, Resume}
use Rattle.life_model.specs.declared.life.Outcome.{Outcome}
use Rattle.life_model.specs.Life.{Opening, sizes, script_of, opening_place, lengths, closings, start_of}
use Rattle.life_model.specs.Lives.{ResumesFrom}
use Rattle.life_model.specs.Told.{ReportState, TellsOf}
use Rattle.life_laws.proofs.Survivors.{lines_left_here}
use Rattle.life_laws.proofs.Chain.{first_at}
use Rattle.power_cut.specs.Cut.{choosing, quiet_memory}
use Rattle.power_cut.proofs.Quiet.{image_of-quiet, quiet_memory-quiet}
use Rattle.script_text.specs.Program.{Program}
use Rattle.script_text.specs.Schedules.{schedule_of}
use Rattle.script_run.specs.Jobs.{OpensOver, MayResume, IsReady, IsReplayedLife}
use Rattle.script_run.specs.Enough.{EndsWhereEnough, ClosesFew}
use Rattle.drill.specs.Scripts.{drill_settings, drill_commands, drill_choice, drill_program}
use Rattle.drill.specs.Lives.{DrillLife, IsDrillLife, IsLivedOver, AreDrillLives, HasLived, kind_of_life, drill_memory, memory_behind}
use Rattle.drill.proofs.Texts.{length-thread_commands}
use Rattle.drill.proofs.Histories.{opened_so, HoldsHistory, start_holds, from_image, resume_holds, resume_places, entries_few, marks_few, epoch_left}

-- no thread has more than 200 commands
pub scripts_few : (n thread : ℕ) → length (script_of (drill_commands n) thread) ≤ 200
scripts_few n zero = let all = length-thread_commands n 0 in omega (arith, all)
scripts_few n (suc zero) = let all = length-thread_commands n 1 in omega (arith, all)
scripts_few n (suc (suc zero)) = let all = length-thread_commands n 2 in omega (arith, all)
scripts_few n (suc (suc (suc zero))) = let all = length-thread_commands n 3 in omega (arith, all)
scripts_few n (suc (suc (suc (suc thread)))) = omega arith

-- ONE LIFE

-- places within the scripts, of a start
start_places : (n : ℕ) (over : List BankState) (o : Opening) → OpensOver Start drill_settings (drill_commands n) over o → (t : ℕ) → t < 4 → opening_place o t ≤ length (script_of o.scripts t)
start_places n over o is t lt =
    let at_first : opening_place o t ≡ 0 = ap (λ (x : Opening). opening_place x t) is ∙ ap (λ p. p.position) (first_at 4 t) in
    omega (arith, at_first)

-- a life of a drill that begins at places within its scripts raises the epoch by 1,606 at most
epoch_few : (n life : ℕ) (over : List BankState) (l : DrillLife) (choice : KeptCounts) → IsDrillLife n life over l
    → ((t : ℕ) → t < 4 → opening_place l.opening t ≤ length (script_of l.opening.scripts t)) → epoch_at (sizes_of drill_settings) (image_of l.left choice) ≤ l.opening.epoch + 1606
epoch_few n life over l choice is places =
    let o : Opening = l.opening in
    let marks : List ℕ = lengths l.report.marks in
    let so = opened_so (kind_of_life life) drill_settings (drill_commands n) over o is.opens in
    let lived = is.told.lived choice in
    let four : o.settings.threads ≡ 4 = ap (λ (s : Settings). s.threads) so.0 in
    let scripts : (t : ℕ) → length (script_of o.scripts t) ≤ 200 = subst (λ (c : Scripts). (t : ℕ) → length (script_of c t) ≤ 200) (sym so.1) (scripts_few n) in
    let entries : length l.report.entries ≤ 4 * 200 = entries_few o l.report.entries marks 200 lived.legal four scripts places in
    let few : length marks ≤ closings o marks + 1 = marks_few o marks in
    let seldom : closings o marks ≤ 2 * length l.report.entries + o.settings.threads = is.closes.seldom in
    let left : epoch_at (sizes o) (image_of l.left choice) ≤ o.epoch + length marks + 1 = epoch_left o l.report.entries marks l.left choice lived.safe in
    let same : epoch_at (sizes o) (image_of l.left choice) ≡ epoch_at (sizes_of drill_settings) (image_of l.left choice) = ap (λ (s : Settings). epoch_at (sizes_of s) (image_of l.left choice)) so.0 in
    omega (arith, entries, few, seldom, left, same, four)

-- ALL LIVES

-- what the cut behind lives leaves holds one history
pub lives_hold : (n : ℕ) (l : DrillLife) (bs : List DrillLife) (choice : KeptCounts) → AreDrillLives n l bs → HoldsHistory drill_settings (drill_commands n) (image_of l.left choice)
lives_hold n l [] choice are = start_holds drill_settings (drill_commands n) drill_memory l.left l.opening l.report choice are.opens are.told
lives_hold n l (b ∷ bs) choice are =
    let cut : KeptCounts = choosing (drill_choice n (length bs)) b.left in
    resume_holds drill_settings (drill_commands n) (image_of b.left cut) l.left l.opening l.report choice (lives_hold n b bs cut are.1) are.0.opens are.0.told

-- and has an early epoch
lives_early : (n : ℕ) (l : DrillLife) (bs : List DrillLife) (choice : KeptCounts) → AreDrillLives n l bs
    → epoch_at (sizes_of drill_settings) (image_of l.left choice) ≤ 1606 * (length bs + 1) + 1
lives_early n l [] choice are =
    let first : l.opening.epoch ≡ 1 = ap (λ (o : Opening). o.epoch) are.opens in
    let few = epoch_few n 0 drill_memory l choice are (start_places n drill_memory l.opening are.opens) in
    omega (arith, first, few)
lives_early n l (b ∷ bs) choice are =
    let cut : KeptCounts = choosing (drill_choice n (length bs)) b.left in
    let image : ImageRooms = image_of b.left cut in
    let from : ResumesFrom (sizes_of drill_settings) image l.opening = from_image drill_settings (drill_commands n) image l.opening are.0.opens in
    let within : (t : ℕ) → t < 4 → opening_place l.opening t ≤ length (script_of (drill_commands n) t) = resume_places drill_settings (drill_commands n) image l.opening (lives_hold n b bs cut are.1) from in
    let places : (t : ℕ) → t < 4 → opening_place l.opening t ≤ length (script_of l.opening.scripts t) =
    subst (λ (c : Scripts). (t : ℕ) → t < 4 → opening_place l.opening t ≤ length (script_of c t)) (sym are.0.opens.scripts_are) within in
    let before = lives_early n b bs cut are.1 in
    let few = epoch_few n (suc (length bs)) (memory_behind n (length bs) b.left) l choice are.0 places in
    omega (arith, from.epoch, before, few)

-- a memory of which an image recovers has its rooms
pub has_rooms : (z : Sizes) (memory : List BankState) (choice : KeptCounts) → IsLawful live_layout z (image_of memory choice) → HasRooms z memory
has_rooms z memory choice lawful =
    let shape = (lines_left_here memory choice).0 in
    record {
      rooms = sym shape.rooms ∙ lawful.1.shape.rooms;
      lines = λ room lt. sym (shape.lines room) ∙ lawful.1.shape.lines room lt;
    }

-- the memory of an image has counted no write-back
none_written : (rooms : ImageRooms) → all_write_backs (quiet_memory rooms) ≡ 0
none_written [] = refl
none_written (room ∷ rooms) = none_written rooms

-- a resume may go on from the memory of an image that holds one history and has an early epoch
may_resume : (s : Settings) (c : Scripts) (image : ImageRooms) → HoldsHistory s c image → epoch_at (sizes_of s) image < 4278190080 → MayResume s c (quiet_memory image)
may_resume s c image held early =
    let same : image_of (quiet_memory image) nothing_kept ≡ image = image_of-quiet image nothing_kept in
    record {
      quiet = quiet_memory-quiet image;
      none = none_written image;
      lawful = subst (IsLawful live_layout (sizes_of s)) (sym same) (after (sizes_of s) (first_state (sizes_of s)) held.0, held.1.recovers);
      early = subst (λ (i : ImageRooms). epoch_at (sizes_of s) i < 4278190080) (sym same) early;
      places = λ o over. resume_places s c image o held (from_image s c image o over);
    }

-- from what the lives of a drill left the next may resume
pub lived_may_resume : (n before : ℕ) (outcome : Outcome) (memory : List BankState) → before < 8 → HasLived n before outcome memory
    → MayResume drill_settings (drill_commands n) (memory_behind n before memory)
lived_may_resume n before outcome memory lt lived =
    let cut : KeptCounts = choosing (drill_choice n before) memory in
    let held : HoldsHistory drill_settings (drill_commands n) (image_of memory cut) =
    subst (λ (m : List BankState). HoldsHistory drill_settings (drill_commands n) (image_of m cut)) lived.left (lives_hold n lived.last lived.before cut lived.lives) in
    let early : epoch_at (sizes_of drill_settings) (image_of memory cut) ≤ 1606 * (length lived.before + 1) + 1 =
    subst (λ (m : List BankState). epoch_at (sizes_of drill_settings) (image_of m cut) ≤ 1606 * (length lived.before + 1) + 1) lived.left (lives_early n lived.last lived.before cut lived.lives) in
    may_resume drill_settings (drill_commands n) (image_of memory cut) held (omega (arith, early, lived.number))

-- whatever is kept of it, it is lawful
pub lived_lawful : (n life : ℕ) (outcome : Outcome) (memory : List BankState) (choice : KeptCounts) → HasLived n life outcome memory → IsLawful live_layout (sizes_of drill_settings) (image_of memory choice)
lived_lawful n life outcome memory choice lived =
    let z : Sizes = sizes_of drill_settings in
    let held = lives_hold n lived.last lived.before choice lived.lives in
    subst (λ (m : List BankState). IsLawful live_layout z (image_of m choice)) lived.left (after z (first_state z) held.0, held.1.recovers)

-- ONE LIFE MORE

-- the first one
pub lived_first : (n : ℕ) (outcome : Outcome) (memory : List BankState) → IsLivedOver n 0 drill_memory outcome memory → HasLived n 0 outcome memory
lived_first n outcome memory is = record { last = is.lived; before = []; number = refl; lives = is.is; ended = is.ended; left = is.left }

-- and one behind others
pub lived_more : (n before : ℕ) (ended outcome : Outcome) (memory left : List BankState) → HasLived n before ended memory
    → IsLivedOver n (before + 1) (memory_behind n before memory) outcome left → HasLived n (before + 1) outcome left
lived_more n before ended outcome memory left lived is =
    let number : before + 1 ≡ suc (length lived.before) = omega (arith, lived.number) in
    let over : memory_behind n before memory ≡ memory_behind n (length lived.before) lived.last.left =
    ap (λ (k : ℕ). memory_behind n k memory) (sym lived.number) ∙ ap (memory_behind n (length lived.before)) (sym lived.left) in
    let own : IsDrillLife n (suc (length lived.before)) (memory_behind n (length lived.before) lived.last.left) is.lived =
    subst (λ (m : List BankState). IsDrillLife n (suc (length lived.before)) m is.lived) over
    (subst (λ (k : ℕ). IsDrillLife n k (memory_behind n before memory) is.lived) number is.is) in
    record {
      last = is.lived;
      before = lived.last ∷ lived.before;
      number = sym number;
      lives = (own, lived.lives);
      ended = is.ended;
      left = is.left;
    }

-- THE CALL THAT CARRIES A LIFE OUT

-- a life opens over a memory that is ready
opening_over : (life : Life) (s : Settings) (c : Scripts) (memory : List BankState) → IsReady life s c memory → (o : Opening) × OpensOver life s c memory o
opening_over Start s c memory ready = (start_of s c, refl)
opening_over Resume s c memory ready = (
  record { settings = s; scripts = c; life = Resume; epoch = epoch_at (sizes_of s) (image_of memory nothing_kept); state = ready.lawful.0 },
  record { settings_are = refl; scripts_are = refl; from = record { life = refl; epoch = refl; state = ready.lawful.1 } },
)

-- what is told of a report and a memory that were left
pub record IsToldOf (kind : Life) (p : Program) (over : List BankState) (r : ReportState) (left : List BankState) : Type 0 where
  pub told : (o : Opening) → OpensOver kind p.settings p.threads over o → TellsOf o (image_of over nothing_kept) 0 r left
  pub run : IsReplayedLife kind p.settings p.threads (schedule_of p.settings.threads p.turns) over r left
  pub ends : (o : Opening) → OpensOver kind p.settings p.threads over o → EndsWhereEnough o (schedule_of p.settings.threads p.turns) r.outcome
  pub closes : (o : Opening) → OpensOver kind p.settings p.threads over o → ClosesFew o r.entries (lengths r.marks)

-- it is told of a life of the drill
pub life_lived : (n life : ℕ) (kind : Life) (p : Program) (over : List BankState) (r : ReportState) (left : List BankState) → kind ≡ kind_of_life life → p ≡ drill_program n life
    → IsReady kind drill_settings (drill_commands n) over → IsToldOf kind p over r left → IsLivedOver n life over r.outcome left
life_lived n life kind p over r left is_kind is_program ready told =
    let own : IsToldOf (kind_of_life life) (drill_program n life) over r left =
    subst (λ (q : Program). IsToldOf (kind_of_life life) q over r left) is_program (subst (λ (k : Life). IsToldOf k p over r left) is_kind told) in
    let over_is = opening_over (kind_of_life life) drill_settings (drill_commands n) over (subst (λ (k : Life). IsReady k drill_settings (drill_commands n) over) is_kind ready) in
    record {
      lived = record { opening = over_is.0; report = r; left = left };
      is = record { opens = over_is.1; told = own.told over_is.0 over_is.1; run = own.run; ends = own.ends over_is.0 over_is.1; closes = own.closes over_is.0 over_is.1 };
      ended = refl;
      left = refl;
    }
