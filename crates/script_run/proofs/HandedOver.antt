-- A resume behind its recovery: what its world opens with, and what is told of it.
use Rattle.std.proofs.Common.{◌≡◌, true, ℕ, zero, suc, ◌+◌, ◌<◌, ◌≤◌, ◌^◌, List, [], ◌∷◌, length, map, Option, Some, None, refl, sym, ap, ◌∙◌, subst, inl, inr, arith}
use Rattle.std.specs.Prelude.{slice_index}
use Rattle.std.proofs.lemmas.Bool.{cases_lt}
use Rattle.std.proofs.lemmas.List.{get_or_past, length-map}
use Rattle.std.specs.FinMap.{entries, from_entries, get-entries, get-from_entries, same_map, nat_cmp-IsAntisymmetric}
use Rattle.std.proofs.lemmas.Cmp.{nat_cmp_total}
use Rattle.std.specs.List.{All}
use Rattle.std.proofs.Math.ListN.{get_or-map}
use mathlib.Core.Option.{some, some-injective}
use lib.ListN.{get_elem?}
use Rattle.seq_object.specs.declared.command.Command.{Command}
use Rattle.seq_object.specs.declared.settings.Settings.{Settings}
use Rattle.seq_object.specs.Object.{Pairs}
use Rattle.seq_object.specs.Sizes.{sizes_of, room_count, IsValid}
use Rattle.seq_object.specs.History.{Scripts, total}
use Rattle.seq_object.proofs.Totals.{total-same}
use Rattle.line_memory.specs.Line.{BankState, bank_at, all_write_backs}
use Rattle.room_model.specs.Image.{ImageRooms, image_of, nothing_kept, epoch_at}
use Rattle.life_model.specs.declared.life.Life.{Life}
use Rattle.life_model.specs.declared.life.Life.TheVariants.{Start, Resume}
use Rattle.life_model.specs.declared.life.Mark.{Mark}
use Rattle.life_model.specs.declared.life.Outcome.TheVariants.{Starved}
use Rattle.life_model.specs.Life.{Opening, sizes, opening_place, script_of}
use Rattle.life_model.specs.Lives.{ResumesFrom}
use Rattle.life_model.specs.Told.{ReportState, TellsOf}
use Rattle.life_model.specs.Work.{torn_cells, recovery_write_backs}
use Rattle.rooms.specs.declared.room.Room.{Room}
use Rattle.rooms.specs.Rooms.{bank_of}
use Rattle.yard_model.specs.declared.view.Beginning.{Beginning}
use Rattle.yard_model.specs.Beginnings.{opening_of, write_backs_at, IsBeginning}
use Rattle.yard_model.specs.Lives.{IsMemoryOf, NamesDead}
use Rattle.yard_laws.proofs.Beginning.{as_life, opens_lawful}
use Rattle.room_yard.specs.World.{WorldState, memory_of, Opens, opening_yard}
use Rattle.plain_yard.specs.Shown.{ShownYard, opening_told, IsLawfulYard}
use Rattle.power_cut.proofs.Counts.{line_total-few}
use Rattle.rounds.proofs.Sums.{total-has}
use Rattle.recovery.specs.Banks.{most_at}
use Rattle.recovery.specs.Laws.{AreLengthsOf}
use Rattle.recovery.specs.Restored.{no_room}
use Rattle.recovery.specs.Recovering.{RecoveryState, IsRecovery, AllWriteLittleBack, write_backs_of, behind_events}
use Rattle.recovery.specs.Told.{IsRecoveryFrom, bare_report}
use Rattle.recovery.proofs.FewWriteBacks.{write_backs_kept}
use Rattle.recovery.proofs.Safe.{bank_is}
use Rattle.recovery.proofs.Told.{few_counted}
use Rattle.replay_model.specs.Endings.{IsReportOfYard, IsRecoveredResume}
use Rattle.replay_laws.proofs.EndingsTold.{resume_is_told}
use Rattle.worker_model.specs.Workers.{WorkerState}
use Rattle.script_run.specs.Starts.{AreFirstWorkers}
use Rattle.script_run.specs.Jobs.{IsResumeOver, MayResume, recovery_mark}
use Rattle.script_run.specs.Resumes.{IsOpenedBy, IsRunIn}
use Rattle.script_run.proofs.FewTorn.{torn_few}
use Rattle.script_run.proofs.Openings.{counted_alike}

-- A LIFE that resumes over a ready memory.
module _ (settings : Settings) (scripts : Scripts) (memory : List BankState) where
  abbrev image : ImageRooms
  image = image_of memory nothing_kept

  -- there is one
  abbrev pub some_life : MayResume settings scripts memory → Opening
  some_life ready = record { settings = settings; scripts = scripts; life = Resume; epoch = epoch_at (sizes_of settings) image; state = ready.lawful.0 }

  pub some_over : (ready : MayResume settings scripts memory) → IsResumeOver settings scripts memory (some_life ready)
  some_over ready = record { settings_are = refl; scripts_are = refl; from = record { life = refl; epoch = refl; state = ready.lawful.1 } }

  -- it resumes from the image of its own sizes
  pub from_image : (o : Opening) → IsResumeOver settings scripts memory o → ResumesFrom (sizes o) image o
  from_image o over = subst (λ (s : Settings). ResumesFrom (sizes_of s) image o) (sym over.settings_are) over.from

-- THE BEGINNING of a life that resumes.
pairs_again : (m : Pairs) → from_entries (entries m) ≡ m
pairs_again m = same_map nat_cmp_total nat_cmp-IsAntisymmetric (from_entries (entries m)) m (λ q. get-from_entries nat_cmp_total (entries m) q ∙ sym (get-entries m q))

abbrev pub beginning_from : Opening → List ℕ → Beginning
beginning_from o counts = record {
  settings = o.settings;
  scripts = o.scripts;
  life = Resume;
  epoch = o.epoch;
  pairs = entries o.state.contents.pairs;
  items = o.state.contents.items;
  points = o.state.points;
  limit = 2 ^ 63;
  write_backs = counts;
}

pub begins_so : (o : Opening) (counts : List ℕ) → o.life ≡ Resume → opening_of (beginning_from o counts) ≡ o
begins_so o counts is = λ j. record {
  settings = o.settings;
  scripts = o.scripts;
  life = sym is j;
  epoch = o.epoch;
  state = record { contents = record { pairs = pairs_again o.state.contents.pairs j; items = o.state.contents.items }; points = o.state.points };
}

-- what holds once the recovery was handed over: the scripts are within their limits, and the world opens with each life that resumes
pub record IsHandedOver (settings : Settings) (scripts : Scripts) (memory : List BankState) (lengths : List ℕ) (r : RecoveryState) (world : WorldState) : Type 0 where
  pub ready : MayResume settings scripts memory
  pub valid : IsValid settings
  pub number : length scripts ≡ settings.threads
  pub short : All (λ (script : List Command). length script ≤ 4096) scripts
  pub about : (o : Opening) → IsResumeOver settings scripts memory o → IsRecovery o r
  pub few : AllWriteLittleBack (most_at settings (epoch_at (sizes_of settings) (image_of memory nothing_kept)) memory) r
  pub lengths_are : lengths ≡ map (λ (s : List Command). length s) scripts
  pub opens : (b : Beginning) → IsRecovery (opening_of b) r → b.write_backs ≡ write_backs_of r.rooms → AreLengthsOf b lengths → IsBeginning b → Opens b world

-- the bound on write-backs stays behind each event
pub few_behind : (most : ℕ → ℕ) (n : ℕ) (r : RecoveryState) → AllWriteLittleBack most r → AllWriteLittleBack most (behind_events n r)
few_behind most zero r few = few
few_behind most (suc n) r few = write_backs_kept most (behind_events n r) (few_behind most n r few)

-- the recovery is one over the memory
pub recovers_from : (settings : Settings) (scripts : Scripts) (memory : List BankState) (r : RecoveryState) (o : Opening) → MayResume settings scripts memory → IsResumeOver settings scripts memory o → IsRecovery o r
    → AllWriteLittleBack (most_at settings (epoch_at (sizes_of settings) (image_of memory nothing_kept)) memory) r → IsRecoveryFrom o memory r
recovers_from settings scripts memory r o ready over recovery few = record {
  quiet = ready.quiet;
  none = ready.none;
  from = from_image settings scripts memory o over;
  recovery = recovery;
  few = subst (λ (s : Settings). AllWriteLittleBack (most_at s (epoch_at (sizes_of s) (image_of memory nothing_kept)) memory) r) (sym over.settings_are) few;
}

-- the write-backs that the recovery of a life that resumes may make
few_write_backs : (life : Life) (o : Opening) (image : ImageRooms) → life ≡ Resume → recovery_write_backs (as_life life o) image ≡ 1 + torn_cells (sizes o) image
few_write_backs Start o image is = absurd (cc)
few_write_backs Resume o image is = refl

-- a script's length by its thread
length_at : (scripts : Scripts) (i : ℕ) → slice_index (map (λ (s : List Command). length s) scripts) i ≡ length (script_of scripts i)
length_at scripts i = get_or-map (λ (s : List Command). length s) scripts i []

module _ (settings : Settings) (scripts : Scripts) (memory : List BankState) (lengths : List ℕ) (r : RecoveryState) (world : WorldState) (handed : IsHandedOver settings scripts memory lengths r world) (o : Opening)
    (over : IsResumeOver settings scripts memory o) where
  abbrev b : Beginning
  b = beginning_from o (write_backs_of r.rooms)

  same : opening_of b ≡ o
  same = begins_so o (write_backs_of r.rooms) over.from.life

  recovery : IsRecovery o r
  recovery = handed.about o over

  is_beginning : IsBeginning b
  is_beginning = record {
    settings = subst IsValid (sym over.settings_are) handed.valid;
    scripts = ap (λ (ss : Scripts). length ss) over.scripts_are ∙ handed.number ∙ ap (λ (s : Settings). s.threads) (sym over.settings_are);
    short = subst (λ (ss : Scripts). All (λ (script : List Command). length script ≤ 4096) ss) (sym over.scripts_are) handed.short;
    points = recovery.points;
    places = λ thread lt. subst (λ (ss : Scripts). opening_place o thread ≤ length (script_of ss thread)) (sym over.scripts_are)
        (handed.ready.places o over thread (subst (λ (s : Settings). thread < s.threads) over.settings_are lt));
    begun = refl;
    epoch = recovery.some;
    early = let early = handed.ready.early in let epoch = over.from.epoch in omega (arith, early, epoch);
    limit = omega arith;
  }

  pub opens_with : Opens b world
  opens_with = handed.opens b (subst (λ (a : Opening). IsRecovery a r) (sym same) recovery) refl
      (λ i lt. ap (λ (ns : List ℕ). slice_index ns i) handed.lengths_are ∙ length_at scripts i ∙ ap (λ (ss : Scripts). length (script_of ss i)) (sym over.scripts_are)) is_beginning

  -- the write-backs with which a yard of this world begins are few
  counted : (f : Beginning) → Opens f world → total (write_backs_at f) (room_count (sizes o)) ≤ recovery_write_backs o (image_of memory nothing_kept)
  counted f opens =
      let alike : total (write_backs_at f) (room_count (sizes o)) ≡ total (λ k. (bank_at (memory_of r.rooms) k).write_backs) (room_count (sizes o)) =
      total-same (λ k. (bank_at (memory_of r.rooms) k).write_backs) (write_backs_at f) (room_count (sizes o)) (λ k lt.
      counted_alike b f world opens_with opens k lt ∙ get_or-map (λ (x : Room). (bank_of x).write_backs) r.rooms k no_room ∙ sym (ap (λ (c : BankState). c.write_backs) (bank_is o r recovery k))) in
      let few = few_counted o memory r (recovers_from settings scripts memory r o handed.ready over recovery handed.few) in
      omega (arith, alike, few)

  -- so none is near the end of its type
  early : (room : ℕ) → write_backs_at b room < 2 ^ 63
  early room = elim (cases_lt room (room_count (sizes o))) [
    | inl lt ↦
        let part = total-has (write_backs_at b) room (room_count (sizes o)) lt in
        let sum = counted b opens_with in
        let most = few_write_backs o.life o (image_of memory nothing_kept) over.from.life in
        let from = from_image settings scripts memory o over in
        let torn = torn_few (sizes o) (image_of memory nothing_kept) from.state.shape in
        let lines = line_total-few (sizes o) from.state.valid in
        omega (arith, part, sum, most, torn, lines)
    | inr ge ↦
        let all : length (write_backs_of r.rooms) ≡ room_count (sizes o) = length-map r.rooms (λ (x : Room). (bank_of x).write_backs) ∙ recovery.number in
        let none = get_or_past (write_backs_of r.rooms) room 0 (omega (arith, ge, all)) in
        omega (arith, none)
  ]

  pub opened_by : (workers : List WorkerState) (marks : List Mark) (epoch : ℕ) → AreFirstWorkers o settings.threads workers → epoch ≡ o.epoch → marks ≡ recovery_mark epoch ∷ []
      → IsOpenedBy settings scripts world workers marks (record { resumed = true; epoch = epoch }) b
  opened_by workers marks epoch first at are = record {
    begins = record { settings_are = over.settings_are; scripts_are = over.scripts_are; limit_is = refl };
    opens = opens_with;
    workers_are = subst (λ (a : Opening). AreFirstWorkers a settings.threads workers) (sym same) first;
    marks_are = are ∙ ap (λ (e : ℕ). recovery_mark e ∷ []) at;
    began_so = record { resumed = refl; epoch = at };
    early = early;
  }

  resumes : (f : Beginning) → Opens f world → opening_of f ≡ o → IsRecoveredResume f (image_of memory nothing_kept)
  resumes f opens is = record {
    from = subst (λ (a : Opening). ResumesFrom (sizes a) (image_of memory nothing_kept) a) (sym is) (from_image settings scripts memory o over);
    counts = subst (λ (a : Opening). total (write_backs_at f) (room_count (sizes a)) ≤ recovery_write_backs a (image_of memory nothing_kept)) (sym is) (counted f opens);
  }

  -- what is told of a yard of this world, and of any state of it
  pub yard_told : (f : Beginning) (y : ShownYard) (report : ReportState) (left : List BankState) → Opens f world → opening_of f ≡ o → y.beginning ≡ f → IsLawfulYard y → IsReportOfYard y report left
      → report.flushed ≡ all_write_backs left → TellsOf o (image_of memory nothing_kept) 0 report left
  yard_told f y report left opens is since lawful of flushed =
      subst (λ (a : Opening). TellsOf a (image_of memory nothing_kept) 0 report left) (ap opening_of since ∙ is)
      (resume_is_told y (image_of memory nothing_kept) report left lawful (subst (λ (g : Beginning). IsRecoveredResume g (image_of memory nothing_kept)) (sym since) (resumes f opens is)) of flushed)

  -- MEMORY RAN OUT before the yard was made: it is told as of the yard's first state.
  bank_there : (xs : List Room) (k : ℕ) (x : Room) → get_elem? (map Some xs) k ≡ some (Some x) → bank_at (memory_of xs) k ≡ bank_of x
  bank_there [] k x at = absurd (cc)
  bank_there (z ∷ xs) zero x at = ap (λ (q : Option Room). bank_or z q) (some-injective (Some z) (Some x) at)
    where
      bank_or : Room → Option Room → BankState
      bank_or z None = bank_of z
      bank_or z (Some q) = bank_of q
  bank_there (z ∷ xs) (suc k) x at = bank_there xs k x at

  memory_at_home : IsMemoryOf b (opening_yard b world) (memory_of world.rooms)
  memory_at_home = record {
    number = length-map world.rooms bank_of ∙ sym (length-map world.rooms Some) ∙ opens_with.yard.number_of_rooms;
    rooms = λ k lt. let x = opens_with.yard.home k lt in (x.0, x.1, bank_there world.rooms k x.0 x.1);
  }

  none_dead : NamesDead b (opening_yard b world) []
  none_dead = record {
    ascending = tt;
    are_dead = λ k named. let lt = named.1 in absurd (omega (arith, lt));
    all = λ k lt is. let free = opens_with.yard.locks k in absurd (omega (arith, free, is));
  }

  pub starved_told : (left : List BankState) (epoch : ℕ) (marks : List Mark) → left ≡ memory_of world.rooms → epoch ≡ o.epoch → marks ≡ recovery_mark epoch ∷ []
      → TellsOf o (image_of memory nothing_kept) 0 (bare_report epoch marks (all_write_backs left) Starved) left
  starved_told left epoch marks is at are =
      yard_told b (record { beginning = b; told = opening_told b world }) (bare_report epoch marks (all_write_backs left) Starved) left opens_with same refl (opens_lawful b (opening_yard b world) opens_with.yard)
      (record {
        resumed = refl;
        began = at;
        entries = refl;
        marks = are ∙ ap (λ (e : ℕ). recovery_mark e ∷ []) at;
        memory_of = subst (λ (m : List BankState). IsMemoryOf b (opening_yard b world) m) (sym is) memory_at_home;
        held = none_dead;
        ends = tt;
      })
      refl

  -- THE RUN in the yard is told.
  pub run_told : (turns : List ℕ) (workers : List WorkerState) (marks : List Mark) (epoch : ℕ) (report : ReportState) (left : List BankState) → AreFirstWorkers o settings.threads workers → epoch ≡ o.epoch
      → marks ≡ recovery_mark epoch ∷ [] → IsRunIn settings scripts turns world workers marks (record { resumed = true; epoch = epoch }) report left → TellsOf o (image_of memory nothing_kept) 0 report left
  run_told turns workers marks epoch report left first at are run =
      yard_told run.first.yard.beginning run.last.yard report left run.opens (run.opening b (opened_by workers marks epoch first at are) ∙ same) run.since run.lawful run.report run.flushed

  pub opens_as : (turns : List ℕ) (workers : List WorkerState) (marks : List Mark) (epoch : ℕ) (report : ReportState) (left : List BankState) → AreFirstWorkers o settings.threads workers → epoch ≡ o.epoch
      → marks ≡ recovery_mark epoch ∷ [] → (run : IsRunIn settings scripts turns world workers marks (record { resumed = true; epoch = epoch }) report left) → opening_of run.first.yard.beginning ≡ o
  opens_as turns workers marks epoch report left first at are run = run.opening b (opened_by workers marks epoch first at are) ∙ same
