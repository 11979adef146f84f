-- What is told of a resume, wherever it ended.
use Rattle.std.proofs.Common.{◌≡◌, ◌≢◌, ◌⊎◌, ⊎_elim, ℕ, zero, suc, true, ◌+◌, ◌-◌, ◌*◌, ◌^◌, ◌<◌, ◌≤◌, List, [], ◌∷◌, length, map, take, drop, refl, sym, ap, ◌∙◌, subst, inl, inr, arith, drop-drop}
use Rattle.std.proofs.Math.ListN.{drop_of_length-le}
use Rattle.std.proofs.Math.Nat.{mul-pos}
use Rattle.std.proofs.lemmas.List.{length-map}
use Rattle.std.specs.List.{All}
use Rattle.seq_object.specs.declared.command.Command.{Command}
use Rattle.seq_object.specs.declared.settings.Settings.{Settings}
use Rattle.seq_object.specs.declared.sizes.Sizes.{Sizes}
use Rattle.seq_object.specs.Sizes.{sizes_of, IsValid, room_count, line_total}
use Rattle.seq_object.specs.History.{Scripts}
use Rattle.line_memory.specs.Line.{BankState, all_write_backs}
use Rattle.room_model.specs.Image.{ImageRooms, image_of, nothing_kept, epoch_at}
use Rattle.life_model.specs.declared.life.Life.{Life}
use Rattle.life_model.specs.declared.life.Life.TheVariants.{Start, Resume}
use Rattle.life_model.specs.declared.life.Mark.{Mark}
use Rattle.life_model.specs.declared.life.Outcome.{Outcome}
use Rattle.life_model.specs.declared.life.Outcome.TheVariants.{Cut, Starved}
use Rattle.life_model.specs.Life.{Opening, sizes, lengths, closings}
use Rattle.life_model.specs.Told.{ReportState, TellsOf}
use Rattle.life_model.specs.Work.{OffersRounds, turns_for_rounds}
use Rattle.epoch_word.specs.declared.stage.EpochStage.{EpochStage}
use Rattle.epoch_word.specs.declared.stage.EpochStage.TheVariants.{Before, Stored, AskedFor, InMemory}
use Rattle.rooms.specs.declared.room.Room.{Room}
use Rattle.yard_model.specs.declared.view.Beginning.{Beginning}
use Rattle.yard_laws.proofs.Beginning.{as_life}
use Rattle.yard_model.specs.Beginnings.{opening_of, IsBeginning}
use Rattle.room_yard.specs.World.{WorldState, memory_of, Opens}
use Rattle.plain_yard.specs.Opening.{commands_in}
use Rattle.rounds.specs.Spent.{takeless_rounds, enough_rounds}
use Rattle.recovery.specs.Banks.{most_at}
use Rattle.recovery.specs.Laws.{AreLengthsOf, IsWorldOf}
use Rattle.recovery.specs.Recovering.{RecoveryState, IsRecovery, AllWriteLittleBack, behind_events, events_left, left_at, epoch_by_load, write_backs_of}
use Rattle.recovery.specs.Told.{bare_report}
use Rattle.recovery.proofs.Told.{cut_is_told, opening_epoch}
use Rattle.script_text.specs.Program.{Turns}
use Rattle.script_text.specs.Schedules.{schedule_of}
use Rattle.turn_order.specs.Orders.{OrderState}
use Rattle.worker_model.specs.Workers.{WorkerState}
use Rattle.replay_model.specs.Replays.{Replays}
use Rattle.script_run.specs.declared.ending.Began.{Began}
use Rattle.script_run.specs.Starts.{AreFirstWorkers}
use Rattle.script_run.specs.Enough.{EndsByRounds, EndsWhereEnough, ClosesFew}
use Rattle.script_run.specs.Recovers.{IsRecoveredBy}
use Rattle.script_run.specs.Jobs.{IsResumeOver, MayResume, IsRecoveryOver, recovery_mark, IsReplayOfResume, IsStarvedBehindRecovery, IsRunBehindRecovery}
use Rattle.script_run.specs.Resumes.{IsOpenedBy, IsRunIn, RunsOrStarves}
use Rattle.script_run.proofs.FewTorn.{events_few}
use Rattle.script_run.proofs.HandedOver.{IsHandedOver, from_image, some_life, some_over, few_behind, recovers_from, beginning_from, opened_by, starved_told, run_told, opens_as}

-- NO ROUNDS are offered where no turn is left.
none_taken : (n : ℕ) → length {A = ℕ} (take n []) ≡ 0
none_taken zero = refl
none_taken (suc n) = refl

none_offered : (threads rounds : ℕ) → 0 < threads → 0 < rounds → OffersRounds threads rounds [] → ⊥
none_offered threads zero some more offered = absurd (omega (arith, more))
none_offered threads (suc rounds) some more offered =
    let inside = (offered.1 0 some).1 in
    let none = none_taken offered.0 in
    absurd (omega (arith, inside, none))

some_rounds : (z : Sizes) (commands : ℕ) → 0 < takeless_rounds z commands
some_rounds z commands = let a : 0 < commands + 1 = omega arith in let b : 0 < 16 * room_count z + 64 = omega arith in mul-pos a b

rounds_for_takes : (z : Sizes) (commands : ℕ) → 0 < enough_rounds z commands
rounds_for_takes z commands = let a : 0 < 2 * commands + z.threads + 1 = omega arith in let b : 0 < 16 * room_count z + 64 = omega arith in mul-pos a b

-- so they end whatever comes
ends_without : (o : Opening) (turns : List ℕ) (outcome : Outcome) → 0 < o.settings.threads → turns ≡ [] → EndsByRounds o turns outcome
ends_without o turns outcome some none = record {
  takeless = λ takeless given. absurd (none_offered o.settings.threads (takeless_rounds (sizes o) (commands_in o.scripts)) some (some_rounds (sizes o) (commands_in o.scripts))
      (subst (λ (l : List ℕ). OffersRounds o.settings.threads (takeless_rounds (sizes o) (commands_in o.scripts)) l) none given));
  not_cut = λ given. absurd (none_offered o.settings.threads (enough_rounds (sizes o) (commands_in o.scripts)) some (rounds_for_takes (sizes o) (commands_in o.scripts))
      (subst (λ (l : List ℕ). OffersRounds o.settings.threads (enough_rounds (sizes o) (commands_in o.scripts)) l) none given));
}

-- at want of memory nothing is asked
ends_starved : (o : Opening) (turns : List ℕ) (outcome : Outcome) → outcome ≡ Starved → EndsByRounds o turns outcome
ends_starved o turns outcome is = record {
  takeless = λ takeless given. inr is;
  not_cut = λ given cut. let q : Starved ≡ Cut = sym is ∙ cut in absurd (cc q);
}

-- OF A LIFE THAT RESUMES: the turns in which its rounds are counted, and its closings.
turns_counted : (life : Life) (o : Opening) (schedule : List ℕ) → life ≡ Resume → turns_for_rounds (as_life life o) schedule ≡ drop (5 * line_total (sizes o)) schedule
turns_counted Start o schedule is = absurd (cc)
turns_counted Resume o schedule is = refl

closings_counted : (life : Life) (o : Opening) (marks : List ℕ) → life ≡ Resume → closings (as_life life o) marks ≡ length marks - 1
closings_counted Start o marks is = absurd (cc)
closings_counted Resume o marks is = refl

-- it closes no epoch where it has no mark but that of its recovery
none_closed : (o : Opening) (marks : List ℕ) → o.life ≡ Resume → length marks ≤ 1 → ClosesFew o [] marks
none_closed o marks is few =
    let counted = closings_counted o.life o marks is in
    record { seldom = omega (arith, counted, few); once_per_entry = λ takeless. omega (arith, counted, few) }

-- an event is left before a recovery's end, and none behind it
some_left : (stage : EpochStage) (rooms : List Room) → stage ≢ InMemory → 0 < left_at stage rooms
some_left Before rooms going = omega arith
some_left Stored rooms going = omega arith
some_left AskedFor rooms going = omega arith
some_left InMemory rooms going = absurd (going refl)

none_left : (stage : EpochStage) (rooms : List Room) → stage ≡ InMemory → left_at stage rooms ≡ 0
none_left Before rooms at = absurd (cc at)
none_left Stored rooms at = absurd (cc at)
none_left AskedFor rooms at = absurd (cc at)
none_left InMemory rooms at = refl

-- a resume before its first event: its scripts are within their limits, this is the first state of its recovery, and this its first epoch
pub record IsBegun (settings : Settings) (scripts : Scripts) (memory : List BankState) (first : RecoveryState) (epoch : ℕ) : Type 0 where
  pub ready : MayResume settings scripts memory
  pub valid : IsValid settings
  pub number : length scripts ≡ settings.threads
  pub short : All (λ (script : List Command). length script ≤ 4096) scripts
  pub over : IsRecoveryOver settings memory first
  pub stage : first.stage ≡ Before
  pub few : AllWriteLittleBack (most_at settings (epoch_at (sizes_of settings) (image_of memory nothing_kept)) memory) first
  pub epoch_is : epoch ≡ epoch_by_load first

-- what is told of it
pub record IsToldResume (settings : Settings) (scripts : Scripts) (schedule : List ℕ) (memory : List BankState) (r : ReportState) (left : List BankState) : Type 0 where
  pub told : (o : Opening) → IsResumeOver settings scripts memory o → TellsOf o (image_of memory nothing_kept) 0 r left
  pub run : IsReplayOfResume settings scripts schedule memory r left
  pub ends : (o : Opening) → IsResumeOver settings scripts memory o → EndsWhereEnough o schedule r.outcome
  pub closes : (o : Opening) → IsResumeOver settings scripts memory o → ClosesFew o r.entries (lengths r.marks)

module _ (settings : Settings) (scripts : Scripts) (memory : List BankState) (first : RecoveryState) (epoch : ℕ) (begun : IsBegun settings scripts memory first epoch) where
  abbrev image_here : ImageRooms
  image_here = image_of memory nothing_kept

  -- its first epoch is that of each life that resumes so, and of the image
  recovers : (o : Opening) → IsResumeOver settings scripts memory o → IsRecovery o first
  recovers o over = begun.over.about o over.settings_are (from_image settings scripts memory o over)

  epoch_of : (o : Opening) → IsResumeOver settings scripts memory o → epoch ≡ o.epoch
  epoch_of o over = begun.epoch_is ∙ opening_epoch o first (recovers o over) begun.stage

  pub epoch_here : epoch ≡ epoch_at (sizes_of settings) image_here
  epoch_here = epoch_of (some_life settings scripts memory begun.ready) (some_over settings scripts memory begun.ready)

  pub epoch_fits : epoch < 2 ^ 32 - 1
  epoch_fits = let is = epoch_here in let early = begun.ready.early in omega (arith, is, early)

module _ (settings : Settings) (scripts : Scripts) (memory : List BankState) (first : RecoveryState) (epoch : ℕ) (begun : IsBegun settings scripts memory first epoch) (turns : Turns)
    (r : RecoveryState) (order : OrderState) (by : IsRecoveredBy settings.threads turns first r order) where
  abbrev schedule : List ℕ
  schedule = schedule_of settings.threads turns

  abbrev image : ImageRooms
  image = image_of memory nothing_kept

  recovers_first : (o : Opening) → IsResumeOver settings scripts memory o → IsRecovery o first
  recovers_first o over = recovers settings scripts memory first epoch begun o over

  epoch_first : (o : Opening) → IsResumeOver settings scripts memory o → epoch ≡ o.epoch
  epoch_first o over = epoch_of settings scripts memory first epoch begun o over

  epoch_image : epoch ≡ epoch_at (sizes_of settings) image
  epoch_image = epoch_here settings scripts memory first epoch begun

  -- it has the settings of the life, so these lengths of scripts are as many as it asks for
  pub settings_here : r.settings ≡ settings
  settings_here =
      let o = some_life settings scripts memory begun.ready in
      (by.goes.about o (recovers_first o (some_over settings scripts memory begun.ready))).settings

  pub as_many : (ends_of : List ℕ) → ends_of ≡ map (λ (s : List Command). length s) scripts → length ends_of ≡ r.settings.threads
  as_many ends_of are = ap (λ (ns : List ℕ). length ns) are ∙ length-map scripts (λ (s : List Command). length s) ∙ begun.number ∙ sym (ap (λ (s : Settings). s.threads) settings_here)

  few_now : AllWriteLittleBack (most_at settings (epoch_at (sizes_of settings) image) memory) r
  few_now = subst (AllWriteLittleBack (most_at settings (epoch_at (sizes_of settings) image) memory)) (sym by.goes.is) (few_behind (most_at settings (epoch_at (sizes_of settings) image) memory) order.given first begun.few)

  -- all its events are among the turns in which no round is counted
  events : events_left first ≤ 5 * line_total (sizes_of settings)
  events =
      let lawful = begun.ready.lawful.1 in
      let most = events_few (sizes_of settings) image lawful.shape lawful.valid in
      let are = begun.over.events in
      omega (arith, most, are)

  -- the turns in which a life's rounds are counted
  counted : (o : Opening) → IsResumeOver settings scripts memory o → turns_for_rounds o schedule ≡ drop (5 * line_total (sizes_of settings)) schedule
  counted o over = turns_counted o.life o schedule over.from.life ∙ ap (λ (s : Settings). drop (5 * line_total (sizes_of s)) schedule) over.settings_are

  -- CUT WITHIN THE RECOVERY.
  module _ (going : r.stage ≢ InMemory) (marks : List Mark) (none : marks ≡ []) (left : List BankState) (is : left ≡ memory_of r.rooms) where
    spent : order.given ≡ length schedule
    spent = ⊎_elim (λ (at : r.stage ≡ InMemory). absurd (going at)) (λ (e : order.given ≡ length schedule). e) by.ends

    few_turns : length schedule < events_left first
    few_turns =
        let all = spent in
        let goes = by.goes.left in
        let more = some_left r.stage r.rooms going in
        omega (arith, all, goes, more)

    cut_told : (o : Opening) → IsResumeOver settings scripts memory o → TellsOf o image 0 (bare_report epoch marks (all_write_backs left) Cut) left
    cut_told o over =
        let told = cut_is_told o memory r (recovers_from settings scripts memory r o begun.ready over (by.goes.about o (recovers_first o over)) few_now)
        (ap (λ (ss : Scripts). length ss) over.scripts_are ∙ begun.number ∙ ap (λ (s : Settings). s.threads) (sym over.settings_are)) going in
        subst (λ (z : (ℕ × List Mark) × List BankState). TellsOf o image 0 (bare_report z.0.0 z.0.1 (all_write_backs z.1) Cut) z.1) (let e = sym (epoch_first o over) in let n = sym none in let i = sym is in (λ j. ((e j, n j), i j))) told

    pub cut_resume : IsToldResume settings scripts schedule memory (bare_report epoch marks (all_write_backs left) Cut) left
    cut_resume = record {
      told = cut_told;
      run = record {
        first = first;
        recovery = begun.over;
        goes = inl (record {
          few = few_turns;
          left_is = is ∙ ap (λ (s : RecoveryState). memory_of s.rooms) by.goes.is ∙ ap (λ (n : ℕ). memory_of (behind_events n first).rooms) spent;
          report = let e = epoch_image in (λ j. bare_report (e j) (none j) (all_write_backs left) Cut);
        });
      };
      ends = λ o over. ends_without o (turns_for_rounds o schedule) Cut
          (subst (λ (s : Settings). 0 < s.threads) (sym over.settings_are) (let some = begun.valid.sizes.some_threads in omega (arith, some)))
          (counted o over ∙ drop_of_length-le schedule (let few = few_turns in let most = events in omega (arith, few, most)));
      closes = λ o over. none_closed o (lengths marks) over.from.life (let n : length (lengths marks) ≡ 0 = ap (λ (ms : List Mark). length (lengths ms)) none in omega (arith, n));
    }

  -- BEHIND THE RECOVERY.
  module _ (at : r.stage ≡ InMemory) (ends_of : List ℕ) (are : ends_of ≡ map (λ (s : List Command). length s) scripts) (world : WorldState) (of : IsWorldOf r ends_of world)
      (opens : (b : Beginning) → IsRecovery (opening_of b) r → b.write_backs ≡ write_backs_of r.rooms → AreLengthsOf b ends_of → IsBeginning b → Opens b world) (workers : List WorkerState) (workers_are : (o : Opening) → IsResumeOver settings scripts memory o → AreFirstWorkers o settings.threads workers)
      (marks : List Mark) (marked : marks ≡ recovery_mark epoch ∷ []) where
    abbrev began : Began
    began = record { resumed = true; epoch = epoch }

    handed : IsHandedOver settings scripts memory ends_of r world
    handed = record {
      ready = begun.ready;
      valid = begun.valid;
      number = begun.number;
      short = begun.short;
      about = λ o over. by.goes.about o (recovers_first o over);
      few = few_now;
      lengths_are = are;
      opens = opens;
    }

    given_all : order.given ≡ events_left first
    given_all = let goes = by.goes.left in let none = none_left r.stage r.rooms at in omega (arith, goes, none)

    -- some life opens with the world, its workers and its mark
    pub some_opened : (b : Beginning) × IsOpenedBy settings scripts world workers marks began b
    some_opened =
        let o = some_life settings scripts memory begun.ready in
        let over = some_over settings scripts memory begun.ready in
        (beginning_from o (write_backs_of r.rooms), opened_by settings scripts memory ends_of r world handed o over workers marks epoch (workers_are o over) (epoch_first o over) marked)

    module _ (report : ReportState) (left : List BankState) (goes : RunsOrStarves settings scripts (drop order.given schedule) world workers marks began report left) where
      ran_told : (o : Opening) → IsResumeOver settings scripts memory o → TellsOf o image 0 report left
      ran_told o over = ⊎_elim
          (λ (starved : (left ≡ memory_of world.rooms) × (report ≡ bare_report epoch marks (all_write_backs left) Starved)).
          subst (λ (s : ReportState). TellsOf o image 0 s left) (sym starved.1) (starved_told settings scripts memory ends_of r world handed o over left epoch marks starved.0 (epoch_first o over) marked))
          (λ (run : IsRunIn settings scripts (drop order.given schedule) world workers marks began report left).
          run_told settings scripts memory ends_of r world handed o over (drop order.given schedule) workers marks epoch report left (workers_are o over) (epoch_first o over) marked run)
          goes

      marked_so : marks ≡ recovery_mark (epoch_at (sizes_of settings) image) ∷ []
      marked_so = marked ∙ ap (λ (e : ℕ). recovery_mark e ∷ []) epoch_image

      went : IsStarvedBehindRecovery settings memory world report left ⊎ IsRunBehindRecovery settings scripts (drop (events_left first) schedule) memory world report left
      went = ⊎_elim
          (λ (starved : (left ≡ memory_of world.rooms) × (report ≡ bare_report epoch marks (all_write_backs left) Starved)).
          inl (record { left_is = starved.0; report = starved.1 ∙ (let e = epoch_image in let m = marked_so in (λ j. bare_report (e j) (m j) (all_write_backs left) Starved)) }))
          (λ (run : IsRunIn settings scripts (drop order.given schedule) world workers marks began report left).
          inr (record {
            first = run.first;
            last = run.last;
            workers = workers;
            is = run.is;
            opens = run.opens;
            opening = λ o over. opens_as settings scripts memory ends_of r world handed o over (drop order.given schedule) workers marks epoch report left (workers_are o over) (epoch_first o over) marked run;
            number = run.number;
            replays = subst (λ (n : ℕ). Replays report.outcome (drop n schedule) run.first run.last) given_all run.replays;
            report = run.report;
          }))
          goes

      is_world : IsWorldOf (behind_events (events_left first) first) (map (λ (s : List Command). length s) scripts) world
      is_world = subst (λ (z : RecoveryState × List ℕ). IsWorldOf z.0 z.1 world) (let s = by.goes.is ∙ ap (λ (n : ℕ). behind_events n first) given_all in (λ j. (s j, are j))) of

      -- the rounds that are counted are offered behind the recovery
      rounds_left : (o : Opening) → IsResumeOver settings scripts memory o → drop (5 * line_total (sizes_of settings) - order.given) (drop order.given schedule) ≡ turns_for_rounds o schedule
      rounds_left o over =
          let most = events in
          let all = given_all in
          let sum : order.given + (5 * line_total (sizes_of settings) - order.given) ≡ 5 * line_total (sizes_of settings) = omega (arith, most, all) in
          drop-drop (5 * line_total (sizes_of settings) - order.given) order.given schedule ∙ ap (λ (n : ℕ). drop n schedule) sum ∙ sym (counted o over)

      ran_ends : (o : Opening) → IsResumeOver settings scripts memory o → EndsWhereEnough o schedule report.outcome
      ran_ends o over = ⊎_elim
          (λ (starved : (left ≡ memory_of world.rooms) × (report ≡ bare_report epoch marks (all_write_backs left) Starved)).
          ends_starved o (turns_for_rounds o schedule) report.outcome (ap (λ (s : ReportState). s.outcome) starved.1))
          (λ (run : IsRunIn settings scripts (drop order.given schedule) world workers marks began report left).
          let opening = opens_as settings scripts memory ends_of r world handed o over (drop order.given schedule) workers marks epoch report left (workers_are o over) (epoch_first o over) marked run in
          let turns_are = rounds_left o over in
          subst (λ (z : Opening × List ℕ). EndsByRounds z.0 z.1 report.outcome) (λ j. (opening j, turns_are j)) (run.ends (5 * line_total (sizes_of settings) - order.given)))
          goes

      ran_closes : (o : Opening) → IsResumeOver settings scripts memory o → ClosesFew o report.entries (lengths report.marks)
      ran_closes o over = ⊎_elim
          (λ (starved : (left ≡ memory_of world.rooms) × (report ≡ bare_report epoch marks (all_write_backs left) Starved)).
          subst (λ (s : ReportState). ClosesFew o s.entries (lengths s.marks)) (sym starved.1)
          (none_closed o (lengths marks) over.from.life (let n : length (lengths marks) ≡ 1 = ap (λ (ms : List Mark). length (lengths ms)) marked in omega (arith, n))))
          (λ (run : IsRunIn settings scripts (drop order.given schedule) world workers marks began report left).
          subst (λ (a : Opening). ClosesFew a report.entries (lengths report.marks))
          (opens_as settings scripts memory ends_of r world handed o over (drop order.given schedule) workers marks epoch report left (workers_are o over) (epoch_first o over) marked run) run.closes)
          goes

      pub ran_resume : IsToldResume settings scripts schedule memory report left
      ran_resume = record {
        told = ran_told;
        run = record {
          first = first;
          recovery = begun.over;
          goes = inr (record {
            enough = let within = by.goes.order.given in let all = given_all in omega (arith, within, all);
            world = world;
            is_world = is_world;
            goes = went;
          });
        };
        ends = ran_ends;
        closes = ran_closes;
      }
