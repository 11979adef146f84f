-- Enough rounds end a replay, and it closes seldom.
use Rattle.std.proofs.Common.{◌≡◌, ◌≢◌, ◌⊎◌, ℕ, Bool, true, false, ◌+◌, List, [], length, drop, Err, refl, sym, ap, ◌∙◌, subst, inl, inr, arith}
use Rattle.std.specs.declared.alloc.AllocError.{AllocError}
use Rattle.seq_object.specs.declared.history.Entry.{Entry}
use Rattle.seq_object.specs.declared.settings.Settings.{Settings}
use Rattle.seq_object.specs.declared.sizes.Sizes.{Sizes}
use Rattle.seq_object.specs.History.{Scripts, total}
use Rattle.seq_object.specs.Sizes.{sizes_of}
use Rattle.life_model.specs.declared.life.Outcome.{Outcome}
use Rattle.life_model.specs.declared.life.Outcome.TheVariants.{Finished, Stalled, Cut, Starved}
use Rattle.life_model.specs.Life.{Opening, script_of, start_of, lengths}
use Rattle.life_model.specs.Told.{ReportState}
use Rattle.life_model.specs.Work.{OffersRounds, HasNoTake, ClosesSeldom, ClosesOncePerEntry}
use Rattle.line_memory.specs.Line.{BankState}
use Rattle.yard_model.specs.declared.view.Beginning.{Beginning}
use Rattle.yard_model.specs.declared.view.Checkpoint.{Checkpoint}
use Rattle.yard_model.specs.Beginnings.{opening_of, marks_of, is_over}
use Rattle.yard_model.specs.World.{YardState}
use Rattle.yard_model.specs.Outcomes.{NoneWaits, ShowsEnd}
use Rattle.yard_laws.proofs.Outcomes.{none_waits_without_take}
use Rattle.plain_yard.specs.Opening.{commands_in}
use Rattle.plain_yard.proofs.Fits.{all_commands as counted}
use Rattle.yard_progress.specs.Shown.{all_commands}
use Rattle.rounds.specs.Spent.{takeless_rounds, enough_rounds}
use Rattle.replay_model.specs.Replays.{ReplayState, TurnOf, is_over_in}
use Rattle.replay_model.specs.Kept.{IsReplay}
use Rattle.replay_laws.proofs.EndingsTold.{lengths_from}
use Rattle.replay_progress.specs.Shown.{GoesOnRight}
use Rattle.replay_progress.proofs.Refused.{refused_turn}
use Rattle.replay_progress.proofs.Whole.{takeless_replay_ends, replay_ends, replay_closes_seldom}
use Rattle.script_run.specs.Runs.{RunsOrDries}
use Rattle.script_run.specs.Starts.{IsStartOf}
use Rattle.script_run.specs.Ends.{TellsWant, Ends}
use Rattle.script_run.specs.Enough.{EndsByRounds, EndsWhereEnough, ClosesFew}
use Rattle.script_run.proofs.Starting.{no_checkpoint}

-- HOW IT ENDS.

-- a life that is over is not cut,
over_is_not_cut : (outcome : Outcome) (b : Beginning) (w : YardState) (cs : List Checkpoint) → ShowsEnd outcome b w cs → is_over b cs ≡ true → outcome ≢ Cut
over_is_not_cut Finished b w cs shows over is = absurd (grind arith)
over_is_not_cut Stalled b w cs shows over is = absurd (grind arith)
over_is_not_cut Cut b w cs shows over is = let q : true ≡ false = sym over ∙ shows in absurd (grind arith)
over_is_not_cut Starved b w cs shows over is = absurd (grind arith)

-- and is finished where none waits
over_is_finished : (outcome : Outcome) (b : Beginning) (w : YardState) (cs : List Checkpoint) → ShowsEnd outcome b w cs → is_over b cs ≡ true → NoneWaits b w → (outcome ≡ Finished) ⊎ (outcome ≡ Starved)
over_is_finished Finished b w cs shows over none = inl refl
over_is_finished Stalled b w cs shows over none = absurd (none shows.1.thread shows.1.room shows.1.within shows.1.home shows.1.waits)
over_is_finished Cut b w cs shows over none = let q : true ≡ false = sym over ∙ shows in absurd (grind arith)
over_is_finished Starved b w cs shows over none = inr refl

-- at want of memory the outcome says so
starved : (outcome : Outcome) → TellsWant true outcome → outcome ≡ Starved
starved Finished want = let q : true ≡ false = want in absurd (grind arith)
starved Stalled want = let q : true ≡ false = want in absurd (grind arith)
starved Cut want = let q : true ≡ false = want in absurd (grind arith)
starved Starved want = refl

-- HOW SELDOM IT CLOSES, of the entries and checkpoints of a state.
abbrev Seldom : ReplayState → Type 0
Seldom s = ClosesSeldom (opening_of s.yard.beginning) s.yard.told.history (marks_of s.yard.beginning s.yard.told.checkpoints)
    × ClosesOncePerEntry (opening_of s.yard.beginning) s.yard.told.history (marks_of s.yard.beginning s.yard.told.checkpoints)

-- a state with the same beginning, entries and checkpoints closes as seldom
seldom_same : (s t : ReplayState) → t.yard.beginning ≡ s.yard.beginning → t.yard.told.history ≡ s.yard.told.history → t.yard.told.checkpoints ≡ s.yard.told.checkpoints → Seldom s → Seldom t
seldom_same s t beginning history checkpoints seldom =
    subst (λ (z : (Beginning × List Entry) × List Checkpoint). ClosesSeldom (opening_of z.0.0) z.0.1 (marks_of z.0.0 z.1) × ClosesOncePerEntry (opening_of z.0.0) z.0.1 (marks_of z.0.0 z.1))
    (λ k. ((sym beginning k, sym history k), sym checkpoints k)) seldom

module _ (first : ReplayState) (replay : IsReplay first) (right : GoesOnRight first) (none : first.yard.told.checkpoints ≡ []) (turns : List ℕ) (t : ReplayState) where
  -- so does one behind a run at whose last turn memory ran out
  refused_seldom : (i : ℕ) (last : ReplayState) → Seldom last → ((error : AllocError) × TurnOf i last (Err error) t) ⊎ (t ≡ last) → Seldom t
  refused_seldom i last seldom (inl refused) =
      let same = refused_turn i last t refused.0 refused.1 in seldom_same last t refused.1.beginning same.0 same.1 seldom
  refused_seldom i last seldom (inr same) = subst Seldom (sym same) seldom

  ran_seldom : (dry : Bool) → RunsOrDries dry turns first t → Seldom t
  ran_seldom false runs = replay_closes_seldom first t turns replay right none runs
  ran_seldom true dries = refused_seldom dries.thread dries.last (replay_closes_seldom first dries.last dries.front replay right none dries.runs) dries.refused

-- OF A REPLAY whose life begins so.
module _ (o : Opening) (first : ReplayState) (opening : opening_of first.yard.beginning ≡ o) (none : first.yard.told.checkpoints ≡ []) (replay : IsReplay first) (right : GoesOnRight first)
    (ran : ReplayState) (goes : IsReplay ran) (beginning : ran.yard.beginning ≡ first.yard.beginning) (dry : Bool) (r : ReportState) (memory : List BankState) (ends : Ends dry ran r memory)
    (turns : List ℕ) (runs : RunsOrDries dry turns first ran) where
  since_first : ends.last.yard.beginning ≡ first.yard.beginning
  since_first = ends.beginning ∙ beginning

  opens_so : opening_of ends.last.yard.beginning ≡ o
  opens_so = ap opening_of since_first ∙ opening

  -- its settings, and the commands of all scripts
  same_settings : o.settings ≡ first.yard.beginning.settings
  same_settings = sym (ap (λ (a : Opening). a.settings) opening)

  commands : commands_in o.scripts ≡ all_commands first.yard.beginning
  commands =
      sym (ap (λ (n : ℕ). total (λ j. length (script_of first.yard.beginning.scripts j)) n) (sym replay.lawful.bounds.beginning.scripts)
      ∙ counted first.yard.beginning.scripts ∙ ap (λ (a : Opening). commands_in a.scripts) opening)

  -- a run that came to the life's end ends over
  ends_over : is_over_in ran ≡ true → is_over ends.last.yard.beginning ends.last.yard.told.checkpoints ≡ true
  ends_over over =
      subst (λ (z : Beginning × List Checkpoint). is_over z.0 z.1 ≡ true) (λ k. (sym ends.beginning k, sym ends.checkpoints k)) (sym goes.lawful.arrival.word.over ∙ over)

  -- turns that offer so many rounds of the life offer them of its first state
  abbrev Offers : ℕ → (Sizes → ℕ → ℕ) → Settings × ℕ → Type 0
  Offers m rounds z = OffersRounds z.0.threads (rounds (sizes_of z.0) z.1) (drop m turns)

  offers : (m : ℕ) (rounds : Sizes → ℕ → ℕ) → Offers m rounds (o.settings, commands_in o.scripts) → Offers m rounds (first.yard.beginning.settings, all_commands first.yard.beginning)
  offers m rounds given = subst (Offers m rounds) (λ k. (same_settings k, commands k)) given

  not_cut : (m : ℕ) (d : Bool) → TellsWant d r.outcome → RunsOrDries d turns first ran → Offers m enough_rounds (o.settings, commands_in o.scripts) → r.outcome ≢ Cut
  not_cut m true want kept given is = let q : Starved ≡ Cut = sym (starved r.outcome want) ∙ is in absurd (cc q)
  not_cut m false want kept given is =
      over_is_not_cut r.outcome ends.last.yard.beginning ends.last.yard.told.world ends.last.yard.told.checkpoints ends.report.ends
      (ends_over (replay_ends first ran turns m replay right none kept (offers m enough_rounds given))) is

  finished : (m : ℕ) (d : Bool) → TellsWant d r.outcome → RunsOrDries d turns first ran → HasNoTake o → Offers m takeless_rounds (o.settings, commands_in o.scripts)
      → (r.outcome ≡ Finished) ⊎ (r.outcome ≡ Starved)
  finished m true want kept takeless given = inr (starved r.outcome want)
  finished m false want kept takeless given =
      let over = ends_over (takeless_replay_ends first ran turns m replay right none (subst HasNoTake (sym opening) takeless) kept (offers m takeless_rounds given)) in
      over_is_finished r.outcome ends.last.yard.beginning ends.last.yard.told.world ends.last.yard.told.checkpoints ends.report.ends over
      (none_waits_without_take ends.last.yard.beginning ends.last.yard.told.world ends.last.yard.told.history ends.last.yard.told.checkpoints ends.lawful over (subst HasNoTake (sym opens_so) takeless))

  pub ends_by_rounds : (m : ℕ) → EndsByRounds o (drop m turns) r.outcome
  ends_by_rounds m = record {
    takeless = λ takeless given. finished m dry ends.want runs takeless given;
    not_cut = λ given. not_cut m dry ends.want runs given;
  }

  -- the report's marks are of the yard's checkpoints
  marks_told : marks_of ends.last.yard.beginning ends.last.yard.told.checkpoints ≡ lengths r.marks
  marks_told = sym (ap lengths ends.report.marks ∙ lengths_from (ends.last.yard.beginning.epoch + 1) (marks_of ends.last.yard.beginning ends.last.yard.told.checkpoints))

  pub closes_few : ClosesFew o r.entries (lengths r.marks)
  closes_few =
      let last = seldom_same ran ends.last ends.beginning ends.history ends.checkpoints (ran_seldom first replay right none turns ran dry runs) in
      subst (λ (z : (Opening × List Entry) × List ℕ). ClosesFew z.0.0 z.0.1 z.1) (λ k. ((opens_so k, sym ends.report.entries k), marks_told k)) (record { seldom = last.0; once_per_entry = last.1 })

-- OF A START all turns of the schedule are the workers'.
module _ (settings : Settings) (scripts : Scripts) (first : ReplayState) (start : IsStartOf settings scripts first) (replay : IsReplay first) (right : GoesOnRight first)
    (ran : ReplayState) (goes : IsReplay ran) (beginning : ran.yard.beginning ≡ first.yard.beginning) (dry : Bool) (r : ReportState) (memory : List BankState) (ends : Ends dry ran r memory)
    (schedule : List ℕ) (runs : RunsOrDries dry schedule first ran) where
  pub start_ends : EndsWhereEnough (start_of settings scripts) schedule r.outcome
  start_ends = ends_by_rounds (start_of settings scripts) first start.opening (no_checkpoint settings scripts first start) replay right ran goes beginning dry r memory ends schedule runs 0

  pub start_closes : ClosesFew (start_of settings scripts) r.entries (lengths r.marks)
  start_closes = closes_few (start_of settings scripts) first start.opening (no_checkpoint settings scripts first start) replay right ran goes beginning dry r memory ends schedule runs
