-- Where the turns of a script are enough, no life of it is told as cut, and none without a take as stalled.
use Rattle.std.proofs.Common.{◌≡◌, ◌≢◌, ◌⊎◌, ℕ, ◌<◌, List, Option, Some, refl, ap, ◌∙◌, subst, inl, inr, arith}
use Rattle.byte_ports.specs.Images.{Named}
use Rattle.line_memory.specs.Line.{BankState}
use Rattle.room_model.specs.Image.{ImageRooms as Rooms}
use Rattle.seq_object.specs.declared.settings.Settings.{Settings}
use Rattle.seq_object.specs.History.{Scripts}
use Rattle.seq_object.specs.Sizes.{sizes_of}
use Rattle.life_model.specs.declared.life.Life.{Life}
use Rattle.life_model.specs.declared.life.Life.TheVariants.{Start, Resume}
use Rattle.life_model.specs.declared.life.Outcome.{Outcome}
use Rattle.life_model.specs.declared.life.Outcome.TheVariants as ends
use Rattle.life_model.specs.Life.{Opening}
use Rattle.life_model.specs.Work.{OffersRounds, turns_for_rounds}
use Rattle.life_laws.proofs.Works.{worker_rounds}
use Rattle.plain_yard.specs.Opening.{commands_in}
use Rattle.rounds.specs.Spent.{takeless_rounds, enough_rounds}
use Rattle.script_text.specs.Program.{Program, Turns, round_robin, seeded, listed, live}
use Rattle.script_text.specs.Text.{HasText, text_of}
use Rattle.script_text.specs.Built.{IsBuiltText}
use Rattle.script_text.specs.Schedules.{schedule_of}
use Rattle.script_text.proofs.WholeLaws.{one_text}
use Rattle.script_run.specs.Enough.{EndsWhereEnough}
use Rattle.respct.specs.declared.status.Status.{Status}
use Rattle.respct.specs.declared.status.Status.TheVariants as statuses
use Rattle.program_words.specs.Words.{AskFor}
use Rattle.respct.specs.Openings.{BeginsAs}
use Rattle.respct.specs.Run.{Led, IsLed, schedule_in}
use Rattle.respct.specs.Steps.{Ports}
use Rattle.respct.specs.Enough.{scripts_in, GoRound, turns_for, GivesRounds, IsInTime}
use Rattle.respct.proofs.Naming.{one_life}
use Rattle.respct.proofs.Deciding.{given}
use Rattle.respct.proofs.Telling.{Told, IsToldAs}

-- TURNS.

-- those that go round offer a round for each time that they go round
goes_round : (life : Life) (p : Program) (rounds : ℕ) (turns : Turns) → 0 < p.settings.threads → GoRound (turns_for life p rounds) turns
    → OffersRounds p.settings.threads rounds (turns_for_rounds (scripts_in life p) (schedule_of p.settings.threads turns))
goes_round Start p rounds (round_robin n) some many = (worker_rounds (scripts_in Start p) rounds n some).0 refl many
goes_round Resume p rounds (round_robin n) some many = (worker_rounds (scripts_in Resume p) rounds n some).1 many
goes_round life p rounds (seeded seed n) some many = absurd many
goes_round life p rounds (listed named) some many = absurd many
goes_round life p rounds (live n) some many = absurd many

offers : (life : Life) (p : Program) (rounds : ℕ) → HasText p → GivesRounds life rounds p → OffersRounds p.settings.threads rounds (turns_for_rounds (scripts_in life p) (schedule_in p))
offers life p rounds text (inl offered) = offered
offers life p rounds text (inr many) = goes_round life p rounds p.turns (let some = text.settings.sizes.some_threads in omega (arith, some)) many

-- A LIFE.

-- how it ends is a matter of its settings, its scripts and its kind
by_scripts : (o : Opening) (life : Life) (p : Program) (schedule : List ℕ) (outcome : Outcome) → o.settings ≡ p.settings → o.scripts ≡ p.threads → o.life ≡ life → EndsWhereEnough o schedule outcome
    → EndsWhereEnough (scripts_in life p) schedule outcome
by_scripts o life p schedule outcome settings scripts kind ends =
    let first : EndsWhereEnough (record o { settings = p.settings }) schedule outcome = subst (λ (s : Settings). EndsWhereEnough (record o { settings = s }) schedule outcome) settings ends in
    let second : EndsWhereEnough (record o { settings = p.settings; scripts = p.threads }) schedule outcome =
    subst (λ (s : Scripts). EndsWhereEnough (record o { settings = p.settings; scripts = s }) schedule outcome) scripts first in
    let third : EndsWhereEnough (record o { settings = p.settings; scripts = p.threads; life = life }) schedule outcome =
    subst (λ (l : Life). EndsWhereEnough (record o { settings = p.settings; scripts = p.threads; life = l }) schedule outcome) kind second in
    record { takeless = third.takeless; not_cut = third.not_cut }

-- the settings, the scripts and the kind with which a life begins
begins_with : (life : Life) (kept : Option Named) (name : List ℕ) (p : Program) (image : Rooms) (o : Opening) → BeginsAs life kept name p image o
    → (o.settings ≡ p.settings) × (o.scripts ≡ p.threads) × (o.life ≡ life)
begins_with Start kept name p image o begins = (ap (λ (a : Opening). a.settings) begins.1, ap (λ (a : Opening). a.scripts) begins.1, ap (λ (a : Opening). a.life) begins.1)
begins_with Resume kept name p image o begins = (begins.opened.settings_are, begins.opened.scripts_are, begins.opened.from.life)

-- so does a life that was led
ends_led : (left rest : Option (List ℕ)) (kept : Option Named) (memory : List BankState) (led : Led) → IsLed left rest kept memory led → EndsWhereEnough (scripts_in led.life led.program) (schedule_in led.program) led.report.outcome
ends_led left rest kept memory led is =
    let begins = begins_with led.life kept led.name led.program led.image led.opening is.begins in
    by_scripts led.opening led.life led.program (schedule_in led.program) led.report.outcome begins.0 begins.1 begins.2 is.ends

-- THE STATUS.

-- that of a life with this outcome, where the turns of its script are enough
of_outcome : (life : Life) (p : Program) (outcome : Outcome) (status : Status) → HasText p → EndsWhereEnough (scripts_in life p) (schedule_in p) outcome → (status ≡ statuses.Cut → outcome ≡ ends.Cut)
    → (status ≡ statuses.Stalled → outcome ≡ ends.Stalled) → IsInTime life p status
of_outcome life p outcome status text in_time cut stalled = record {
  not_cut = λ many is. in_time.not_cut (offers life p (enough_rounds (sizes_of p.settings) (commands_in p.threads)) text many) (cut is);
  takeless = λ none many.
      let ended = in_time.takeless none (offers life p (takeless_rounds (sizes_of p.settings) (commands_in p.threads)) text many) in
      ((λ is. no_cut outcome ended (cut is)), (λ is. no_stall outcome ended (stalled is)));
}
  where
    no_cut : (outcome : Outcome) → (outcome ≡ ends.Finished) ⊎ (outcome ≡ ends.Starved) → outcome ≢ ends.Cut
    no_cut outcome (inl is) e = absurd (cc (is, e))
    no_cut outcome (inr is) e = absurd (cc (is, e))

    no_stall : (outcome : Outcome) → (outcome ≡ ends.Finished) ⊎ (outcome ≡ ends.Starved) → outcome ≢ ends.Stalled
    no_stall outcome (inl is) e = absurd (cc (is, e))
    no_stall outcome (inr is) e = absurd (cc (is, e))

-- one that is neither cut nor stalled says nothing
says_nothing : (life : Life) (p : Program) (status : Status) → status ≢ statuses.Cut → status ≢ statuses.Stalled → IsInTime life p status
says_nothing life p status no_cut no_stall = record { not_cut = λ many. no_cut; takeless = λ none many. (no_cut, no_stall) }

-- a life that was told, of the script that the source had
told_in_time : (life : Life) (words : List (List ℕ)) (name : List ℕ) (old new : Ports) (memory : List BankState) (bytes : List ℕ) (p : Program) (outcome : Outcome) (status : Status) → AskFor life words name
    → old.left ≡ Some bytes → IsBuiltText bytes p → IsToldAs outcome words old new memory → (status ≡ statuses.Cut → outcome ≡ ends.Cut) → (status ≡ statuses.Stalled → outcome ≡ ends.Stalled) → IsInTime life p status
told_in_time life words name old new memory bytes p outcome status ask told built tells cut stalled =
    let led : Led = tells.0 in
    let is : IsLed old.left new.left old.kept memory led = tells.2 in
    let kind : led.life ≡ life = (one_life led.life life words led.name name tells.1 ask).0 in
    let same : led.program ≡ p =
    one_text led.program p is.source.built.text.within built.text.within (given old.left new.left bytes (text_of led.program) is.source.read told ∙ built.text.text) in
    subst (λ (l : Life). IsInTime l p status) kind (subst (λ (q : Program). IsInTime led.life q status) same
    (of_outcome led.life led.program led.report.outcome status is.source.built.text.within (ends_led old.left new.left old.kept memory led is) (λ e. tells.5 ∙ cut e) (λ e. tells.5 ∙ stalled e)))

-- what each status says of the turns
pub in_time : (life : Life) (words : List (List ℕ)) (name : List ℕ) (old new : Ports) (memory : List BankState) (bytes : List ℕ) (p : Program) (status : Status) → AskFor life words name → old.left ≡ Some bytes
    → IsBuiltText bytes p → Told words old new memory status → IsInTime life p status
in_time life words name old new memory bytes p statuses.Stalled ask told built tells =
    told_in_time life words name old new memory bytes p ends.Stalled statuses.Stalled ask told built tells (λ e. absurd (cc e)) (λ e. refl)
in_time life words name old new memory bytes p statuses.Cut ask told built tells =
    told_in_time life words name old new memory bytes p ends.Cut statuses.Cut ask told built tells (λ e. refl) (λ e. absurd (cc e))
in_time life words name old new memory bytes p statuses.Finished ask told built tells = says_nothing life p statuses.Finished (λ e. absurd (cc e)) (λ e. absurd (cc e))
in_time life words name old new memory bytes p statuses.Usage ask told built tells = absurd tells
in_time life words name old new memory bytes p (statuses.Script f) ask told built tells = says_nothing life p (statuses.Script f) (λ e. absurd (cc e)) (λ e. absurd (cc e))
in_time life words name old new memory bytes p (statuses.Image f) ask told built tells = says_nothing life p (statuses.Image f) (λ e. absurd (cc e)) (λ e. absurd (cc e))
in_time life words name old new memory bytes p (statuses.Misfit m) ask told built tells = says_nothing life p (statuses.Misfit m) (λ e. absurd (cc e)) (λ e. absurd (cc e))
in_time life words name old new memory bytes p statuses.ReadFault ask told built tells = says_nothing life p statuses.ReadFault (λ e. absurd (cc e)) (λ e. absurd (cc e))
in_time life words name old new memory bytes p statuses.WriteFault ask told built tells = says_nothing life p statuses.WriteFault (λ e. absurd (cc e)) (λ e. absurd (cc e))
in_time life words name old new memory bytes p statuses.StoreFault ask told built tells = says_nothing life p statuses.StoreFault (λ e. absurd (cc e)) (λ e. absurd (cc e))
in_time life words name old new memory bytes p statuses.NoImage ask told built tells = says_nothing life p statuses.NoImage (λ e. absurd (cc e)) (λ e. absurd (cc e))
in_time life words name old new memory bytes p statuses.OutOfMemory ask told built tells = says_nothing life p statuses.OutOfMemory (λ e. absurd (cc e)) (λ e. absurd (cc e))
in_time life words name old new memory bytes p statuses.TooLong ask told built tells = says_nothing life p statuses.TooLong (λ e. absurd (cc e)) (λ e. absurd (cc e))
