use Rattle.std.proofs.Common.{◌≡◌, ◌≢◌, ◌<◌, ◌≤◌, ◌^◌, ◌++◌, ◌∷◌, ℕ, List, [], length, map, rules, sym, ap, ◌∙◌, subst}
use Rattle.std.specs.Global.{Vec}
use Rattle.std.specs.List.{All}
use Rattle.std.proofs.lemmas.List.Elements.{All-map}
use Rattle.seq_object.specs.declared.command.Command.{Command}
use Rattle.line_memory.specs.Line.{BankState}
use Rattle.life_model.specs.declared.life.Mark.{Mark}
use Rattle.life_model.specs.Told.{ReportState}
use Rattle.epoch_word.specs.declared.stage.EpochStage.TheVariants.{InMemory}
use Rattle.plain_yard.specs.Opening.{commands_in}
use Rattle.recovery.specs.Recovering.{epoch_by_load}
use Rattle.script_text.specs.declared.script.Script.{Script}
use Rattle.script_text.specs.Program.{program_of, turns_of}
use Rattle.script_text.specs.ReportText.{report_of}
use Rattle.script_text.specs.Schedules.{schedule_of}
use Rattle.script_text.specs.Text.{HasText}
use Rattle.script_run.specs.declared.resuming.Prepared.{Prepared}
use Rattle.script_run.specs.Jobs.{MayResume, recovery_mark}
use Rattle.script_run.specs.Resumes.{IsPrepared}
use Rattle.script_run.proofs.Sections.{are_short, commands_few}
use Rattle.script_run.proofs.Resumed.{IsBegun, IsToldResume, epoch_fits, as_many, cut_resume, some_opened, ran_resume}
use Rattle.script_run.proofs.resuming.resumed.Goals as goal

-- what is prepared for the sections as a slice is prepared for the script
module _ (s : Script) (text : HasText (program_of s)) (memory : List BankState) (ready : MayResume s.settings (program_of s).threads memory) (sections : List (Vec Command)) (are : sections ≡ s.threads.items)
    (p : Prepared) (slice : IsPrepared s.settings (map (λ (x : Vec Command). x.items) sections) memory p) where
  prepared : IsPrepared s.settings (program_of s).threads memory p
  prepared = subst (λ (xs : List (Vec Command)). IsPrepared s.settings (map (λ (x : Vec Command). x.items) xs) memory p) are slice

  begun : (epoch : ℕ) → epoch ≡ epoch_by_load p.recovery → IsBegun s.settings (program_of s).threads memory p.recovery epoch
  begun epoch is = record {
    ready = ready;
    valid = text.settings;
    number = text.threads;
    short = All-map (λ (script : List Command). length script ≤ 4096) (λ (x : Vec Command). x.items) s.threads.items (are_short s.threads.items text.sections);
    over = prepared.recovery;
    stage = prepared.stage;
    few = prepared.few;
    epoch_is = is;
  }

-- a report and a memory that are the same are told of alike
told_alike : (s : Script) (schedule : List ℕ) (memory : List BankState) (r t : ReportState) (left rest : List BankState) → t ≡ r → rest ≡ left → IsToldResume s.settings (program_of s).threads schedule memory r left
    → IsToldResume s.settings (program_of s).threads schedule memory t rest
told_alike s schedule memory r t left rest report same told = subst (λ (z : ReportState × List BankState). IsToldResume s.settings (program_of s).threads schedule memory z.0 z.1) (λ j. (sym report j, sym same j)) told

pub make_ready-requires-clause-few : goal.make_ready-requires-clause-few
make_ready-requires-clause-few c = subst (λ (xs : List (Vec Command)). commands_in (map (λ s. s.items) xs) < 2 ^ 32) (sym c.as_slice.ensures.value) (commands_few (program_of c.args.script.now) c.requires.script)

pub make_ready-requires-clause-short : goal.make_ready-requires-clause-short
make_ready-requires-clause-short c =
    subst (λ (xs : List (Vec Command)). All (λ (s : Vec Command). length s.items ≤ 4096) xs) (sym c.as_slice.ensures.value)
    (are_short c.args.script.now.threads.items c.requires.script.sections)

-- CUT WITHIN THE RECOVERY.
pub returns-then-not-is_finished : goal.returns-then-not-is_finished
returns-then-not-is_finished c =
    let s = c.args.script.now in
    let p = c.in_ok-prepared.prepared in
    let ready = prepared s c.requires.script c.args.memory c.requires.ready c.as_slice.result.now c.as_slice.ensures.value p c.in_ok-prepared.ensures in
    let going : c.recovered-recovery.result.recovery.stage ≢ InMemory = search rules in
    let cut = cut_resume s.settings (program_of s).threads c.args.memory p.recovery c.epoch.result
    (begun s c.requires.script c.args.memory c.requires.ready c.as_slice.result.now c.as_slice.ensures.value p c.in_ok-prepared.ensures c.epoch.result c.epoch.ensures) (turns_of s.mode)
    c.recovered-recovery.result.recovery c.recovered-recovery.result.order c.recovered-recovery.ensures going p.marks.items ready.no_mark c.into_memory.result c.into_memory.ensures in
    let told = told_alike s (schedule_of s.settings.threads (turns_of s.mode)) c.args.memory _ (report_of c.bare.result.report) c.into_memory.result c.bare.result.memory c.bare.ensures.report c.bare.ensures.memory cut in
    record { told = told.told; run = told.run; ends = told.ends; closes = told.closes }

-- BEHIND THE RECOVERY.
pub with_recovery_mark-marks-requires-clause-fits : goal.with_recovery_mark-marks-requires-clause-fits
with_recovery_mark-marks-requires-clause-fits c =
    let s = c.args.script.now in
    let p = c.in_ok-prepared.prepared in
    epoch_fits s.settings (program_of s).threads c.args.memory p.recovery c.epoch.result
    (begun s c.requires.script c.args.memory c.requires.ready c.as_slice.result.now c.as_slice.ensures.value p c.in_ok-prepared.ensures c.epoch.result c.epoch.ensures)

pub into_world-world-requires-clause-lengths : goal.into_world-world-requires-clause-lengths
into_world-world-requires-clause-lengths c =
    let s = c.args.script.now in
    let p = c.in_ok-prepared.prepared in
    let ready = prepared s c.requires.script c.args.memory c.requires.ready c.as_slice.result.now c.as_slice.ensures.value p c.in_ok-prepared.ensures in
    as_many s.settings (program_of s).threads c.args.memory p.recovery c.epoch.result
    (begun s c.requires.script c.args.memory c.requires.ready c.as_slice.result.now c.as_slice.ensures.value p c.in_ok-prepared.ensures c.epoch.result c.epoch.ensures) (turns_of s.mode)
    c.recovered-recovery.result.recovery c.recovered-recovery.result.order c.recovered-recovery.ensures c.as_slice-2.result.now (c.as_slice-2.ensures.value ∙ ready.lengths)

pub run_in-requires-clause-opened : goal.run_in-requires-clause-opened
run_in-requires-clause-opened c =
    let s = c.args.script.now in
    let p = c.in_ok-prepared.prepared in
    let ready = prepared s c.requires.script c.args.memory c.requires.ready c.as_slice.result.now c.as_slice.ensures.value p c.in_ok-prepared.ensures in
    let at : c.recovered-recovery.result.recovery.stage ≡ InMemory = search rules in
    some_opened s.settings (program_of s).threads c.args.memory p.recovery c.epoch.result
    (begun s c.requires.script c.args.memory c.requires.ready c.as_slice.result.now c.as_slice.ensures.value p c.in_ok-prepared.ensures c.epoch.result c.epoch.ensures) (turns_of s.mode)
    c.recovered-recovery.result.recovery c.recovered-recovery.result.order c.recovered-recovery.ensures at c.as_slice-2.result.now (c.as_slice-2.ensures.value ∙ ready.lengths) c.into_world-world.result
    c.into_world-world.ensures.is c.into_world-world.ensures.opens p.workers.items ready.workers c.with_recovery_mark-marks.result.items
    (c.with_recovery_mark-marks.ensures ∙ ap (λ (marks : List Mark). marks ++ recovery_mark c.epoch.result ∷ []) ready.no_mark)

pub returns : goal.returns
returns c =
    let s = c.args.script.now in
    let p = c.in_ok-prepared.prepared in
    let ready = prepared s c.requires.script c.args.memory c.requires.ready c.as_slice.result.now c.as_slice.ensures.value p c.in_ok-prepared.ensures in
    let at : c.recovered-recovery.result.recovery.stage ≡ InMemory = search rules in
    let told = ran_resume s.settings (program_of s).threads c.args.memory p.recovery c.epoch.result
    (begun s c.requires.script c.args.memory c.requires.ready c.as_slice.result.now c.as_slice.ensures.value p c.in_ok-prepared.ensures c.epoch.result c.epoch.ensures) (turns_of s.mode)
    c.recovered-recovery.result.recovery c.recovered-recovery.result.order c.recovered-recovery.ensures at c.as_slice-2.result.now (c.as_slice-2.ensures.value ∙ ready.lengths) c.into_world-world.result
    c.into_world-world.ensures.is c.into_world-world.ensures.opens p.workers.items ready.workers c.with_recovery_mark-marks.result.items
    (c.with_recovery_mark-marks.ensures ∙ ap (λ (marks : List Mark). marks ++ recovery_mark c.epoch.result ∷ []) ready.no_mark)
    (report_of c.run_in.result.report) c.run_in.result.memory c.run_in.ensures in
    record { told = told.told; run = told.run; ends = told.ends; closes = told.closes }
