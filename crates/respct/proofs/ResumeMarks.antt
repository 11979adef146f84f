-- The marks of a replay of a resume are few: one for its recovery, and at most one for each turn and each giving up behind the run.
use Rattle.std.proofs.Common.{◌≡◌, ℕ, ◌+◌, ◌≤◌, ◌⊎◌, inl, inr, List, length, ap, ◌∙◌, arith}
use Rattle.std.specs.Prelude.{drop}
use Rattle.std.proofs.lemmas.List.{length-drop}
use Rattle.seq_object.specs.declared.settings.Settings.{Settings}
use Rattle.seq_object.specs.History.{Scripts}
use Rattle.line_memory.specs.Line.{BankState}
use Rattle.life_model.specs.Told.{ReportState}
use Rattle.room_yard.specs.World.{WorldState}
use Rattle.replay_model.specs.Replays.{ReplayState}
use Rattle.recovery.specs.Recovering.{RecoveryState}
use Rattle.script_run.specs.Jobs.{IsCutInRecovery, IsRecoveredAndRun, IsStarvedBehindRecovery, IsRunBehindRecovery, IsReplayOfResume}
use Rattle.respct.proofs.Marks.{replay_few, marks_few}

-- of a run behind the recovery
run_few : (settings : Settings) (scripts : Scripts) (turns : List ℕ) (memory : List BankState) (world : WorldState) (r : ReportState) (left : List BankState) → IsRunBehindRecovery settings scripts turns memory world r left
    → length r.marks ≤ length turns + settings.threads + 1
run_few settings scripts turns memory world r left is =
    let ran = replay_few r.outcome turns is.first is.last is.replays in
    let none : length is.first.yard.told.checkpoints ≡ 0 = ap (λ (s : ReplayState). length s.yard.told.checkpoints) is.is in
    let threads : length is.first.workers ≡ settings.threads = ap (λ (s : ReplayState). length s.workers) is.is ∙ is.number in
    let marks = marks_few is.last r left is.report in
    omega (arith, ran, none, threads, marks)

-- behind the recovery
behind_few : (settings : Settings) (scripts : Scripts) (n : ℕ) (schedule : List ℕ) (memory : List BankState) (world : WorldState) (r : ReportState) (left : List BankState)
    → IsStarvedBehindRecovery settings memory world r left ⊎ IsRunBehindRecovery settings scripts (drop n schedule) memory world r left → length r.marks ≤ length schedule + settings.threads + 1
behind_few settings scripts n schedule memory world r left (inl starved) = let one : length r.marks ≡ 1 = ap (λ (s : ReportState). length s.marks) starved.report in omega (arith, one)
behind_few settings scripts n schedule memory world r left (inr run) =
    let few = run_few settings scripts (drop n schedule) memory world r left run in
    let rest = length-drop n schedule in
    omega (arith, few, rest)

-- cut in the recovery, or behind it
goes_few : (settings : Settings) (scripts : Scripts) (schedule : List ℕ) (memory : List BankState) (first : RecoveryState) (r : ReportState) (left : List BankState)
    → IsCutInRecovery settings schedule memory first r left ⊎ IsRecoveredAndRun settings scripts schedule memory first r left → length r.marks ≤ length schedule + settings.threads + 1
goes_few settings scripts schedule memory first r left (inl cut) = let none : length r.marks ≡ 0 = ap (λ (s : ReportState). length s.marks) cut.report in omega (arith, none)
goes_few settings scripts schedule memory first r left (inr ran) = behind_few settings scripts _ schedule memory ran.world r left ran.goes

-- of the whole replay
pub resume_marks_few : (settings : Settings) (scripts : Scripts) (schedule : List ℕ) (memory : List BankState) (r : ReportState) (left : List BankState) → IsReplayOfResume settings scripts schedule memory r left
    → length r.marks ≤ length schedule + settings.threads + 1
resume_marks_few settings scripts schedule memory r left is = goes_few settings scripts schedule memory is.first r left is.goes
