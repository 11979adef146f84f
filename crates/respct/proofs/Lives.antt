-- A life of a script: its report is within the limits of the grammar.
use Rattle.std.proofs.Common.{◌≡◌, ℕ, ◌+◌, ◌<◌, ◌≤◌, ◌^◌, List, length, refl, arith}
use Rattle.line_memory.specs.Line.{BankState}
use Rattle.seq_object.specs.History.{State}
use Rattle.seq_object.specs.Sizes.{sizes_of}
use Rattle.room_model.specs.MapRoom.{live_layout}
use Rattle.room_model.specs.Image.{ImageRooms as Rooms, Recovers, image_of, nothing_kept, epoch_at}
use Rattle.life_model.specs.declared.life.Life.{Life}
use Rattle.life_model.specs.declared.life.Life.TheVariants.{Start, Resume}
use Rattle.life_model.specs.Life.{Opening, start_of, lengths}
use Rattle.life_model.specs.Lives.{ResumesFrom}
use Rattle.life_model.specs.Told.{ReportState, TellsOf}
use Rattle.power_cut.specs.Image.{HaveWords}
use Rattle.script_text.specs.Program.{Program, Turns, round_robin, seeded, listed, live}
use Rattle.script_text.specs.Text.{AreTurns, HasText}
use Rattle.script_text.specs.Schedules.{turn_count}
use Rattle.script_text.specs.ReportLimits.{HasReportText, last_epoch}
use Rattle.script_text.proofs.ScheduleLaws.{turn_count_law}
use Rattle.script_run.specs.Starts.{IsReplayOf}
use Rattle.script_run.specs.Jobs.{IsReady, OpensOver, IsReplayOfResume, IsReplayedLife}
use Rattle.script_run.specs.Enough.{EndsWhereEnough, ClosesFew}
use Rattle.respct.specs.Run.{schedule_in}
use Rattle.respct.specs.Steps.{IsReportOver}
use Rattle.respct.proofs.Replies.{no_words}
use Rattle.respct.proofs.ImageWords.{image_words}
use Rattle.respct.proofs.Reports.{has_text}
use Rattle.respct.proofs.Marks.{start_marks_few}
use Rattle.respct.proofs.ResumeMarks.{resume_marks_few}

-- a script within its limits has few turns
few_by : (threads : ℕ) (turns : Turns) → AreTurns threads turns → turn_count turns ≤ 10000000
few_by threads (round_robin n) are = are
few_by threads (seeded seed n) are = are.1
few_by threads (listed named) are = are.1
few_by threads (live n) are = omega arith

few_turns : (p : Program) → HasText p → length (schedule_in p) ≤ 10000000
few_turns p text = let few = few_by p.settings.threads p.turns text.turns in let same = turn_count_law p.settings.threads p.turns in omega (arith, few, same)

-- so the epochs of a start's report have 32 bits
start_epochs : (p : Program) (r : ReportState) (memory : List BankState) → HasText p → IsReplayOf p.settings p.threads (schedule_in p) r memory → 1 + length r.marks ≤ last_epoch
start_epochs p r memory text run =
    let turns = few_turns p text in
    let marks = start_marks_few p.settings p.threads (schedule_in p) r memory run in
    omega (arith, turns, marks, text.settings.sizes.few_threads)

-- and those of a resume's report, whose image has no late epoch
resume_epochs : (p : Program) (epoch : ℕ) (before : List BankState) (r : ReportState) (memory : List BankState) → HasText p → epoch < 4278190080 → IsReplayOfResume p.settings p.threads (schedule_in p) before r memory
    → epoch + length r.marks ≤ last_epoch
resume_epochs p epoch before r memory text early run =
    let turns = few_turns p text in
    let marks = resume_marks_few p.settings p.threads (schedule_in p) before r memory run in
    omega (arith, early, turns, marks, text.settings.sizes.few_threads)

-- a life of a program that resumes from an image in this state
abbrev pub resuming : Program → Rooms → State → Opening
resuming p rooms state = record { settings = p.settings; scripts = p.threads; life = Resume; epoch = epoch_at (sizes_of p.settings) rooms; state = state }

-- it does, where the image recovers to that state
pub resumes_so : (p : Program) (rooms : Rooms) (state : State) → Recovers live_layout (sizes_of p.settings) rooms state → ResumesFrom (sizes_of p.settings) rooms (resuming p rooms state)
resumes_so p rooms state recovers = record { life = refl; epoch = refl; state = recovers }

-- a report of a life over memory that is ready for it has a text
within : (life : Life) (p : Program) (before : List BankState) (r : ReportState) (memory : List BankState) → HasText p → r.flushed < 2 ^ 64 → IsReady life p.settings p.threads before
    → (life ≡ Resume → HaveWords (image_of before nothing_kept)) → ((o : Opening) → OpensOver life p.settings p.threads before o → TellsOf o (image_of before nothing_kept) 0 r memory)
    → IsReplayedLife life p.settings p.threads (schedule_in p) before r memory → HasReportText r
within Start p before r memory text flushed ready words told run =
    has_text (start_of p.settings p.threads) (image_of before nothing_kept) 0 r memory (told (start_of p.settings p.threads) refl) text.settings.sizes text.sections no_words flushed (omega arith) (start_epochs p r memory text run)
within Resume p before r memory text flushed ready words told run =
    let image : Rooms = image_of before nothing_kept in
    let o : Opening = resuming p image ready.lawful.0 in
    let tells : TellsOf o image 0 r memory = told o (record { settings_are = refl; scripts_are = refl; from = resumes_so p image ready.lawful.0 ready.lawful.1 }) in
    has_text o image 0 r memory tells text.settings.sizes text.sections (image_words live_layout (sizes_of p.settings) image ready.lawful.0 (words refl) ready.lawful.1) flushed ready.lawful.1.epoch
    (resume_epochs p (epoch_at (sizes_of p.settings) image) before r memory text ready.early run)

-- it is a report of a life of the script over that memory
pub is_report : (life : Life) (p : Program) (before : List BankState) (r : ReportState) (memory : List BankState) → HasText p → r.flushed < 2 ^ 64 → IsReady life p.settings p.threads before
    → (life ≡ Resume → HaveWords (image_of before nothing_kept)) → ((o : Opening) → OpensOver life p.settings p.threads before o → TellsOf o (image_of before nothing_kept) 0 r memory)
    → IsReplayedLife life p.settings p.threads (schedule_in p) before r memory
    → ((o : Opening) → OpensOver life p.settings p.threads before o → EndsWhereEnough o (schedule_in p) r.outcome)
    → ((o : Opening) → OpensOver life p.settings p.threads before o → ClosesFew o r.entries (lengths r.marks)) → IsReportOver life p before r memory
is_report life p before r memory text flushed ready words told run ends closes =
    record { told = told; run = run; ends = ends; closes = closes; within = within life p before r memory text flushed ready words told run }
