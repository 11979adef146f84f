-- A report that is its yard's tells of the life.
use Rattle.std.proofs.Common.{◌≡◌, ℕ, zero, suc, ◌+◌, ◌-◌, ◌<◌, ◌≤◌, List, [], ◌∷◌, ◌++◌, length, get_or, refl, sym, ap, ◌∙◌, subst, arith, All}
use Rattle.std.proofs.lemmas.List.Elements.{All-contains_itself}
use Rattle.seq_object.specs.declared.history.Entry.{Entry}
use Rattle.seq_object.specs.History.{total}
use Rattle.seq_object.specs.Sizes.{room_count}
use Rattle.seq_object.proofs.Totals.{total_none, total-same}
use Rattle.line_memory.specs.Line.{BankState, all_write_backs}
use Rattle.room_model.specs.Image.{ImageRooms}
use Rattle.life_model.specs.declared.life.Life.{Life}
use Rattle.life_model.specs.declared.life.Life.TheVariants.{Start, Resume}
use Rattle.life_model.specs.declared.life.Outcome.{Outcome}
use Rattle.life_model.specs.Life.{Opening, lengths, marks_from, reported, IsLegalLife}
use Rattle.life_model.specs.Crash.{IsCrashSafe}
use Rattle.life_model.specs.Ends.{EndsAs}
use Rattle.life_model.specs.Present.{IsPresent, IsPresentOf}
use Rattle.life_model.specs.Lives.{ResumesFrom}
use Rattle.life_model.specs.Work.{WritesFewBack, recovery_write_backs}
use Rattle.life_model.specs.Told.{ReportState, TellsOf}
use Rattle.yard_model.specs.declared.view.Beginning.{Beginning}
use Rattle.yard_model.specs.Beginnings.{opening_of, sizes_at, recovery_marks, lengths_of, marks_of, write_backs_at}
use Rattle.yard_model.specs.World.{YardState}
use Rattle.yard_model.specs.Lives.{IsMemoryOf, NamesDead}
use Rattle.yard_model.specs.WriteBacks.{rise_of, counts_in}
use Rattle.yard_laws.proofs.Beginning.{as_life}
use Rattle.yard_laws.proofs.Legal.{life_is_legal}
use Rattle.yard_laws.proofs.Safe.{life_is_safe}
use Rattle.yard_laws.proofs.Present.{life_is_present}
use Rattle.yard_laws.proofs.Outcomes.{life_ends}
use Rattle.yard_laws.proofs.WriteBacks.{life_flushes_little, memory_counts}
use Rattle.plain_yard.specs.Shown.{ShownYard, IsLawfulYard}
use Rattle.replay_model.specs.Endings.{IsReportOfYard, IsFreshStart, StartIsToldLaw, ResumeIsToldLaw}

-- marks that were given epochs cover what they covered before
pub lengths_from : (epoch : ℕ) (ns : List ℕ) → lengths (marks_from epoch ns) ≡ ns
lengths_from epoch [] = refl
lengths_from epoch (n ∷ ns) = ap (λ (ms : List ℕ). n ∷ ms) (lengths_from (suc epoch) ns)

-- a start is no resume
no_resume : (life : Life) → life ≡ Start → life ≡ Resume → ⊥
no_resume life start resume = let q : Start ≡ Resume = sym start ∙ resume in absurd (cc q)

-- of the marks of a yard's life as much is asked of either kind: a resume that has a yard has the mark of its recovery
present_at : (life : Life) (o : Opening) (h : List Entry) (ls held : List ℕ) (outcome : Outcome) (memory : List BankState)
    → IsPresent (as_life life o) h (recovery_marks life ++ ls) held outcome memory → IsPresentOf (as_life life o) h (recovery_marks life ++ ls) held outcome memory
present_at Start o h ls held outcome memory p = p
present_at Resume o h ls held outcome memory p = p

-- rooms that were given back in mid-work are rooms
held_below : (b : Beginning) (w : YardState) (held : List ℕ) → NamesDead b w held → All (λ room. room < room_count (sizes_at b)) held
held_below b w held names = λ k d lt. (names.are_dead (get_or held k d) (All-contains_itself held k d lt)).0

-- a sum is at most another and the rise above it
total_rise : (f g : ℕ → ℕ) (n : ℕ) → total f n ≤ total g n + total (λ k. f k - g k) n
total_rise f g zero = omega arith
total_rise f g (suc n) = let a = total_rise f g n in omega (arith, a)

-- a memory that had counted at most so many has counted at most these, and what the rooms' counts rose by
counted_few : (b : Beginning) (w : YardState) (memory : List BankState) (before : ℕ) → total (write_backs_at b) (room_count (sizes_at b)) ≤ before → IsMemoryOf b w memory
    → all_write_backs memory ≤ before + rise_of b (counts_in memory)
counted_few b w memory before few m =
    let counted = memory_counts memory in
    let number : total (counts_in memory) (length memory) ≡ total (counts_in memory) (room_count (sizes_at b)) = ap (total (counts_in memory)) m.number in
    let risen = total_rise (counts_in memory) (write_backs_at b) (room_count (sizes_at b)) in
    omega (arith, counted, number, risen, few)

-- where no room had counted one, all had counted none
none_counted : (b : Beginning) → ((room : ℕ) → write_backs_at b room ≡ 0) → total (write_backs_at b) (room_count (sizes_at b)) ≡ 0
none_counted b none = total-same (λ k. 0) (write_backs_at b) (room_count (sizes_at b)) (λ k lt. none k) ∙ total_none (room_count (sizes_at b))

module _ (y : ShownYard) (image : ImageRooms) (r : ReportState) (memory : List BankState) (lawful : IsLawfulYard y)
    (loaded : y.beginning.life ≡ Resume → ResumesFrom (sizes_at y.beginning) image (opening_of y.beginning))
    (counts : total (write_backs_at y.beginning) (room_count (sizes_at y.beginning)) ≤ recovery_write_backs (opening_of y.beginning) image)
    (report : IsReportOfYard y r memory) (flushed : r.flushed ≡ all_write_backs memory) where
  abbrev o : Opening
  o = opening_of y.beginning

  abbrev marks : List ℕ
  marks = marks_of y.beginning y.told.checkpoints

  same_marks : marks ≡ lengths r.marks
  same_marks = sym (ap lengths report.marks ∙ lengths_from (o.epoch + 1) marks)

  -- what is so of the yard's entries and marks is so of the report's
  reports : (P : List Entry → List ℕ → Type 0) → P y.told.history marks → P r.entries (lengths r.marks)
  reports P p = let entries = sym report.entries in subst (λ (s : List Entry × List ℕ). P s.0 s.1) (λ j. (entries j, same_marks j)) p

  legal : IsLegalLife o r.entries (lengths r.marks)
  legal = reports (IsLegalLife o) (life_is_legal y.beginning y.told.world y.told.history y.told.checkpoints lawful)

  safe : IsCrashSafe o r.entries (lengths r.marks) memory
  safe = reports (λ h ms. IsCrashSafe o h ms memory) (life_is_safe y.beginning y.told.world y.told.history y.told.checkpoints memory lawful report.memory_of)

  ends : EndsAs r.outcome o r.entries (lengths r.marks)
  ends = reports (EndsAs r.outcome o) (life_ends r.outcome y.beginning y.told.world y.told.history y.told.checkpoints lawful report.ends)

  present : IsPresentOf o r.entries (lengths r.marks) r.held r.outcome memory
  present = reports (λ h ms. IsPresentOf o h ms r.held r.outcome memory)
      (present_at y.beginning.life o y.told.history (lengths_of y.told.checkpoints) r.held r.outcome memory
      (life_is_present y.beginning y.told.world y.told.history y.told.checkpoints memory r.held r.outcome lawful report.memory_of report.held report.ends))

  few : WritesFewBack o image r.entries (lengths r.marks) r.flushed
  few = reports (λ h ms. WritesFewBack o image h ms r.flushed)
      (let most = (life_flushes_little y.beginning y.told.world y.told.history y.told.checkpoints memory image lawful report.memory_of).1 in
      let counted = counted_few y.beginning y.told.world memory (recovery_write_backs o image) counts report.memory_of in
      omega (arith, most, counted, flushed))

  told : TellsOf o image 0 r memory
  told = record {
    resumed = report.resumed;
    began = report.began;
    loaded = loaded;
    lived = λ choice. record { same_sizes = refl; same_scripts = refl; legal = legal; safe = safe };
    ends = ends;
    present = present;
    held = held_below y.beginning y.told.world r.held report.held;
    epochs = report.marks ∙ ap (reported o) same_marks;
    flushed = omega (arith, flushed);
    few = few;
  }

pub start_is_told : StartIsToldLaw
start_is_told y r memory lawful fresh report flushed =
    let none = none_counted y.beginning fresh.counts in
    told y [] r memory lawful (λ resume. absurd (no_resume y.beginning.life fresh.start resume)) (omega (arith, none)) report flushed

pub resume_is_told : ResumeIsToldLaw
resume_is_told y image r memory lawful resume report flushed = told y image r memory lawful (λ life. resume.from) resume.counts report flushed
