-- A resume that was cut within its recovery is told rightly.
use Rattle.std.proofs.Common.{◌≡◌, ◌≢◌, ℕ, ◌+◌, ◌<◌, ◌≤◌, List, [], length, refl, sym, ap, ◌∙◌, subst, ⊎_elim, arith}
use Rattle.std.proofs.lemmas.List.{length-map}
use Rattle.std.proofs.lemmas.List.Elements.{All-nil}
use Rattle.seq_object.specs.declared.settings.Settings.{Settings}
use Rattle.seq_object.specs.Sizes.{sizes_of, super_room, room_count}
use Rattle.seq_object.specs.History.{total}
use Rattle.line_memory.specs.Line.{BankState, bank_at, all_write_backs}
use Rattle.room_model.specs.EpochLine.{loaded_epoch}
use Rattle.room_model.specs.Image.{image_of, nothing_kept, epoch_at}
use Rattle.life_model.specs.declared.life.Life.{Life}
use Rattle.life_model.specs.declared.life.Life.TheVariants.{Start, Resume}
use Rattle.life_model.specs.declared.life.Outcome.TheVariants.{Cut}
use Rattle.life_model.specs.Life.{Opening, sizes, BeginsRightly, IsLegalLife}
use Rattle.life_model.specs.Crash.{IsCrashSafe}
use Rattle.life_model.specs.Ends.{EndsAs}
use Rattle.life_model.specs.Lives.{ResumesFrom}
use Rattle.life_model.specs.Present.{IsPresentOf}
use Rattle.life_model.specs.Told.{TellsOf, is_resume}
use Rattle.life_model.specs.Work.{torn_cells, recovery_write_backs, WritesFewBack}
use Rattle.epoch_word.specs.declared.stage.EpochStage.{EpochStage}
use Rattle.epoch_word.specs.declared.stage.EpochStage.TheVariants.{Before, Stored, AskedFor, InMemory}
use Rattle.epoch_word.specs.Stages.{IsAtStage}
use Rattle.rooms.specs.declared.room.Room.{Room}
use Rattle.rooms.specs.Rooms.{bank_of}
use Rattle.yard_laws.proofs.Beginning.{as_life}
use Rattle.yard_laws.proofs.WriteBacks.{memory_counts}
use Rattle.room_yard.specs.World.{memory_of}
use Rattle.recovery.specs.Banks.{most_at}
use Rattle.recovery.specs.Restored.{room_at}
use Rattle.recovery.specs.Recovering.{RecoveryState, IsRecovery, AllWriteLittleBack, marks_at, last_of, epoch_by_load}
use Rattle.recovery.specs.Told.{IsRecoveryFrom, RecoveryCountsLittleLaw, CutIsToldLaw, bare_report}
use Rattle.recovery.proofs.FewWriteBacks.{write_backs_total}
use Rattle.recovery.proofs.Safe.{last_room, recovery_safe}
use Rattle.recovery.proofs.Taken.{number_is}
use Rattle.recovery.proofs.TornCounts.{write_backs_count}

-- without a mark
no_mark : (stage : EpochStage) → stage ≢ InMemory → marks_at stage ≡ []
no_mark Before going = refl
no_mark Stored going = refl
no_mark AskedFor going = refl
no_mark InMemory going = absurd (going refl)

-- of a life that resumes: it begins rightly, no room is named, and its recovery may make so many write-backs
begins_resume : (life : Life) (o : Opening) → life ≡ Resume → BeginsRightly (as_life life o) [] []
begins_resume Start o is = absurd (cc)
begins_resume Resume o is = refl

present_resume : (life : Life) (o : Opening) (memory : List BankState) → life ≡ Resume → IsPresentOf (as_life life o) [] [] [] Cut memory
present_resume Start o memory is = absurd (cc)
present_resume Resume o memory is = refl

resume_write_backs : (life : Life) (o : Opening) (handed : List BankState) → life ≡ Resume
    → recovery_write_backs (as_life life o) (image_of handed nothing_kept) ≡ 1 + torn_cells (sizes o) (image_of handed nothing_kept)
resume_write_backs Start o handed is = absurd (cc)
resume_write_backs Resume o handed is = refl

unfinished : (life : Life) (o : Opening) → life ≡ Resume → EndsAs Cut (as_life life o) [] []
unfinished Start o is = absurd (cc)
unfinished Resume o is = λ finished. ⊎_elim (λ marked. marked.0 refl) (λ start. absurd (let q = start.0 in cc)) finished.1

module _ (o : Opening) (handed : List BankState) (r : RecoveryState) (of : IsRecoveryFrom o handed r) where
  -- the memory that was handed over had counted none
  handed_none : total (λ k. (bank_at handed k).write_backs) (room_count (sizes o)) ≡ 0
  handed_none =
      let counted = memory_counts handed in
      let none = of.none in
      let number : total (λ k. (bank_at handed k).write_backs) (length handed) ≡ total (λ k. (bank_at handed k).write_backs) (room_count (sizes o)) =
      ap (total (λ k. (bank_at handed k).write_backs)) (number_is o handed of.quiet of.from o.settings refl) in
      omega (arith, counted, none, number)

  pub few_counted : total (λ k. (bank_at (memory_of r.rooms) k).write_backs) (room_count (sizes o)) ≤ recovery_write_backs o (image_of handed nothing_kept)
  few_counted =
      let most = most_at o.settings (epoch_at (sizes o) (image_of handed nothing_kept)) handed in
      let counted : total (λ k. (bank_at (memory_of r.rooms) k).write_backs) (room_count (sizes o)) ≤ total most (room_count (sizes o)) =
      subst (λ (n : ℕ). total (λ k. (bank_at (memory_of r.rooms) k).write_backs) n ≤ total most n) of.recovery.number (write_backs_total most r of.few) in
      let bound = write_backs_count o.settings handed in
      let none = handed_none in
      let recovers = resume_write_backs o.life o handed of.recovery.life in
      omega (arith, counted, bound, none, recovers)

  module _ (scripts : length o.scripts ≡ o.settings.threads) (going : r.stage ≢ InMemory) where
    legal : IsLegalLife o [] []
    legal = record {
      replies = tt;
      order = record {
        threads = scripts;
        points = of.recovery.points;
        commands = λ thread. tt;
        rising = omega arith;
        begun = begins_resume o.life o of.recovery.life;
        stretches = tt;
        rest = λ thread. omega arith;
      };
    }

    safe : IsCrashSafe o [] [] (memory_of r.rooms)
    safe = subst (λ (marks : List ℕ). IsCrashSafe o [] marks (memory_of r.rooms)) (no_mark r.stage going) (recovery_safe o r of.recovery scripts)

    few : WritesFewBack o (image_of handed nothing_kept) [] [] (all_write_backs (memory_of r.rooms))
    few =
        let counted = memory_counts (memory_of r.rooms) in
        let number : total (λ k. (bank_at (memory_of r.rooms) k).write_backs) (length (memory_of r.rooms)) ≡ total (λ k. (bank_at (memory_of r.rooms) k).write_backs) (room_count (sizes o)) =
        ap (total (λ k. (bank_at (memory_of r.rooms) k).write_backs)) (length-map r.rooms bank_of ∙ of.recovery.number) in
        let bound = few_counted in
        omega (arith, counted, number, bound)

    cut_told : TellsOf o (image_of handed nothing_kept) 0 (bare_report o.epoch [] (all_write_backs (memory_of r.rooms)) Cut) (memory_of r.rooms)
    cut_told = record {
      resumed = ap is_resume (sym of.recovery.life);
      began = refl;
      loaded = λ life. of.from;
      lived = λ choice. record { same_sizes = refl; same_scripts = refl; legal = legal; safe = safe };
      ends = unfinished o.life o of.recovery.life;
      present = present_resume o.life o (memory_of r.rooms) of.recovery.life;
      held = All-nil (λ room. room < room_count (sizes o));
      epochs = refl;
      flushed = omega arith;
      few = few;
    }

pub counts_little : RecoveryCountsLittleLaw
counts_little = few_counted

pub cut_is_told : CutIsToldLaw
cut_is_told = cut_told

-- before the store of the next epoch it loads the epoch of the life's beginning
pub opening_epoch : (o : Opening) (r : RecoveryState) → IsRecovery o r → r.stage ≡ Before → epoch_by_load r ≡ o.epoch
opening_epoch o r is at =
    let last : last_of r.rooms ≡ room_at r.rooms (super_room (sizes o)) = let number = is.number in ap (room_at r.rooms) (omega (arith, number)) in
    ap (λ (x : Room). loaded_epoch (bank_of x)) last ∙ (subst (λ (s : EpochStage). IsAtStage s o.epoch (bank_of (room_at r.rooms (super_room (sizes o))))) at ((last_room o r is).epoch refl)).1
