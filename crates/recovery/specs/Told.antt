-- What is told of a resume that was cut within its recovery.
use Rattle.std.specs.Prelude.{◌≡◌, ◌≢◌, ℕ, ◌≤◌, List, [], length, true}
use Rattle.seq_object.specs.Sizes.{room_count}
use Rattle.seq_object.specs.History.{total}
use Rattle.line_memory.specs.Line.{BankState, IsQuiet, bank_at, all_write_backs}
use Rattle.room_model.specs.Image.{image_of, nothing_kept, epoch_at}
use Rattle.life_model.specs.declared.life.Mark.{Mark}
use Rattle.life_model.specs.declared.life.Outcome.{Outcome}
use Rattle.life_model.specs.declared.life.Outcome.TheVariants.{Cut}
use Rattle.life_model.specs.Life.{Opening, sizes}
use Rattle.life_model.specs.Lives.{ResumesFrom}
use Rattle.life_model.specs.Told.{ReportState, TellsOf}
use Rattle.life_model.specs.Work.{recovery_write_backs}
use Rattle.epoch_word.specs.declared.stage.EpochStage.TheVariants.{InMemory}
use Rattle.room_yard.specs.World.{memory_of}
use Rattle.recovery.specs.Banks.{most_at}
use Rattle.recovery.specs.Recovering.{RecoveryState, IsRecovery, AllWriteLittleBack}

-- the report of a resume in which no entry was drawn, and no room is held
abbrev pub bare_report : ℕ → List Mark → ℕ → Outcome → ReportState
bare_report began marks flushed outcome = record { resumed = true; began = began; entries = []; marks = marks; held = []; flushed = flushed; outcome = outcome }

-- a recovery that a life made, over a memory that had counted no write-back when it was handed over
pub record IsRecoveryFrom (o : Opening) (handed : List BankState) (r : RecoveryState) : Type 0 where
  pub quiet : IsQuiet handed
  pub none : all_write_backs handed ≡ 0
  pub from : ResumesFrom (sizes o) (image_of handed nothing_kept) o
  pub recovery : IsRecovery o r
  pub few : AllWriteLittleBack (most_at o.settings (epoch_at (sizes o) (image_of handed nothing_kept)) handed) r

-- the write-backs that its rooms count are few
abbrev pub RecoveryCountsLittleLaw : Type 0
RecoveryCountsLittleLaw = (o : Opening) (handed : List BankState) (r : RecoveryState) → IsRecoveryFrom o handed r
    → total (λ k. (bank_at (memory_of r.rooms) k).write_backs) (room_count (sizes o)) ≤ recovery_write_backs o (image_of handed nothing_kept)

-- where it is not finished, a report without an entry, a mark or a held room tells of the life that was cut in it
abbrev pub CutIsToldLaw : Type 0
CutIsToldLaw = (o : Opening) (handed : List BankState) (r : RecoveryState) → IsRecoveryFrom o handed r → length o.scripts ≡ o.settings.threads → r.stage ≢ InMemory
    → TellsOf o (image_of handed nothing_kept) 0 (bare_report o.epoch [] (all_write_backs (memory_of r.rooms)) Cut) (memory_of r.rooms)
