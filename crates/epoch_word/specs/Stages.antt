-- The super room at each stage of the write of the next epoch, and what a cut leaves of it there.
use Rattle.std.specs.Prelude.{◌≡◌, ℕ, ◌+◌, ◌⊎◌}
use Rattle.line_memory.specs.Line.{BankState, bank_stored, bank_written_back, bank_fenced}
use Rattle.room_model.specs.EpochLine.{loaded_epoch, memory_epoch, surviving_epoch}
use Rattle.epoch_word.specs.declared.stage.EpochStage.{EpochStage}
use Rattle.epoch_word.specs.declared.stage.EpochStage.TheVariants.{Before, Stored, AskedFor, InMemory}
use Rattle.epoch_word.specs.SuperLine.{IsSuperRoom, IsAsked, IsInMemory}

-- the bank at this stage of the write of the epoch behind this one
abbrev pub IsAtStage : EpochStage → ℕ → BankState → Type 0
IsAtStage Before epoch bank = IsInMemory bank × (loaded_epoch bank ≡ epoch)
IsAtStage Stored epoch bank = (memory_epoch bank ≡ epoch) × (loaded_epoch bank ≡ epoch + 1)
IsAtStage AskedFor epoch bank = (memory_epoch bank ≡ epoch) × (loaded_epoch bank ≡ epoch + 1) × IsAsked bank
IsAtStage InMemory epoch bank = IsInMemory bank × (loaded_epoch bank ≡ epoch + 1)

-- the epoch that a cut may leave at this stage
abbrev pub MaySurvive : EpochStage → ℕ → ℕ → Type 0
MaySurvive Before epoch left = left ≡ epoch
MaySurvive Stored epoch left = (left ≡ epoch) ⊎ (left ≡ epoch + 1)
MaySurvive AskedFor epoch left = (left ≡ epoch) ⊎ (left ≡ epoch + 1)
MaySurvive InMemory epoch left = left ≡ epoch + 1

-- the store of the next epoch leads from the first stage to the second
abbrev pub StoreLaw : Type 0
StoreLaw = (bank : BankState) (epoch : ℕ) → IsSuperRoom bank → IsAtStage Before epoch bank → IsAtStage Stored epoch (bank_stored bank 0 0 (loaded_epoch bank + 1))

-- a write-back leads from the second stage to the third
abbrev pub WriteBackLaw : Type 0
WriteBackLaw = (bank : BankState) (epoch : ℕ) → IsSuperRoom bank → IsAtStage Stored epoch bank → IsAtStage AskedFor epoch (bank_written_back bank 0)

-- a fence leads from the third stage to the last
abbrev pub FenceLaw : Type 0
FenceLaw = (bank : BankState) (epoch : ℕ) → IsSuperRoom bank → IsAtStage AskedFor epoch bank → IsAtStage InMemory epoch (bank_fenced bank)

-- whatever a cut keeps of the line, it leaves what it may at the stage
abbrev pub SurvivingLaw : Type 0
SurvivingLaw = (stage : EpochStage) (bank : BankState) (epoch kept : ℕ) → IsSuperRoom bank → IsAtStage stage epoch bank → MaySurvive stage epoch (surviving_epoch bank kept)
