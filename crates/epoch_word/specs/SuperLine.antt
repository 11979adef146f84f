-- The super room: a bank of one line, whose word 0 is the memory epoch.
use Rattle.std.specs.Prelude.{◌≡◌, ℕ, ◌+◌, ◌<◌, ◌≤◌, ◌^◌, ◌⊎◌, [], ◌∷◌, length, slice_index}
use Rattle.line_memory.specs.Line.{BankState, LineState, loaded, store_to, AreLines}
use Rattle.room_model.specs.EpochLine.{epoch_line, loaded_epoch, memory_epoch, surviving_epoch}

-- a line whose word 0 is an epoch from 1 on, of 32 bits: nothing is pending on it, or the store of the next epoch alone, for which
-- there is room
pub record IsEpochLine (l : LineState) : Type 0 where
  pub eight : length l.base ≡ 8
  pub some : 1 ≤ slice_index l.base 0
  pub fits : loaded l 0 < 2 ^ 32
  pub pending : (l.pending ≡ []) ⊎ (l.pending ≡ store_to 0 (slice_index l.base 0 + 1) ∷ [])
  pub room : 1 ≤ length l.pending + l.spare

-- a super room
pub record IsSuperRoom (bank : BankState) : Type 0 where
  pub lines : AreLines bank.lines
  pub one : length bank.lines ≡ 1
  pub line : IsEpochLine (epoch_line bank)

-- a bank that can become a super room: one line with nothing pending, and an epoch from 1 on, of 32 bits
pub record HoldsEpoch (bank : BankState) : Type 0 where
  pub one : length bank.lines ≡ 1
  pub quiet : (epoch_line bank).pending ≡ []
  pub some : 1 ≤ memory_epoch bank
  pub fits : memory_epoch bank < 2 ^ 32

-- all that is pending was asked for by a write-back
abbrev pub IsAsked : BankState → Type 0
IsAsked bank = (epoch_line bank).asked ≡ length (epoch_line bank).pending

-- the epoch by load is in memory, and nothing is pending
pub record IsInMemory (bank : BankState) : Type 0 where
  pub held : memory_epoch bank ≡ loaded_epoch bank
  pub quiet : (epoch_line bank).pending ≡ []

-- whatever a cut keeps, it leaves the epoch that memory holds or the one by load
abbrev pub SurvivorLaw : Type 0
SurvivorLaw = (bank : BankState) (kept : ℕ) → IsSuperRoom bank → (surviving_epoch bank kept ≡ memory_epoch bank) ⊎ (surviving_epoch bank kept ≡ loaded_epoch bank)

-- the epoch by load is the one that memory holds, or the next
abbrev pub NextLaw : Type 0
NextLaw = (bank : BankState) → IsSuperRoom bank → (loaded_epoch bank ≡ memory_epoch bank) ⊎ (loaded_epoch bank ≡ memory_epoch bank + 1)
