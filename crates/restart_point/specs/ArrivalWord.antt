-- The arrival word: which threads stand, three marks, and the epoch, in one number of 64 bits.
use Rattle.std.specs.Prelude.{◌≡◌, ℕ, ◌+◌, ◌*◌, ◌/◌, ◌%◌, ◌^◌, ◌<◌, ◌==◌, Bool, IsBitSet, if◌then◌else◌}
use Rattle.restart_point.specs.declared.arrival.Arrival.{Arrival}

-- whether the bit of this number is set in a word
abbrev pub is_set : ℕ → ℕ → Bool
is_set word k = word / 2 ^ k % 2 == 1

-- the number that has this bit alone, where it is set
abbrev pub bit_at : ℕ → Bool → ℕ
bit_at k b = if b then 2 ^ k else 0

-- what a word says: bits 0 to 15 are the mask, bit 16 closing, 17 over, 18 fed, and bits 32 to 63 the epoch
abbrev pub arrival_of : ℕ → Arrival
arrival_of word = record { mask = word % 2 ^ 16; closing = is_set word 16; over = is_set word 17; fed = is_set word 18; epoch = word / 2 ^ 32 }

-- the word that says this; bits 19 to 31 are 0
abbrev pub word_of : Arrival → ℕ
word_of a = a.mask + bit_at 16 a.closing + bit_at 17 a.over + bit_at 18 a.fed + a.epoch * 2 ^ 32

-- the bits of a word without a meaning, 19 to 31, are 0
abbrev pub HasNoOtherBits : ℕ → Type 0
HasNoOtherBits word = word / 2 ^ 19 % 2 ^ 13 ≡ 0

-- the mask and the epoch are of as many bits as the word has for them
pub record FitsItsWord (a : Arrival) : Type 0 where
  pub mask : a.mask < 2 ^ 16
  pub epoch : a.epoch < 2 ^ 32

-- each thread of so many stands
abbrev pub AllStand : ℕ → ℕ → Type 0
AllStand mask threads = (thread : ℕ) → thread < threads → IsBitSet mask thread
