-- Lines of eight words over a memory that loses what was not fenced.
use Rattle.std.specs.Prelude.{◌≡◌, ℕ, Bool, nat_lt, count_by, ◌<◌, ◌+◌, ◌-◌, ◌≤◌, ◌^◌, ◌==◌, List, [], ◌∷◌, ◌++◌, length, take, drop, if◌then◌else◌, slice_index, slice_index_or, slice_set, map, min, All}
use Rattle.line_memory.specs.declared.store.Store.{Store}

-- a line: the base words, which memory holds; the stores that are pending on it, in order; how many of them were asked for by a
-- write-back; and the room that was made for more
pub record LineState : Type 0 where
  pub base : List ℕ
  pub pending : List Store
  pub asked : ℕ
  pub spare : ℕ

-- a bank: its lines, and how many write-backs were made in it
pub record BankState : Type 0 where
  pub lines : List LineState
  pub write_backs : ℕ

-- a word's value after these stores, where it was this value before
abbrev pub latest : ℕ → ℕ → List Store → ℕ
latest value word [] = value
latest value word (s ∷ ss) = latest (if s.word == word then s.value else value) word ss

-- a load: the last pending store to the word, else the base word
abbrev pub loaded : LineState → ℕ → ℕ
loaded l word = latest (slice_index l.base word) word l.pending

-- words after these stores, in order
abbrev pub applied : List ℕ → List Store → List ℕ
applied words [] = words
applied words (s ∷ ss) = applied (slice_set words s.word s.value) ss

-- what a power cut leaves of a line that keeps its first k pending stores: a survivor of the line
abbrev pub survivor : LineState → ℕ → List ℕ
survivor l k = applied l.base (take k l.pending)

-- the words of a line after all its pending stores: its words by loads
abbrev pub loaded_words : LineState → List ℕ
loaded_words l = applied l.base l.pending

-- a store of this value to this word
abbrev pub store_to : ℕ → ℕ → Store
store_to word value = record { word = word; value = value }

-- the line after one more store
abbrev pub stored : LineState → ℕ → ℕ → LineState
stored l word value = record l { pending = l.pending ++ store_to word value ∷ []; spare = l.spare - 1 }

-- the line after a write-back: all stores that are pending now are asked for
abbrev pub written_back : LineState → LineState
written_back l = record l { asked = length l.pending }

-- the line after a fence: the stores that were asked for are in memory, and the room that they took is free again
abbrev pub fenced : LineState → LineState
fenced l = record { base = survivor l l.asked; pending = drop l.asked l.pending; asked = 0; spare = l.spare + l.asked }

-- a line with these words in memory, and nothing pending
abbrev pub quiet_line : List ℕ → LineState
quiet_line base = record { base = base; pending = []; asked = 0; spare = 0 }

-- what stands where there is no line
abbrev pub no_line : LineState
no_line = quiet_line []

-- a line by its number
abbrev pub line_at : List LineState → ℕ → LineState
line_at lines i = slice_index_or lines i no_line

-- what stands where there is no bank
abbrev pub no_bank : BankState
no_bank = record { lines = []; write_backs = 0 }

-- a bank of a memory by its number
abbrev pub bank_at : List BankState → ℕ → BankState
bank_at memory room = slice_index_or memory room no_bank

-- a line of a memory by its room and number
abbrev pub line_of : List BankState → ℕ → ℕ → LineState
line_of memory room line = line_at (bank_at memory room).lines line

-- the load of a word of a line of a bank
abbrev pub bank_load : BankState → ℕ → ℕ → ℕ
bank_load bank line word = loaded (line_at bank.lines line) word

-- the load of a word of a line of a room of a memory
abbrev pub load_of : List BankState → ℕ → ℕ → ℕ → ℕ
load_of memory room line word = loaded (line_of memory room line) word

-- the store is to a word of a line, of a number of 64 bits
pub record IsStore (s : Store) : Type 0 where
  pub word : s.word < 8
  pub value : s.value < 2 ^ 64

-- a line of eight words of 64 bits; no more stores asked for than are pending, and few enough of them to be counted
pub record IsLine (l : LineState) : Type 0 where
  pub eight : length l.base ≡ 8
  pub words : All (λ word. word < 2 ^ 64) l.base
  pub stores : All IsStore l.pending
  pub asked : l.asked ≤ length l.pending
  pub few : length l.pending + l.spare < 2 ^ 32

-- each of these is a line
abbrev pub AreLines : List LineState → Type 0
AreLines lines = (i : ℕ) → i < length lines → IsLine (line_at lines i)

-- a count that stands still at its type's end
abbrev pub counted : ℕ → ℕ
counted n = min (n + 1) (2 ^ 64 - 1)

-- the bank with one line changed
abbrev pub with_line : BankState → ℕ → LineState → BankState
with_line bank i l = record bank { lines = slice_set bank.lines i l }

-- the bank after a store to a word of a line
abbrev pub bank_stored : BankState → ℕ → ℕ → ℕ → BankState
bank_stored bank i word value = with_line bank i (stored (line_at bank.lines i) word value)

-- the bank after a write-back of a line, which is counted
abbrev pub bank_written_back : BankState → ℕ → BankState
bank_written_back bank i = record { lines = slice_set bank.lines i (written_back (line_at bank.lines i)); write_backs = counted bank.write_backs }

-- the bank after a fence, which works on all its lines
abbrev pub bank_fenced : BankState → BankState
bank_fenced bank = record bank { lines = map fenced bank.lines }

-- a bank with these words in memory, and nothing pending
abbrev pub quiet_bank : List (List ℕ) → BankState
quiet_bank bases = record { lines = map quiet_line bases; write_backs = 0 }

-- the line with room for so many more stores
abbrev pub with_spare : LineState → ℕ → LineState
with_spare l spare = record l { spare = spare }

-- the bank with room for so many more stores on a line
abbrev pub bank_with_spare : BankState → ℕ → ℕ → BankState
bank_with_spare bank i spare = with_line bank i (with_spare (line_at bank.lines i) spare)

-- two lines with the same words, pending stores and asked number: nothing but the room for stores differs
pub record HasSameWords (old new : LineState) : Type 0 where
  pub base : new.base ≡ old.base
  pub pending : new.pending ≡ old.pending
  pub asked : new.asked ≡ old.asked
  pub room : old.spare ≤ new.spare

-- whether a store is pending on the line
abbrev pub is_pending : LineState → Bool
is_pending l = nat_lt 0 (length l.pending)

-- whether a store is pending on the line that was not asked for
abbrev pub is_unasked : LineState → Bool
is_unasked l = nat_lt l.asked (length l.pending)

-- whether a line of a bank has a store that was not asked for
abbrev pub is_unasked_in : BankState → ℕ → Bool
is_unasked_in bank line = is_unasked (line_at bank.lines line)

-- how many lines have a store that was not asked for
abbrev pub unasked : List LineState → ℕ
unasked lines = count_by is_unasked lines

-- each bank of a memory has lines that are whole
abbrev pub AreBanks : List BankState → Type 0
AreBanks memory = (room : ℕ) → room < length memory → AreLines (bank_at memory room).lines

-- how many lines the banks have together
abbrev pub all_lines : List BankState → ℕ
all_lines [] = 0
all_lines (b ∷ bs) = length b.lines + all_lines bs

-- the write-backs of all banks together, on top of this many, in a sum that stands still at its type's end
abbrev pub write_backs_on : ℕ → List BankState → ℕ
write_backs_on sum [] = sum
write_backs_on sum (b ∷ bs) = write_backs_on (min (sum + b.write_backs) (2 ^ 64 - 1)) bs

-- the write-backs of all banks together
abbrev pub all_write_backs : List BankState → ℕ
all_write_backs memory = write_backs_on 0 memory

-- nothing is pending in a memory
abbrev pub IsQuiet : List BankState → Type 0
IsQuiet memory = (room line : ℕ) → (line_of memory room line).pending ≡ []
