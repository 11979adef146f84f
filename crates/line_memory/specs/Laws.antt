-- Laws on lines: what loads give, and what stores and fences do to the survivors.
use Rattle.std.specs.Prelude.{◌≡◌, ℕ, List, ◌<◌, ◌+◌, ◌-◌, ◌≤◌, ◌^◌, [], length, min, sum_by, slice_index, slice_set, All}
use Rattle.line_memory.specs.Line.{LineState, BankState, IsLine, all_write_backs, loaded, survivor, loaded_words, stored, written_back, fenced}

-- a load of a word is that word of the line with all its pending stores
abbrev pub LoadIsWholeLaw : Type 0
LoadIsWholeLaw = (l : LineState) (word : ℕ) → length l.base ≡ 8 → word < 8 → loaded l word ≡ slice_index (loaded_words l) word

-- a line that keeps no store is its base
abbrev pub LeftNoneLaw : Type 0
LeftNoneLaw = (l : LineState) → survivor l 0 ≡ l.base

-- a line that keeps all its pending stores has its words by loads
abbrev pub LeftAllLaw : Type 0
LeftAllLaw = (l : LineState) (k : ℕ) → length l.pending ≤ k → survivor l k ≡ loaded_words l

-- a survivor has as many words as the base
abbrev pub LeftLengthLaw : Type 0
LeftLengthLaw = (l : LineState) (k : ℕ) → length (survivor l k) ≡ length l.base

-- a survivor of a line has eight words of 64 bits
abbrev pub LeftWordsLaw : Type 0
LeftWordsLaw = (l : LineState) (k : ℕ) → IsLine l → (length (survivor l k) ≡ 8) × All (λ word. word < 2 ^ 64) (survivor l k)

-- a store leaves the survivors that do not keep it as they were
abbrev pub LeftStoredLaw : Type 0
LeftStoredLaw = (l : LineState) (word value k : ℕ) → k ≤ length l.pending → survivor (stored l word value) k ≡ survivor l k

-- a store makes one more survivor: all the words by loads, and this word
abbrev pub LeftStoredLastLaw : Type 0
LeftStoredLastLaw = (l : LineState) (word value k : ℕ) → length l.pending < k → survivor (stored l word value) k ≡ slice_set (loaded_words l) word value

-- a store changes this one word by loads
abbrev pub WholeStoredLaw : Type 0
WholeStoredLaw = (l : LineState) (word value : ℕ) → loaded_words (stored l word value) ≡ slice_set (loaded_words l) word value

-- a write-back changes no survivor
abbrev pub LeftWrittenBackLaw : Type 0
LeftWrittenBackLaw = (l : LineState) (k : ℕ) → survivor (written_back l) k ≡ survivor l k

-- what survives after a fence could survive before it
abbrev pub LeftFencedLaw : Type 0
LeftFencedLaw = (l : LineState) (k : ℕ) → survivor (fenced l) k ≡ survivor l (l.asked + k)

-- a fence changes no word by loads
abbrev pub WholeFencedLaw : Type 0
WholeFencedLaw = (l : LineState) → loaded_words (fenced l) ≡ loaded_words l

-- where all pending stores were asked for, a fence makes the words by loads the base, and leaves nothing pending
abbrev pub FencedAllLaw : Type 0
FencedAllLaw = (l : LineState) → l.asked ≡ length l.pending → ((fenced l).base ≡ loaded_words l) × ((fenced l).pending ≡ [])

-- the write-backs of all banks together are the sum of each one's, in a count that stands still at its type's end
abbrev pub AllWriteBacksLaw : Type 0
AllWriteBacksLaw = (memory : List BankState) → all_write_backs memory ≡ min (sum_by (λ bank. bank.write_backs) memory) (2 ^ 64 - 1)
