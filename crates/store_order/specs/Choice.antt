-- Choices of a power cut: how many of its pending stores each line keeps.
use Rattle.std.specs.Prelude.{◌≡◌, ℕ, zero, suc, ◌+◌, ◌%◌, ◌≤◌, ◌==◌, List, [], ◌∷◌, length, min, if◌then◌else◌}
use Rattle.rand_xoshiro.specs.SplitMix64.{next_state, mix_u64}
use Rattle.line_memory.specs.Line.{LineState, line_at}
use Rattle.store_order.specs.declared.choice.Kept.{Kept}
use Rattle.store_order.specs.declared.choice.Choice.{Choice}
use Rattle.store_order.specs.declared.choice.Choice.TheVariants.{Nothing, All, Seed, List as Listed}

-- the state of the generator SplitMix64 after so many words, where it began with this seed
abbrev pub state_after : ℕ → ℕ → ℕ
state_after zero seed = seed
state_after (suc n) seed = next_state (state_after n seed)

-- word number n, from 0, that SplitMix64 draws from this seed
abbrev pub word_drawn : ℕ → ℕ → ℕ
word_drawn seed n = (mix_u64 (state_after n seed)).0

-- the generator has drawn for so many lines, where the choice draws
abbrev pub IsDrawnTo : Choice → ℕ → ℕ → Type 0
IsDrawnTo Nothing line words = Unit {0}
IsDrawnTo All line words = Unit {0}
IsDrawnTo (Seed seed) line words = words ≡ state_after line seed
IsDrawnTo (Listed entries) line words = Unit {0}

-- the count of the first entry with this line, or 0 where there is none
abbrev pub count_listed : List Kept → ℕ → ℕ
count_listed [] line = 0
count_listed (k ∷ ks) line = if k.line == line then k.count else count_listed ks line

-- how many stores a line keeps, by its number through all rooms, where so many are pending
abbrev pub kept_by : Choice → ℕ → ℕ → ℕ
kept_by Nothing line pending = 0
kept_by All line pending = pending
kept_by (Seed seed) line pending = word_drawn seed line % (pending + 1)
kept_by (Listed entries) line pending = min (count_listed entries.items line) pending

-- what a choice keeps of each of these lines, by its place among them, where the first has this number through all rooms
abbrev pub kept_of : Choice → ℕ → List LineState → ℕ → ℕ
kept_of choice first lines line = kept_by choice (first + line) (length (line_at lines line).pending)

-- a line never keeps more than what is pending on it
abbrev pub KeepsWhatIsPendingLaw : Type 0
KeepsWhatIsPendingLaw = (choice : Choice) (line pending : ℕ) → kept_by choice line pending ≤ pending
