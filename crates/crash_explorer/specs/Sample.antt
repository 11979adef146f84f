-- A sample of a cut's survivors.
use Rattle.std.specs.Prelude.{◌≡◌, ℕ, zero, suc, ◌+◌, ◌<◌, List, length, slice_index}
use Rattle.line_memory.specs.Line.{LineState}
use Rattle.room_model.specs.Image.{surviving_lines}
use Rattle.store_order.specs.declared.choice.Choice.{Choice}
use Rattle.store_order.specs.declared.choice.Choice.TheVariants.{Nothing, All, Seed}
use Rattle.store_order.specs.Choice.{kept_by, kept_of}
use Rattle.crash_explorer.specs.Cut.{pending_of}

-- choice number j of a sample: nothing kept, all kept, and then what each seed draws
abbrev pub sample : List ℕ → ℕ → Choice
sample seeds zero = Nothing
sample seeds (suc zero) = All
sample seeds (suc (suc j)) = Seed (slice_index seeds j)

-- how many choices a sample has
abbrev pub sample_size : List ℕ → ℕ
sample_size seeds = length seeds + 2

-- the words that choice number j of a sample leaves of lines
abbrev pub sampled_words : List ℕ → List LineState → ℕ → List (List ℕ)
sampled_words seeds lines j = surviving_lines (kept_of (sample seeds j) 0 lines) 0 lines

-- these counts are those of a choice, where so many stores are pending on each line
pub record AreKeptBy (choice : Choice) (most kept : List ℕ) : Type 0 where
  pub many : length kept ≡ length most
  pub each : (i : ℕ) → i < length most → slice_index kept i ≡ kept_by choice i (slice_index most i)

-- the counts are those of a choice of the sample, and what the choices before it leave is clean
abbrev pub IsFirstSample : List ℕ → (List (List ℕ) → Type 0) → List LineState → List ℕ → Type 0
IsFirstSample seeds Clean lines kept = (j : ℕ) × (j < sample_size seeds) × ((i : ℕ) → i < j → Clean (sampled_words seeds lines i)) × AreKeptBy (sample seeds j) (pending_of lines) kept
