-- Which survivors of a cut are tried, and which of them is named.
use Rattle.std.specs.Prelude.{ℕ, zero, suc, ◌+◌, ◌<◌, ◌≤◌, Bool, nat_lt, if◌then◌else◌, List}
use Rattle.line_memory.specs.Line.{LineState}
use Rattle.room_model.specs.Image.{surviving_lines}
use Rattle.crash_explorer.specs.declared.plan.Plan.{Plan}
use Rattle.crash_explorer.specs.Cut.{AreWithin, pending_of, left_by}
use Rattle.crash_explorer.specs.Order.{Precedes, survivor_count, counts_at}
use Rattle.crash_explorer.specs.Sample.{sample_size, sampled_words, IsFirstSample}

-- how many survivors a cut of these lines has
abbrev pub survivors_of : List LineState → ℕ
survivors_of lines = survivor_count (pending_of lines)

-- whether a cut of these lines has more survivors than the budget
abbrev pub is_beyond : Plan → List LineState → Bool
is_beyond plan lines = nat_lt plan.budget (survivors_of lines)

-- each survivor that is tried is clean: of all within the budget, else of the sample
pub record AreClean (plan : Plan) (Clean : List (List ℕ) → Type 0) (lines : List LineState) : Type 0 where
  pub whole : survivors_of lines ≤ plan.budget → (choice : ℕ → ℕ) → Clean (surviving_lines choice 0 lines)
  pub sample : plan.budget < survivors_of lines → (j : ℕ) → j < sample_size plan.seeds.items → Clean (sampled_words plan.seeds.items lines j)

-- each survivor that precedes this one is clean
abbrev pub IsFirst : (List (List ℕ) → Type 0) → List LineState → List ℕ → Type 0
IsFirst Clean lines kept = (v : List ℕ) → AreWithin v (pending_of lines) → Precedes v kept → Clean (left_by v lines)

-- the counts name a survivor, and what is tried and is to be named before it is clean
pub record IsNamed (plan : Plan) (Clean : List (List ℕ) → Type 0) (lines : List LineState) (kept : List ℕ) : Type 0 where
  pub within : AreWithin kept (pending_of lines)
  pub first : survivors_of lines ≤ plan.budget → IsFirst Clean lines kept
  pub sample : plan.budget < survivors_of lines → IsFirstSample plan.seeds.items Clean lines kept

-- the sum of the first so many values
abbrev pub sum_below : (ℕ → ℕ) → ℕ → ℕ
sum_below f zero = 0
sum_below f (suc n) = sum_below f n + f n

-- how many survivors are tried at a cut of these lines, where so many are inside the recovery from words
abbrev pub all_tried : (List (List ℕ) → ℕ) → List LineState → ℕ
all_tried inside lines = sum_below (λ n. 1 + inside (left_by (counts_at n (pending_of lines)) lines)) (survivors_of lines)

abbrev pub sample_tried : List ℕ → (List (List ℕ) → ℕ) → List LineState → ℕ
sample_tried seeds inside lines = sum_below (λ j. 1 + inside (sampled_words seeds lines j)) (sample_size seeds)

abbrev pub tried_at : Plan → (List (List ℕ) → ℕ) → List LineState → ℕ
tried_at plan inside lines = if is_beyond plan lines then sample_tried plan.seeds.items inside lines else all_tried inside lines
