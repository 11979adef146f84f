-- What is found of one recovery, of words that a cut left, and of a cut.
use Rattle.std.specs.Prelude.{◌≡◌, ℕ, ◌<◌, true, false, Option, Some, None, List}
use Rattle.line_memory.specs.Line.{LineState}
use Rattle.crash_explorer.specs.declared.plan.Plan.{Plan}
use Rattle.crash_explorer.specs.declared.outcome.Outcome.{Outcome}
use Rattle.crash_explorer.specs.declared.recovering.Once.{Once}
use Rattle.crash_explorer.specs.declared.verdict.Found.{Found}
use Rattle.crash_explorer.specs.declared.verdict.LeftVerdict.{LeftVerdict}
use Rattle.crash_explorer.specs.declared.verdict.LeftVerdict.TheVariants.{Clean as IsCleanOne, Wrong as IsWrongOne}
use Rattle.crash_explorer.specs.declared.verdict.CutVerdict.{CutVerdict}
use Rattle.crash_explorer.specs.declared.verdict.CutVerdict.TheVariants.{Clean as AreCleanAll, Wrong as IsOneWrong}
use Rattle.crash_explorer.specs.Cut.{Cut, AreWithin, pending_of, left_by, is_right, recovers_to, outcome_state}
use Rattle.crash_explorer.specs.Effort.{IsEffort}
use Rattle.crash_explorer.specs.Sample.{sample_size, sampled_words, IsFirstSample}
use Rattle.crash_explorer.specs.Answers.{AreClean, IsFirst, IsNamed, all_tried, sample_tried, tried_at}
use Rattle.crash_explorer.specs.Depth.{events_of, IsSafeLeft, AreSafe, IsClean, IsPartialLeft, IsPartial, tried_inside, IsWrongLeft}
use Rattle.room_model.specs.Image.{surviving_lines}

-- nothing where the recovery is right, else what it comes to
abbrev pub IsVerdict : ℕ → Cut → List (List ℕ) → Option Outcome → Type 0
IsVerdict steps cut left None = is_right steps cut left ≡ true
IsVerdict steps cut left (Some outcome) = (is_right steps cut left ≡ false) × (outcome_state outcome ≡ recovers_to steps cut left)

-- one recovery
pub record IsOnce (steps : ℕ) (cut : Cut) (left : List (List ℕ)) (once : Once) : Type 0 where
  pub events : once.events ≡ events_of steps cut left
  pub wrong : IsVerdict steps cut left once.wrong

-- of words: they are clean to the depth, or this is wrong with them
abbrev pub IsLeftVerdict : Plan → Cut → ℕ → List (List ℕ) → LeftVerdict → Type 0
IsLeftVerdict plan cut depth left (IsCleanOne effort) = IsClean plan cut depth left
    × IsEffort (tried_inside plan cut depth left) (IsSafeLeft plan.steps cut depth left) (IsPartialLeft plan cut depth left) effort
IsLeftVerdict plan cut depth left (IsWrongOne miss) = IsWrongLeft plan cut miss.inside.items depth left miss.outcome

-- what was found is wrong
abbrev pub IsWrongFound : Plan → Cut → ℕ → List LineState → Found → Type 0
IsWrongFound plan cut depth lines found = IsWrongLeft plan cut found.miss.inside.items depth (left_by found.kept.items lines) found.miss.outcome

-- one of the survivors of these lines is partial
abbrev pub IsSomePartialLeft : Plan → Cut → ℕ → List LineState → Type 0
IsSomePartialLeft plan cut depth lines = (kept : List ℕ) × AreWithin kept (pending_of lines) × IsPartialLeft plan cut depth (left_by kept lines)

-- of a cut, where all its survivors are tried
abbrev pub IsWholeVerdict : Plan → Cut → ℕ → List LineState → CutVerdict → Type 0
IsWholeVerdict plan cut depth lines (AreCleanAll effort) = ((choice : ℕ → ℕ) → IsClean plan cut depth (surviving_lines choice 0 lines))
    × IsEffort (all_tried (tried_inside plan cut depth) lines) (AreSafe plan.steps cut depth lines) (IsSomePartialLeft plan cut depth lines) effort
IsWholeVerdict plan cut depth lines (IsOneWrong found) = AreWithin found.kept.items (pending_of lines)
    × IsFirst (λ words. IsClean plan cut depth words) lines found.kept.items × IsWrongFound plan cut depth lines found

-- of a cut, where a sample is tried
abbrev pub IsSampleVerdict : Plan → Cut → ℕ → List LineState → CutVerdict → Type 0
IsSampleVerdict plan cut depth lines (AreCleanAll effort) = ((j : ℕ) → j < sample_size plan.seeds.items → IsClean plan cut depth (sampled_words plan.seeds.items lines j))
    × IsEffort (sample_tried plan.seeds.items (tried_inside plan cut depth) lines) ⊥ (Unit {0}) effort
IsSampleVerdict plan cut depth lines (IsOneWrong found) = AreWithin found.kept.items (pending_of lines)
    × IsFirstSample plan.seeds.items (λ words. IsClean plan cut depth words) lines found.kept.items × IsWrongFound plan cut depth lines found

-- of a cut: what is tried is clean, or this survivor is wrong and the first
abbrev pub IsCutVerdict : Plan → Cut → ℕ → List LineState → CutVerdict → Type 0
IsCutVerdict plan cut depth lines (AreCleanAll effort) = AreClean plan (λ words. IsClean plan cut depth words) lines
    × IsEffort (tried_at plan (tried_inside plan cut depth) lines) (AreSafe plan.steps cut depth lines) (IsPartial plan cut depth lines) effort
IsCutVerdict plan cut depth lines (IsOneWrong found) = IsNamed plan (λ words. IsClean plan cut depth words) lines found.kept.items × IsWrongFound plan cut depth lines found
