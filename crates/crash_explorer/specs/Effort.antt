-- How much was tried.
use Rattle.std.specs.Prelude.{◌≡◌, ℕ, ◌+◌, ◌-◌, ◌^◌, true, false, ◌&&◌, min}
use Rattle.crash_explorer.specs.declared.effort.Effort.{Effort}

-- nothing
abbrev pub no_effort : Effort
no_effort = record { survivors = 0; all = true }

-- this is both of two
pub record IsBoth (a b new : Effort) : Type 0 where
  pub survivors : new.survivors ≡ min (a.survivors + b.survivors) (2 ^ 64 - 1)
  pub all : new.all ≡ (a.all && b.all)

-- this is one more survivor, with so much inside its recovery
pub record IsWithSurvivor (a inside new : Effort) : Type 0 where
  pub survivors : new.survivors ≡ min (a.survivors + (1 + inside.survivors)) (2 ^ 64 - 1)
  pub all : new.all ≡ (a.all && inside.all)

-- so many survivors were tried, in a sum that stands still at its type's end; where these were all, this is so, and else that
pub record IsEffort (count : ℕ) (Whole Partial : Type 0) (effort : Effort) : Type 0 where
  pub survivors : effort.survivors ≡ min count (2 ^ 64 - 1)
  pub all : effort.all ≡ true → Whole
  pub not_all : effort.all ≡ false → Partial
