-- The better of two survivors that are wrong.
use Rattle.std.specs.Prelude.{◌≡◌, ℕ, ◌<◌, ◌⊎◌, Option, Some, None, List, sum}
use Rattle.crash_explorer.specs.declared.verdict.Miss.{Miss}
use Rattle.crash_explorer.specs.declared.verdict.Found.{Found}
use Rattle.crash_explorer.specs.declared.verdict.LeftVerdict.{LeftVerdict}
use Rattle.crash_explorer.specs.declared.verdict.LeftVerdict.TheVariants.{Clean, Wrong}
use Rattle.crash_explorer.specs.declared.verdict.CutVerdict.{CutVerdict}
use Rattle.crash_explorer.specs.declared.verdict.CutVerdict.TheVariants.{Clean as AllClean, Wrong as OneWrong}
use Rattle.crash_explorer.specs.declared.effort.Effort.{Effort}
use Rattle.crash_explorer.specs.declared.search.Search.{Search}
use Rattle.crash_explorer.specs.Effort.{IsWithSurvivor}

-- so many stores are fewer than those of the one that was found, if one was
abbrev pub IsFewer : ℕ → Option Found → Type 0
IsFewer stores None = Unit {0}
IsFewer stores (Some found) = stores < found.stores

-- what was found is the survivor of these counts, with this miss
abbrev pub IsFoundBy : List ℕ → Miss → Found → Type 0
IsFoundBy kept miss found = (found.kept.items ≡ kept) × (found.stores ≡ sum kept) × (found.miss ≡ miss)

abbrev pub Names : List ℕ → Miss → Option Found → Type 0
Names kept miss None = ⊥
Names kept miss (Some found) = IsFoundBy kept miss found

-- behind a wrong survivor of these counts the better is found: the new one where it keeps fewer stores, else what was found
abbrev pub IsBetter : Option Found → List ℕ → Miss → Option Found → Type 0
IsBetter best kept miss new = (IsFewer (sum kept) best × Names kept miss new) ⊎ ((IsFewer (sum kept) best → ⊥) × (new ≡ best))

-- behind one more survivor: a clean one is counted, and of wrong ones the better is kept
abbrev pub IsWeighed : Search → List ℕ → LeftVerdict → Search → Type 0
IsWeighed search kept (Clean inside) new = (new.best ≡ search.best) × IsWithSurvivor search.effort inside new.effort
IsWeighed search kept (Wrong miss) new = IsBetter search.best kept miss new.best

-- what a search that met all survivors found
abbrev pub verdict_of : Option Found → Effort → CutVerdict
verdict_of None effort = AllClean effort
verdict_of (Some found) effort = OneWrong found
