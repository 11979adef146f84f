-- The marks of the lines met.
use Rattle.std.specs.Prelude.{◌≡◌, ℕ, ◌<◌, nat_lt, Bool, false, Option, Some, None, List, length, slice_index_or, EachIndex}
use Rattle.room_model.specs.Chains.{times}
use Rattle.image_check.specs.declared.walking.Met.{Met}
use Rattle.image_check.specs.Meeting.{latest}

-- the marks are those of the lines met, so many, with this one as the latest
pub record HasMarksOf (marks : List Bool) (now : Met) (met : List ℕ) : Type 0 where
  pub marked : (x : ℕ) → x < length marks → slice_index_or marks x false ≡ nat_lt 0 (times x met)
  pub count : now.count ≡ length met
  pub latest_is : now.latest ≡ latest met

-- what was walked and marked is what the definition met
abbrev pub HasWalked : Option Met → List Bool → Option (List ℕ) → Type 0
HasWalked None marks None = Unit {0}
HasWalked None marks (Some met) = ⊥
HasWalked (Some now) marks None = ⊥
HasWalked (Some now) marks (Some met) = HasMarksOf marks now met

-- no line is marked
abbrev pub IsClear : List Bool → Type 0
IsClear marks = EachIndex marks (λ k. slice_index_or marks k false ≡ false)
