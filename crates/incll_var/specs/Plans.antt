-- Plans: stores that are to be made one after the other. What must hold of a plan so that each prefix of it leaves the cells safe.
use Rattle.std.specs.Prelude.{◌≡◌, ℕ, ◌+◌, ◌-◌, ◌<◌, ◌≤◌, ◌==◌, Bool, true, false, List, [], ◌∷◌, ◌++◌, length, if◌then◌else◌, slice_set, slice_index_or}
use Rattle.line_memory.specs.Line.{LineState, line_at, loaded_words, applied, store_to}
use Rattle.line_memory.specs.declared.store.Store.{Store}
use Rattle.room_model.specs.declared.write.PlannedStore.{PlannedStore}
use Rattle.room_model.specs.Cell.{tag_of, triple_of, IsSafe}
use Rattle.room_model.specs.Writes.{store, AreStoresWithin}

-- a plan: the stores that are left, in order, and the room that was made for more
pub record PlanState : Type 0 where
  pub stores : List PlannedStore
  pub spare : ℕ

-- the plan with these stores behind its own, and the same room
abbrev pub grown : PlanState → List PlannedStore → PlanState
grown p ss = record p { stores = p.stores ++ ss }

-- the plan with these stores behind its own, in the room that was made
abbrev pub filled : PlanState → List PlannedStore → PlanState
filled p ss = record { stores = p.stores ++ ss; spare = p.spare - length ss }

-- the plan with room for so many more
abbrev pub with_places : PlanState → ℕ → PlanState
with_places p n = record p { spare = p.spare + n }

-- these stores but for the first
abbrev pub behind_first : List PlannedStore → List PlannedStore
behind_first [] = []
behind_first (s ∷ ss) = ss

-- the plan behind its first store, whose room is free again
abbrev pub plan_behind : PlanState → PlanState
plan_behind p = record { stores = behind_first p.stores; spare = p.spare + 1 }

-- the plan with no store left, and the room that they had
abbrev pub cleared : PlanState → PlanState
cleared p = record { stores = []; spare = p.spare + length p.stores }

-- a store of a plan, by its number
abbrev pub store_in : List PlannedStore → ℕ → PlannedStore
store_in ss k = slice_index_or ss k (store 0 0 0)

-- the line of a store of a plan, by the store's number
abbrev pub line_in : List PlannedStore → ℕ → ℕ
line_in ss k = (store_in ss k).line

-- the stores of a plan to one line
abbrev pub stores_on : ℕ → List PlannedStore → List Store
stores_on i [] = []
stores_on i (s ∷ ss) = if s.line == i then store_to s.word s.value ∷ stores_on i ss else stores_on i ss

-- whether there is no store
abbrev pub no_stores : List Store → Bool
no_stores [] = true
no_stores (s ∷ ss) = false

-- behind each of these stores, made one after the other, the cell is safe
abbrev pub AreSafe : ℕ → List ℕ → List ℕ → List Store → Type 0
AreSafe epoch triple words [] = Unit {0}
AreSafe epoch triple words (s ∷ ss) =
    IsSafe epoch triple (slice_set words s.word s.value) × AreSafe epoch triple (slice_set words s.word s.value) ss

-- stores that are planned on a line: behind each of them the cell is safe, and where there is one the cell has the epoch's tag behind
-- the last
pub record IsLinePlanned (epoch : ℕ) (l : LineState) (ss : List Store) : Type 0 where
  pub safe : AreSafe epoch (triple_of epoch l.base) (loaded_words l) ss
  pub tagged : no_stores ss ≡ false → tag_of (applied (loaded_words l) ss) ≡ epoch

-- these stores may be made one after the other in the epoch: each is to a word of a line, and each leaves its cell safe
pub record IsPlanned (epoch : ℕ) (lines : List LineState) (ss : List PlannedStore) : Type 0 where
  pub places : AreStoresWithin (length lines) ss
  pub safe : (i : ℕ) → i < length lines → IsLinePlanned epoch (line_at lines i) (stores_on i ss)

-- each line has room for the stores that are planned to it
abbrev pub HasPlacesFor : List LineState → List PlannedStore → Type 0
HasPlacesFor lines ss = (i : ℕ) → i < length lines → length (stores_on i ss) ≤ (line_at lines i).spare
