-- Each event of a recovery is one fewer that is left.
use Rattle.std.proofs.Common.{◌≡◌, ◌≢◌, ℕ, ◌+◌, ◌||◌, Bool, true, false, List, [], ◌∷◌, length, if◌then◌else◌, refl, ap, arith}
use Rattle.incll_var.specs.declared.state.CellState.{CellState}
use Rattle.incll_var.specs.declared.restore.RestoreEvent.{RestoreEvent}
use Rattle.incll_var.specs.Cells.{restored_on as cells_on}
use Rattle.line_memory.specs.Line.{BankState}
use Rattle.rooms.specs.declared.room.Room.{Room}
use Rattle.rooms.specs.declared.room.Room.TheVariants.{Map, Queue, Thread, Super}
use Rattle.epoch_word.specs.declared.stage.EpochStage.{EpochStage}
use Rattle.epoch_word.specs.declared.stage.EpochStage.TheVariants.{Before, Stored, AskedFor, InMemory}
use Rattle.recovery.specs.Restored.{are_left, has_left, restored, restored_on, any_left}
use Rattle.recovery.specs.Recovering.{RecoveryState, events_in, restores_left, left_at, events_left, with_last, next_stored, stepped_in}
use Rattle.recovery.specs.Laws.{RecoveryGoesOnLaw}

-- one event of cells
abbrev one_if : Bool → ℕ
one_if true = 1
one_if false = 0

cells_left : (state : CellState) (bank : BankState) (todo : List RestoreEvent) → length todo ≡ length (cells_on state bank todo).todo + one_if (are_left todo)
cells_left state bank [] = refl
cells_left state bank (event ∷ events) = omega arith

room_left : (x : Room) → events_in x ≡ events_in (restored x) + one_if (has_left x)
room_left (Map x) = cells_left x.cells.state x.cells.bank x.cells.todo
room_left (Queue x) = cells_left x.cells.state x.cells.bank x.cells.todo
room_left (Thread x) = cells_left x.cells.state x.cells.bank x.cells.todo
room_left (Super x) = refl

pub rooms_left : (xs : List Room) → restores_left xs ≡ restores_left (restored_on xs) + one_if (any_left xs)
rooms_left [] = refl
rooms_left (x ∷ xs) = go (has_left x) (room_left x) (rooms_left xs)
  where
    go : (b : Bool) → events_in x ≡ events_in (restored x) + one_if b → restores_left xs ≡ restores_left (restored_on xs) + one_if (any_left xs)
        → events_in x + restores_left xs ≡ events_in (restored x) + restores_left (if b then xs else restored_on xs) + one_if (b || any_left xs)
    go true here tail = omega (arith, here)
    go false here tail = omega (arith, here, tail)

-- nothing is left where no room has an event left
none_left : (xs : List Room) → any_left xs ≡ false → restores_left xs ≡ restores_left (restored_on xs)
none_left xs none = let all = rooms_left xs in let one = ap one_if none in omega (arith, all, one)

no_event : (todo : List RestoreEvent) → are_left todo ≡ false → length todo ≡ 0
no_event [] none = refl
no_event (event ∷ events) none = absurd (cc)

no_events : (x : Room) → has_left x ≡ false → events_in x ≡ 0
no_events (Map x) none = no_event x.cells.todo none
no_events (Queue x) none = no_event x.cells.todo none
no_events (Thread x) none = no_event x.cells.todo none
no_events (Super x) none = refl

none_first : (a b : Bool) → (a || b) ≡ false → a ≡ false
none_first true b e = e
none_first false b e = refl

none_second : (a b : Bool) → (a || b) ≡ false → b ≡ false
none_second true b e = absurd (cc)
none_second false b e = e

pub nothing_left : (xs : List Room) → any_left xs ≡ false → restores_left xs ≡ 0
nothing_left [] none = refl
nothing_left (x ∷ xs) none =
    let here = no_events x (none_first (has_left x) (any_left xs) none) in
    let tail = nothing_left xs (none_second (has_left x) (any_left xs) none) in
    omega (arith, here, tail)

goes_on_at : (stage : EpochStage) (r : RecoveryState) → r.stage ≡ stage → stage ≢ InMemory → left_at stage r.rooms ≡ events_left (stepped_in stage r) + 1
goes_on_at Before r at going = go (any_left r.rooms) refl
  where
    go : (b : Bool) → any_left r.rooms ≡ b → restores_left r.rooms + 3 ≡ events_left (if b then record r { rooms = restored_on r.rooms } else record r { rooms = with_last next_stored (restored_on r.rooms); stage = Stored }) + 1
    go true some =
        let all = rooms_left r.rooms in
        let one = ap one_if some in
        let here : left_at r.stage (restored_on r.rooms) ≡ restores_left (restored_on r.rooms) + 3 = ap (λ (s : EpochStage). left_at s (restored_on r.rooms)) at in
        omega (arith, all, one, here)
    go false none = let nothing = nothing_left r.rooms none in omega (arith, nothing)
goes_on_at Stored r at going = refl
goes_on_at AskedFor r at going = refl
goes_on_at InMemory r at going = absurd (going refl)

pub goes_on : RecoveryGoesOnLaw
goes_on r going = goes_on_at r.stage r refl going

-- behind the store of the next epoch two events are left
pub left_stored : (r : RecoveryState) → r.stage ≡ Before → any_left r.rooms ≡ false → events_left r ≡ 2 + 1
left_stored r at none =
    let nothing = nothing_left r.rooms none in
    let here : events_left r ≡ restores_left r.rooms + 3 = ap (λ (s : EpochStage). left_at s r.rooms) at in
    omega (arith, nothing, here)

-- behind an event of a restore one fewer is left
pub left_restored : (r : RecoveryState) (rooms : List Room) → r.stage ≡ Before → any_left r.rooms ≡ true → rooms ≡ restored_on r.rooms → events_left r ≡ events_left (record r { rooms = rooms }) + 1
left_restored r rooms at some made =
    let all = rooms_left r.rooms in
    let one = ap one_if some in
    let same = ap restores_left made in
    let here : events_left r ≡ restores_left r.rooms + 3 = ap (λ (s : EpochStage). left_at s r.rooms) at in
    let behind : events_left (record r { rooms = rooms }) ≡ restores_left rooms + 3 = ap (λ (s : EpochStage). left_at s rooms) at in
    omega (arith, all, one, same, here, behind)
